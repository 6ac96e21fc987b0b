-- Releases that are taken one after another by their places.
use Rattle.office_desk.proofs.Names.{◌≡◌, ◌<◌, ◌-◌, ℕ, suc, ◌+◌, List, [], ◌∷◌, Option, Some, None, IfSome, All, length, map, get_or, slice_get, refl, sym, ap, ◌∙◌, subst, arith, inl, inr, AllByRecursion, length-map, All-from_recursion, All-get_or, slice_get_cases, moment_of, moment_of_last, ReleaseRow, Tables, release_at, releases_of_notice, as_many, AreSoMany, AreAllThere, IsInRange, IsExtentOf, IsWritten, Extent}

-- The moment of the last of these rows, which follow others whose last one has this moment.
abbrev pub last_after : Option ℕ → List ReleaseRow → Option ℕ
last_after last [] = last
last_after last (r ∷ rows) = last_after (Some r.moment) rows

-- The extent so far, together with the rest, is the extent of all releases.
pub record Measures (ocid : List ℕ) (last : Option ℕ) (rest all : List ReleaseRow) : Type 0 where
  pub moment : last_after last rest ≡ last_after None all
  pub range : AllByRecursion IsInRange rest → AllByRecursion IsInRange all
  pub written : AllByRecursion (IsWritten ocid) rest → AllByRecursion (IsWritten ocid) all

pub measures_next : (ocid : List ℕ) (last : Option ℕ) (rest more all : List ReleaseRow) (r : ReleaseRow) → rest ≡ r ∷ more → IsInRange r → IsWritten ocid r
    → Measures ocid last rest all → Measures ocid (Some r.moment) more all
measures_next ocid last rest more all r is range written so_far =
    let here : Measures ocid last (r ∷ more) all = subst (λ (l : List ReleaseRow). Measures ocid last l all) is so_far in
    record { moment = here.moment; range = λ later. here.range (range, later); written = λ later. here.written (written, later) }

last_of : (last : Option ℕ) (r : ReleaseRow) (rows : List ReleaseRow) → last_after last (r ∷ rows) ≡ Some (moment_of_last (r ∷ rows))
last_of last r [] = refl
last_of last r (q ∷ rows) =
    let moments : List ℕ = map moment_of (q ∷ rows) in
    let n = length rows in
    let here : suc n - 1 ≡ n = omega arith in
    let behind : suc (suc n) - 1 ≡ suc n = omega arith in
    last_of (Some r.moment) q rows
    ∙ ap (λ (k : ℕ). Some (get_or moments k 0)) here
    ∙ sym (ap (λ (k : ℕ). Some (get_or (r.moment ∷ moments) k 0)) behind)

ends : (rows : List ReleaseRow) → IfSome (last_after None rows) (λ moment. (0 < length rows) × (moment_of_last rows ≡ moment))
ends [] = tt
ends (r ∷ rows) =
    subst (λ (o : Option ℕ). IfSome o (λ moment. (0 < length (r ∷ rows)) × (moment_of_last (r ∷ rows) ≡ moment))) (sym (last_of None r rows)) (omega arith, refl)

module _ (ocid : List ℕ) (extent : Extent) (rows rest : List ReleaseRow) (none : rest ≡ []) (so_far : Measures ocid extent.last rest rows) where
  all : Measures ocid extent.last [] rows
  all = subst (λ (l : List ReleaseRow). Measures ocid extent.last l rows) none so_far

  pub measured : IsExtentOf extent rows
  measured = record {
    last = subst (λ (o : Option ℕ). IfSome o (λ moment. (0 < length rows) × (moment_of_last rows ≡ moment))) (sym all.moment) (ends rows);
    range = All-from_recursion IsInRange rows (all.range tt);
  }

  pub all_written : All (IsWritten ocid) rows
  all_written = All-from_recursion (IsWritten ocid) rows (all.written tt)

-- ---- the releases that exist

-- A notice has releases with the numbers from 1 to this one and no others, each at its place, and all are as the office writes them. Then each can be shown.
pub all_there : (ocid notice : List ℕ) (count : ℕ) (s : Tables) → AreSoMany notice count s
    → ((k : ℕ) → slice_get (releases_of_notice notice s) k ≡ release_at (notice, k + 1) s) → All (IsWritten ocid) (releases_of_notice notice s) → AreAllThere ocid notice count s
all_there ocid notice count s many place written k low = elim (slice_get_cases rows k).1 [
  | inl (r, within, is, same) ↦ (r, sym (place k) ∙ is, subst (IsWritten ocid) same (All-get_or (IsWritten ocid) rows k r within written))
  | inr (past, _) ↦ absurd (omega (arith, past, low, so_many))
]
  where
    rows : List ReleaseRow
    rows = releases_of_notice notice s

    so_many : length rows ≡ count
    so_many = sym (length-map rows (λ (r : ReleaseRow). r.seq)) ∙ ap length many ∙ as_many count 1
