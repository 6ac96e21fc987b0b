-- Each release of a notice is at the place in the sequence that its number says.
use Rattle.office_publications.proofs.Names.{◌≡◌, ◌≤◌, ◌<◌, ◌&&◌, ◌||◌, zero, suc, nat_eq, nat_le, slice_get, ℕ, ◌+◌, Bool, true, false, cond, List, [], ◌∷◌, map, length, filter, Option, Some, None, is_some, refl, sym, ap, ◌∙◌, arith, nat_tests, slice_get_past, nat_cmp_is, AllByRecursion, nat_cmp, ordering_then, Equal, Greater, id_cmp, same_id, release_limit, by_order, row_at, StartsAbove, IsInOrder, Tables, IsSorted, notice_at, release_at, release_cmp, release_key, release_numbers, releases_of_notice, ReleaseRow, equal_ids, same_itself, same_key, found_key, if_passes, in_order-filter, row_at-filter, releases_in, numbers, AreNumbered, FindsAll, keys_are, has_last_release, has_release, AreInSequence}
use Rattle.office_machine.proofs.Rows.Keyed as keyed

abbrev seq_of : ReleaseRow → ℕ
seq_of r = r.seq

abbrev is_of : List ℕ → ReleaseRow → Bool
is_of notice r = same_id r.notice notice

abbrev AreOf : List ℕ → List ReleaseRow → Type 0
AreOf notice rows = AllByRecursion (λ (r : ReleaseRow). is_of notice r ≡ true) rows

-- ---- rows numbered one after another are found at their places

at_place : (n from : ℕ) (rows : List ReleaseRow) → map seq_of rows ≡ numbers from n → (k : ℕ) → slice_get rows k ≡ row_at nat_cmp seq_of rows (from + k)
unfolding row_at
at_place n from [] are k = refl
at_place zero from (r ∷ rows) are k = absurd cc
at_place (suc n) from (r ∷ rows) are zero =
    let first : r.seq ≡ from = cc in
    ap (λ o. by_order o None (Some r) (row_at nat_cmp seq_of rows (from + 0))) (nat_cmp_is (from + 0) r.seq Equal (omega (arith, first)))
at_place (suc n) from (r ∷ rows) are (suc k) =
    let first : r.seq ≡ from = cc in
    let rest : map seq_of rows ≡ numbers (from + 1) n = cc in
    let next : from + 1 + k ≡ from + suc k = omega arith in
    at_place n (from + 1) rows rest k
    ∙ ap (row_at nat_cmp seq_of rows) next
    ∙ ap (λ o. by_order o None (Some r) (row_at nat_cmp seq_of rows (from + suc k))) (nat_cmp_is (from + suc k) r.seq Greater (omega (arith, first)))

as_many : (n from : ℕ) (rows : List ReleaseRow) → map seq_of rows ≡ numbers from n → length rows ≡ n
as_many zero from [] are = refl
as_many zero from (r ∷ rows) are = absurd cc
as_many (suc n) from [] are = absurd cc
as_many (suc n) from (r ∷ rows) are = let rest : map seq_of rows ≡ numbers (from + 1) n = cc in ap suc (as_many n (from + 1) rows rest)

or_true : (b : Bool) → (b || true) ≡ true
or_true true = refl
or_true false = refl

there : (rows : List ReleaseRow) (k : ℕ) → k < length rows → is_some (slice_get rows k) ≡ true
there [] k less = absurd (omega (arith, less))
there (r ∷ rows) zero less = refl
there (r ∷ rows) (suc k) less = there rows k (omega (arith, less))

-- ---- rows of one notice are in the order of their numbers

module _ (notice : List ℕ) where
  filtered : (rows : List ReleaseRow) → AreOf notice (filter (is_of notice) rows)
  filtered [] = tt
  filtered (r ∷ rows) =
      elim (is_of notice r) as (λ b. is_of notice r ≡ b → AreOf notice (cond b (r ∷ filter (is_of notice) rows) (filter (is_of notice) rows))) [
        | true ↦ λ own. (own, filtered rows)
        | false ↦ λ other. filtered rows
      ] refl

  by_seq : (q : ℕ) (r : ReleaseRow) → is_of notice r ≡ true → release_cmp (notice, q) (release_key r) ≡ nat_cmp q r.seq
  by_seq q r own =
      let first : id_cmp notice r.notice ≡ Equal = ap (id_cmp notice) (equal_ids r.notice notice own) ∙ same_key keyed.notices.total notice in
      ap (λ o. ordering_then o (nat_cmp q r.seq)) first

  found_by_seq : (q : ℕ) (rows : List ReleaseRow) → AreOf notice rows → row_at release_cmp release_key rows (notice, q) ≡ row_at nat_cmp seq_of rows q
  unfolding row_at
  found_by_seq q [] are = refl
  found_by_seq q (r ∷ rows) are = λ i. by_order (by_seq q r are.0 i) None (Some r) (found_by_seq q rows are.1 i)

  starts_by_seq : (r : ReleaseRow) (rows : List ReleaseRow) → is_of notice r ≡ true → AreOf notice rows
      → StartsAbove release_cmp release_key (release_key r) rows → StartsAbove nat_cmp seq_of r.seq rows
  starts_by_seq r [] own are above = tt
  starts_by_seq r (q ∷ rows) own are above =
      let same : release_cmp (notice, r.seq) (release_key q) ≡ release_cmp (release_key r) (release_key q) =
      ap (λ (n : List ℕ). release_cmp (n, r.seq) (release_key q)) (sym (equal_ids r.notice notice own)) in
      sym (by_seq r.seq q are.0) ∙ same ∙ above

  in_order : (rows : List ReleaseRow) → AreOf notice rows → IsInOrder release_cmp release_key rows → IsInOrder nat_cmp seq_of rows
  in_order [] are order = tt
  in_order (r ∷ rows) are order = (starts_by_seq r rows are.0 are.1 order.0, in_order rows are.1 order.1)

  -- ---- the releases of a notice

  module _ (s : Tables) (sorted : IsSorted s) where
    passes : (q : ℕ) (o : Option ReleaseRow) → release_at (notice, q) s ≡ o → if_passes (is_of notice) o ≡ o
    passes q None found = refl
    passes q (Some r) found =
        let key : release_key r ≡ (notice, q) = found_key keyed.releases s.releases (notice, q) r found in
        let own : is_of notice r ≡ true = ap (λ (k : List ℕ × ℕ). same_id k.0 notice) key ∙ same_itself notice in
        ap (λ b. cond b (Some r) None) own

    at_number : (q : ℕ) → row_at nat_cmp seq_of (releases_of_notice notice s) q ≡ release_at (notice, q) s
    at_number q =
        sym (found_by_seq q (releases_of_notice notice s) (filtered s.releases))
        ∙ row_at-filter keyed.releases (is_of notice) s.releases (notice, q) sorted.releases
        ∙ passes q (release_at (notice, q) s) refl

    -- the release with the number after this place
    pub placed : (count : ℕ) → release_numbers notice s ≡ numbers 1 count → (k : ℕ) → slice_get (releases_of_notice notice s) k ≡ release_at (notice, k + 1) s
    placed count are k = at_place count 1 (releases_of_notice notice s) are k ∙ at_number (1 + k) ∙ ap (λ n. release_at (notice, n) s) (omega arith)

    last : (count : ℕ) → release_numbers notice s ≡ numbers 1 count → has_last_release notice count s ≡ true
    last zero are = refl
    last (suc k) are =
        let many = as_many (suc k) 1 (releases_of_notice notice s) are in
        let more : k + 1 ≡ suc k = omega arith in
        let found : is_some (release_at (notice, suc k) s) ≡ true =
        ap (λ n. is_some (release_at (notice, n) s)) (sym more) ∙ ap is_some (sym (placed (suc k) are k)) ∙ there (releases_of_notice notice s) k (omega (arith, many)) in
        ap (λ b. nat_eq (suc k) 0 || b) found ∙ or_true (nat_eq (suc k) 0)

    pub last_and_next : (count : ℕ) → release_numbers notice s ≡ numbers 1 count
        → (has_last_release notice count s ≡ true) × (has_release notice (count + 1) s ≡ false)
    last_and_next count are =
        let many = as_many count 1 (releases_of_notice notice s) are in
        (last count are, ap is_some (sym (placed count are count)) ∙ ap is_some (slice_get_past (releases_of_notice notice s) count (omega (arith, many))))

  module _ (s : Tables) (sorted : IsSorted s) (numbered : AreNumbered s) where
    abbrev rows : List ReleaseRow
    rows = releases_of_notice notice s

    abbrev count : ℕ
    count = releases_in (notice_at notice s)

    finds : FindsAll seq_of 1 count rows
    finds = record {
      here = λ q low high. ap is_some (at_number s sorted q) ∙ numbered notice q ∙ grind (arith, nat_tests, low, high);
      nowhere = λ q r found.
          let both : (nat_le 1 q && nat_le q count) ≡ true = sym (numbered notice q) ∙ sym (ap is_some (at_number s sorted q)) ∙ ap is_some found in
          within q both;
    }
      where
        within : (q : ℕ) → (nat_le 1 q && nat_le q count) ≡ true → (1 ≤ q) × (q < 1 + count)
        within q both = (grind (arith, nat_tests, both), grind (arith, nat_tests, both))

    are : map seq_of rows ≡ numbers 1 count
    are = keys_are seq_of count 1 rows (in_order rows (filtered s.releases) (in_order-filter keyed.releases.total release_key (is_of notice) s.releases sorted.releases)) finds

    pub in_sequence : count ≤ release_limit → AreInSequence notice s
    in_sequence few = record {
      place = placed s sorted count are;
      counted = sym (as_many count 1 rows are);
      numbered = are;
      within = let many = as_many count 1 rows are in omega (arith, many, few);
    }
