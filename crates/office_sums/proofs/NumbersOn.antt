-- The numbers of a notice's releases after one more release, and the numbers that are remembered then.
use Rattle.office_sums.proofs.Names.{◌≡◌, ℕ, zero, suc, ◌≤◌, ◌<◌, Bool, true, false, cond, List, [], ◌∷◌, ◌++◌, map, filter, Option, Some, None, Result, Ok, Err, OnOk, OnErr, refl, sym, ap, subst, ◌∙◌, arith, map-append, BTreeMap, is_at, Updates, exact_bytes, tells_apart, nat_cmp_is, nat_list_cmp_total, texts_ties, AllByRecursion, nat_cmp, ordering_then, Equal, Greater, id_cmp, same_id, row_at, holds_of, Tables, IsSorted, release_cmp, release_key, release_numbers, after_put, ReleaseRow, equal_ids, releases_exact, same_itself, releases_total, same_key, IsKeyed, found_key, numbers_to, count_at, CountsReleases, ForgetsNotice}
use Rattle.office_base.specs.declared.puts.Put.TheVariants as puts
use Rattle.office_sums.proofs.PutLast.{put_last, IsBelow}
use Rattle.office_sums.proofs.PutRows.{filter-put}

abbrev seq_of : ReleaseRow → ℕ
seq_of r = r.seq

abbrev is_of : List ℕ → ReleaseRow → Bool
is_of notice r = same_id r.notice notice

releases_keyed : IsKeyed release_cmp release_key
releases_keyed = record { total = releases_total; exact = releases_exact }

all_append : {X : Type 0} (P : X → Type 0) (xs ys : List X) → AllByRecursion P xs → AllByRecursion P ys → AllByRecursion P (xs ++ ys)
all_append P [] ys h k = k
all_append P (x ∷ xs) ys h k = (h.0, all_append P xs ys h.1 k)

numbers_within : (n k : ℕ) → n ≤ k → AllByRecursion (λ q. q ≤ k) (numbers_to n)
numbers_within zero k le = tt
numbers_within (suc n) k le = all_append (λ q. q ≤ k) (numbers_to n) (suc n ∷ []) (numbers_within n k (omega (arith, le))) (le, tt)

-- a row of the notice has a number up to this one
abbrev IsWithin : ℕ → List ℕ → ReleaseRow → Type 0
IsWithin k notice y = is_of notice y ≡ true → y.seq ≤ k

within_step : (k : ℕ) (notice : List ℕ) (x : ReleaseRow) (xs kept : List ReleaseRow) → (AllByRecursion (λ q. q ≤ k) (map seq_of kept) → AllByRecursion (IsWithin k notice) xs)
    → (b : Bool) → is_of notice x ≡ b → AllByRecursion (λ q. q ≤ k) (map seq_of (cond b (x ∷ kept) kept)) → IsWithin k notice x × AllByRecursion (IsWithin k notice) xs
within_step k notice x xs kept rest true e all = (λ own. all.0, rest all.1)
within_step k notice x xs kept rest false e all = (λ own. absurd (let no : false ≡ true = sym e ∙ own in cc), rest all)

rows_within : (k : ℕ) (notice : List ℕ) (xs : List ReleaseRow) → AllByRecursion (λ q. q ≤ k) (map seq_of (filter (is_of notice) xs)) → AllByRecursion (IsWithin k notice) xs
rows_within k notice [] all = tt
rows_within k notice (x ∷ xs) all = within_step k notice x xs (filter (is_of notice) xs) (rows_within k notice xs) (is_of notice x) refl all

module _ (r : ReleaseRow) where
  is_below : (k : ℕ) → k < r.seq → (y : ReleaseRow) → IsWithin k r.notice y → IsBelow releases_total release_key (is_of r.notice) r y
  is_below k less y within own =
      let first : id_cmp r.notice y.notice ≡ Equal = ap (id_cmp r.notice) (equal_ids y.notice r.notice own) ∙ same_key nat_list_cmp_total r.notice in
      let at_most = within own in
      ap (λ o. ordering_then o (nat_cmp r.seq y.seq)) first ∙ sym (nat_cmp_is r.seq y.seq Greater (omega (arith, at_most, less)))

  are_below : (k : ℕ) → k < r.seq → (xs : List ReleaseRow) → AllByRecursion (IsWithin k r.notice) xs → AllByRecursion (IsBelow releases_total release_key (is_of r.notice) r) xs
  are_below k less [] all = tt
  are_below k less (y ∷ ys) all = (is_below k less y all.0, are_below k less ys all.1)

  -- the release has the next number
  pub next_numbers : (t : Tables) → IsSorted t → (count : ℕ) → r.seq ≡ suc count → release_numbers r.notice t ≡ numbers_to count
      → release_numbers r.notice (after_put (puts.Release r) t) ≡ numbers_to r.seq
  next_numbers t sorted count is are =
      let bounded : AllByRecursion (λ q. q ≤ count) (release_numbers r.notice t) = subst (AllByRecursion (λ q. q ≤ count)) (sym are) (numbers_within count count (omega arith)) in
      let below = are_below count (omega (arith, is)) t.releases (rows_within count r.notice t.releases bounded) in
      ap (map seq_of) (put_last releases_total release_key (is_of r.notice) r (same_itself r.notice) t.releases sorted.releases below)
      ∙ map-append seq_of (filter (is_of r.notice) t.releases) (r ∷ [])
      ∙ ap (λ ns. ns ++ r.seq ∷ []) are
      ∙ ap (λ n. numbers_to count ++ n ∷ []) is
      ∙ sym (ap numbers_to is)

  replaced_apart : (notice : List ℕ) → same_id r.notice notice ≡ false → (xs : List ReleaseRow) (found : Option ReleaseRow) → row_at release_cmp release_key xs (release_key r) ≡ found
      → holds_of (is_of notice) found ≡ false
  replaced_apart notice apart xs None e = refl
  replaced_apart notice apart xs (Some y) e =
      let key : release_key y ≡ release_key r = found_key releases_keyed xs (release_key r) y e in
      ap (λ (k : List ℕ × ℕ). same_id k.0 notice) key ∙ apart

  -- the numbers of another notice stay
  pub other_numbers : (t : Tables) (notice : List ℕ) → same_id r.notice notice ≡ false → release_numbers notice (after_put (puts.Release r) t) ≡ release_numbers notice t
  other_numbers t notice apart =
      ap (map seq_of) (filter-put release_cmp release_key (is_of notice) t.releases r apart
      (replaced_apart notice apart t.releases (row_at release_cmp release_key t.releases (release_key r)) refl))

  -- the notices that are left after the release's notice was forgotten
  pub others_stay : (known left : List (List ℕ × ℕ)) (t : Tables) → ForgetsNotice r.notice known left → CountsReleases known t → CountsReleases left (after_put (puts.Release r) t)
  others_stay known left t forgets h = record {
    each = λ notice count found.
        let was = forgets.each notice count found in
        other_numbers t notice was.1 ∙ h.each notice count was.0;
  }

forget_step : (b : Bool) (old new : Option ℕ) (count : ℕ) → new ≡ cond b None old → new ≡ Some count → (old ≡ Some count) × (b ≡ false)
forget_step true old new count is found = absurd (let none : None ≡ Some count = sym is ∙ found in cc)
forget_step false old new count is found = (sym is ∙ found, refl)

pub forgotten : (notice : List ℕ) (old new : List (List ℕ × ℕ)) → ((q : List ℕ) → count_at new q ≡ cond (is_at (id_cmp notice) q) None (count_at old q)) → ForgetsNotice notice old new
forgotten notice old new each = record {
  each = λ q count found.
      let left : (count_at old q ≡ Some count) × (is_at (id_cmp notice) q ≡ false) = forget_step (is_at (id_cmp notice) q) (count_at old q) (count_at new q) count (each q) found in
      (left.0, texts_ties notice q ∙ left.1);
}

put_step : (notice q : List ℕ) (count found : ℕ) (old new : Option ℕ) (t : Tables) → release_numbers notice t ≡ numbers_to count → (old ≡ Some found → release_numbers q t ≡ numbers_to found)
    → (b : Bool) → (b ≡ true → notice ≡ q) → new ≡ cond b (Some count) old → new ≡ Some found → release_numbers q t ≡ numbers_to found
put_step notice q count found old new t are h true same is there =
    let one : count ≡ found = let both : Some count ≡ Some found = sym is ∙ there in cc in
    subst (λ k. release_numbers k t ≡ numbers_to found) (same refl) (are ∙ ap numbers_to one)
put_step notice q count found old new t are h false same is there = h (sym is ∙ there)

one_more : (notice : List ℕ) (count : ℕ) (old new : List (List ℕ × ℕ)) (t : Tables) → ((q : List ℕ) → count_at new q ≡ cond (is_at (id_cmp notice) q) (Some count) (count_at old q))
    → release_numbers notice t ≡ numbers_to count → CountsReleases old t → CountsReleases new t
one_more notice count old new t each are h = record {
  each = λ q found there. put_step notice q count found (count_at old q) (count_at new q) t are (h.each q found) (is_at (id_cmp notice) q) (tells_apart exact_bytes notice q) (each q) there;
}

-- one notice is added, or gets another number, whether there was memory for it or not
pub put : {T E : Type 0} (result : Result T E) (notice : List ℕ) (count : ℕ) (old new : BTreeMap (List ℕ) ℕ) (t : Tables)
    → OnOk result (Updates id_cmp old new notice (Some count)) → OnErr result (new.entries ≡ old.entries) → release_numbers notice t ≡ numbers_to count
    → CountsReleases old.entries t → CountsReleases new.entries t
put (Ok v) notice count old new t updates same are h = one_more notice count old.entries new.entries t updates.0 are h
put (Err e) notice count old new t updates same are h = subst (λ known. CountsReleases known t) (sym same) h

-- nothing is remembered
pub none_counted : (t : Tables) → CountsReleases [] t
none_counted t = record { each = λ notice count found. absurd (let none : None ≡ Some count = found in cc) }
