-- The releases of a notice are numbered from 1 to its count.
use Rattle.office_machine.proofs.Names.{◌≡◌, ℕ, ◌+◌, Bool, true, false, cond, ◌&&◌, List, [], ◌∷◌, Option, Some, None, is_some, option_map, refl, sym, ◌∙◌, ap, subst, arith, nat_le, IsSome, option_and_then, nat_tests, eq_by_cmp, same_id, row_at, ReleaseRow, release_cmp, find_notice, find_release, put_release, published_for, releases_in, Means, Given, next, AreNumbered, ReleasesAreNumbered, equal_ids, equal_keys, same_itself, own_key}
use Rattle.office_machine.proofs.Rows.Keyed.{found_put, elsewhere}
use Rattle.office_machine.proofs.Rows.Keyed as keyed
use Rattle.office_machine.proofs.Releases.ReleasesCounted.{Counts, published}
use Rattle.office_machine.proofs.Parents.ParentsThere.{parents_there}
use Rattle.office_machine.proofs.Releases.NextIs.{with_release, NextIs, next_is}

-- the number is from 1 to this count
abbrev among : ℕ → ℕ → Bool
among k n = nat_le 1 k && nat_le k n

module _ (rows : List ReleaseRow) (r : ReleaseRow) (counts counts' : List ℕ → ℕ) (old : (n : List ℕ) (k : ℕ) → is_some (find_release rows (n, k)) ≡ among k (counts n))
    (next_is : r.seq ≡ counts r.notice + 1) (more : (n : List ℕ) → counts' n ≡ cond (same_id r.notice n) 1 0 + counts n) where
  here : (n : List ℕ) (k : ℕ) → ◌≡◌ {A = List ℕ × ℕ} (n, k) (r.notice, r.seq) → is_some (find_release (put_release rows r) (n, k)) ≡ among k (counts' n)
  here n k e =
      let one : n ≡ r.notice = ap (λ (p : List ℕ × ℕ). p.0) e in
      let two : k ≡ r.seq = ap (λ (p : List ℕ × ℕ). p.1) e in
      let found = ap (λ q. is_some (find_release (put_release rows r) q)) e ∙ ap is_some (found_put keyed.releases rows r) in
      let own : counts' n ≡ 1 + counts n = more n ∙ ap (λ b. cond b 1 0 + counts n) (ap (same_id r.notice) one ∙ same_itself r.notice) in
      let count : counts n ≡ counts r.notice = ap counts one in
      let low : nat_le 1 k ≡ true = grind (arith, nat_tests, two, next_is) in
      let high : nat_le k (counts' n) ≡ true = grind (arith, nat_tests, two, next_is, own, count) in
      found ∙ sym (ap (λ b. b && nat_le k (counts' n)) low ∙ high)

  apart : (n : List ℕ) (k : ℕ) → eq_by_cmp release_cmp (n, k) (r.notice, r.seq) ≡ false → (b : Bool) → same_id r.notice n ≡ b → is_some (find_release (put_release rows r) (n, k)) ≡ among k (counts' n)
  apart n k e false is =
      let zero : counts' n ≡ 0 + counts n = more n ∙ ap (λ b. cond b 1 0 + counts n) is in
      let same : counts' n ≡ counts n = omega (arith, zero) in
      ap is_some (elsewhere keyed.releases rows r (n, k) e) ∙ (old n k ∙ ap (among k) (sym same))
  apart n k e true is =
      let one : r.notice ≡ n = equal_ids r.notice n is in
      let own : counts' n ≡ 1 + counts n = more n ∙ ap (λ b. cond b 1 0 + counts n) is in
      let count : counts r.notice ≡ counts n = ap counts one in
      let differs : k ≡ r.seq → ⊥ = λ two. let clash : true ≡ false = sym (own_key keyed.releases.total (n, k)) ∙ (λ i. eq_by_cmp release_cmp (n, k) (sym one i, two i)) ∙ e in cc in
      let bound : nat_le k (counts' n) ≡ nat_le k (counts n) = grind (arith, nat_tests, differs, next_is, own, count) in
      ap is_some (elsewhere keyed.releases rows r (n, k) e) ∙ (old n k ∙ sym (ap (λ b. nat_le 1 k && b) bound))

  step : (n : List ℕ) (k : ℕ) → is_some (find_release (put_release rows r) (n, k)) ≡ among k (counts' n)
  step n k = by (eq_by_cmp release_cmp (n, k) (r.notice, r.seq)) refl
    where
      by : (b : Bool) → eq_by_cmp release_cmp (n, k) (r.notice, r.seq) ≡ b → is_some (find_release (put_release rows r) (n, k)) ≡ among k (counts' n)
      by true e = here n k (equal_keys keyed.releases.exact (n, k) (r.notice, r.seq) e)
      by false e = apart n k e (same_id r.notice n) refl

abbrev released_rows : Means → Given → List ReleaseRow → Option (List ℕ) → List ReleaseRow
released_rows means x rows o = with_release (option_and_then (Rattle.office_machine.specs.Machine.release_of_notice means x) o) rows

numbered_by : (means : Means) (x : Given) → NextIs means x → AreNumbered x.before → (text : Option (List ℕ)) → means.release x ≡ text → (key : Option (List ℕ)) → published_for x.before x.command ≡ key → (IsSome key → IsSome text)
    → Counts x.before.notices (next means x).notices key → AreNumbered (next means x)
numbered_by means x is old text made None e makes counts = λ n k.
    ap (λ rows. is_some (find_release rows (n, k))) (is.releases ∙ ap (released_rows means x x.before.releases) e)
    ∙ (old n k ∙ ap (among k) (let one = counts.count n in omega (arith, one)))
numbered_by means x is old None made (Some m) e makes counts = absurd (let none : false ≡ true = makes refl in cc)
numbered_by means x is old (Some text) made (Some m) e makes counts = λ n k.
    ap (λ rows. is_some (find_release rows (n, k))) (is.releases ∙ ap (released_rows means x x.before.releases) e
    ∙ ap (λ o. with_release (option_map (Rattle.office_machine.specs.Machine.release_row x m) o) x.before.releases) made)
    ∙ step x.before.releases (Rattle.office_machine.specs.Machine.release_row x m text) (λ n. releases_in (find_notice x.before.notices n)) (λ n. releases_in (find_notice (next means x).notices n)) old refl (λ n. counts.count n) n k

pub releases_numbered : ReleasesAreNumbered
unfolding row_at
releases_numbered means makes [] t reached = subst AreNumbered (sym reached) (λ n k. none k)
  where
    none : (k : ℕ) → false ≡ among k 0
    none k = grind (arith, nat_tests)
releases_numbered means makes (x ∷ xs) t reached =
    let is = next_is means x (parents_there means xs x.before reached.reached) reached.allowed in
    subst AreNumbered (sym reached.is)
    (numbered_by means x is (releases_numbered means makes xs x.before reached.reached) (means.release x) refl (published_for x.before x.command) refl (makes x) (published means x is))
