-- The releases of a notice are counted.
use Rattle.office_machine.proofs.Names.{◌≡◌, ℕ, ◌+◌, ◌≤◌, Bool, true, false, cond, List, [], ◌∷◌, Option, Some, None, refl, sym, ◌∙◌, ap, subst, arith, same_id, release_limit, row_at, NoticeRow, Tables, find_notice, put_notice, Means, Given, next, names_notice, AreCounted, ReleasesAreCounted, published_for, releases_in, equal_ids, same_id_is}
use Rattle.office_machine.proofs.Rows.Keyed.{found_put, elsewhere}
use Rattle.office_machine.proofs.Rows.Keyed as keyed
use Rattle.office_machine.proofs.Parents.ParentsThere.{parents_there}
use Rattle.office_machine.proofs.Commands.Tail.{CountsNext, with_notice}
use Rattle.office_machine.proofs.Releases.NextIs.{NextIs, next_is}

-- its row counts one release more
pub record Counts (rows rows' : List NoticeRow) (key : Option (List ℕ)) : Type 0 where
  pub count : (n : List ℕ) → releases_in (find_notice rows' n) ≡ cond (names_notice n key) 1 0 + releases_in (find_notice rows n)
  pub within : (n : List ℕ) → releases_in (find_notice rows n) ≤ release_limit → releases_in (find_notice rows' n) ≤ release_limit

none_counted : (rows rows' : List NoticeRow) → rows' ≡ rows → Counts rows rows' None
none_counted rows rows' e = record {
  count = λ n. let same = ap (λ r. releases_in (find_notice r n)) e in omega (arith, same);
  within = λ n le. let same = ap (λ r. releases_in (find_notice r n)) e in omega (arith, same, le);
}

module _ (rows rows' : List NoticeRow) (row : NoticeRow) (key : List ℕ) (is : rows' ≡ put_notice rows row) (at : row.notice ≡ key) (more : row.releases ≡ releases_in (find_notice rows key) + 1) (few : row.releases ≤ release_limit) where
  here : (n : List ℕ) → key ≡ n → find_notice rows' n ≡ Some row
  here n e = ap (λ r. find_notice r n) is ∙ (ap (find_notice (put_notice rows row)) (sym (at ∙ e)) ∙ found_put keyed.notices rows row)

  there : (n : List ℕ) → same_id key n ≡ false → find_notice rows' n ≡ find_notice rows n
  there n e = ap (λ r. find_notice r n) is ∙ elsewhere keyed.notices rows row n (sym (same_id_is row.notice n) ∙ (ap (λ k. same_id k n) at ∙ e))

  count_by : (n : List ℕ) (b : Bool) → same_id key n ≡ b → releases_in (find_notice rows' n) ≡ cond b 1 0 + releases_in (find_notice rows n)
  count_by n true e = let same = ap releases_in (here n (equal_ids key n e)) in let old = ap (λ k. releases_in (find_notice rows k)) (equal_ids key n e) in omega (arith, same, old, more)
  count_by n false e = let same = ap releases_in (there n e) in omega (arith, same)

  within_by : (n : List ℕ) (b : Bool) → same_id key n ≡ b → releases_in (find_notice rows n) ≤ release_limit → releases_in (find_notice rows' n) ≤ release_limit
  within_by n true e le = let same = ap releases_in (here n (equal_ids key n e)) in omega (arith, same, few)
  within_by n false e le = let same = ap releases_in (there n e) in omega (arith, same, le)

  counted : Counts rows rows' (Some key)
  counted = record { count = λ n. count_by n (same_id key n) refl; within = λ n. within_by n (same_id key n) refl }

by_tail : (s : Tables) (rows' : List NoticeRow) (key : Option (List ℕ)) (notice : Option NoticeRow) → rows' ≡ with_notice notice s.notices → CountsNext s key notice
    → Counts s.notices rows' key
by_tail s rows' None None is c = none_counted s.notices rows' is
by_tail s rows' None (Some row) is c = absurd c
by_tail s rows' (Some key) None is c = absurd c
by_tail s rows' (Some key) (Some row) is c = counted s.notices rows' row key is c.0 c.1 c.2

pub published : (means : Means) (x : Given) → NextIs means x → Counts x.before.notices (next means x).notices (published_for x.before x.command)
published means x is = by_tail x.before (next means x).notices (published_for x.before x.command) is.notice is.notices is.counts

pub releases_counted : ReleasesAreCounted
unfolding row_at
releases_counted means [] t reached notice = subst (AreCounted notice []) (sym reached) (record { counted = refl; within = omega arith })
releases_counted means (x ∷ xs) t reached notice =
    let old = releases_counted means xs x.before reached.reached notice in
    let one : Counts x.before.notices (next means x).notices (published_for x.before x.command) =
    published means x (next_is means x (parents_there means xs x.before reached.reached) reached.allowed) in
    subst (AreCounted notice (x ∷ xs)) (sym reached.is) (record { counted = omega (arith, one.count notice, old.counted); within = one.within notice old.within })
