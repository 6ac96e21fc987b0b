-- Each row that was looked up by its key is equal to the row of the table in which it was looked up.
use Rattle.office_plans.proofs.Names.{◌≡◌, ◌⊎◌, ℕ, true, false, Bool, cond, List, [], Option, Some, None, is_some, refl, sym, ap, ◌∙◌, inl, inr, eq_by_cmp, is_eq, ordering_then, Ordering, Less, Equal, Greater, exact_bytes, id_cmp, row_at, row_put, RowsAreKept, lot_cmp, with_row, IsAsIn, AreFrom}

-- A comparison that passes the test of equality is `Equal`.
pub equal_from_test : (r : Ordering) → is_eq r ≡ true → r ≡ Equal
equal_from_test Less e = cc
equal_from_test Equal e = refl
equal_from_test Greater e = cc

-- Keys that compare as equal are equal. This is stated for identifiers and for the keys of lots.
pub exact_ids : (a b : List ℕ) → id_cmp a b ≡ Equal → a ≡ b
exact_ids a b e = exact_bytes a b e

first_equal : (x y : Ordering) → ordering_then x y ≡ Equal → x ≡ Equal
first_equal Less y e = cc
first_equal Equal y e = refl
first_equal Greater y e = cc

second_equal : (x y : Ordering) → ordering_then x y ≡ Equal → y ≡ Equal
second_equal Less y e = cc
second_equal Equal y e = e
second_equal Greater y e = cc

pub exact_lots : (a b : List ℕ × List ℕ) → lot_cmp a b ≡ Equal → a ≡ b
exact_lots a b e =
    let first : a.0 ≡ b.0 = exact_bytes a.0 b.0 (first_equal (id_cmp a.0 b.0) (id_cmp a.1 b.1) e) in
    let second : a.1 ≡ b.1 = exact_bytes a.1 b.1 (second_equal (id_cmp a.0 b.0) (id_cmp a.1 b.1) e) in
    ap (λ x. (x, a.1)) first ∙ ap (λ y. (b.0, y)) second

-- After a look-up of one key, its row is as in the table. At any other key the rows stay as they were, or are as in the table too.
record Takes {K X : Type 0} (R : K → K → Ordering) (key : X → K) (all old new : List X) (k : K) : Type 0 where
  pub here : AreFrom R key all old → IsAsIn R key all new k
  pub either : (q : K) → IsAsIn R key all new q ⊎ (row_at R key new q ≡ row_at R key old q)

-- No rows were looked up yet.
pub none_from : {K X : Type 0} (R : K → K → Ordering) (key : X → K) (all : List X) → AreFrom R key all []
unfolding row_at
none_from R key all q = inl refl

module _ {K X : Type 0} {R : K → K → Ordering} {key : X → K} (laws : RowsAreKept R key) (exact : (a b : K) → R a b ≡ Equal → a ≡ b) (all : List X) where
  module _ (rows : List X) (k : K) (x : X) (found : row_at R key all k ≡ Some x) where
    same : k ≡ key x
    same = exact k (key x) (laws.found_key all k x found)

    here_by : (q : K) → q ≡ key x → Some x ≡ row_at R key all q
    here_by q is = sym found ∙ ap (row_at R key all) (same ∙ sym is)

    at_by : (q : K) (b : Bool) → eq_by_cmp R q (key x) ≡ b
        → (cond b (Some x) (row_at R key rows q) ≡ row_at R key all q) ⊎ (cond b (Some x) (row_at R key rows q) ≡ row_at R key rows q)
    at_by q true e = inl (here_by q (exact q (key x) (equal_from_test (R q (key x)) e)))
    at_by q false e = inr refl

    either_by : (q : K) → IsAsIn R key all (row_put R key rows x) q ⊎ (row_at R key (row_put R key rows x) q ≡ row_at R key rows q)
    either_by q =
        elim (at_by q (eq_by_cmp R q (key x)) refl) as (λ _. IsAsIn R key all (row_put R key rows x) q ⊎ (row_at R key (row_put R key rows x) q ≡ row_at R key rows q)) [
          | inl is ↦ inl (laws.found_put rows x q ∙ is)
          | inr old ↦ inr (laws.found_put rows x q ∙ old)
        ]

    takes_some : Takes R key all rows (row_put R key rows x) k
    takes_some = record {
      here = λ _. laws.found_put rows x k ∙ ap (λ o. cond (is_eq o) (Some x) (row_at R key rows k)) (laws.found_key all k x found) ∙ sym found;
      either = either_by;
    }

  takes_none : (rows : List X) (k : K) → row_at R key all k ≡ None → Takes R key all rows rows k
  takes_none rows k none = record {
    here = λ from. elim (from k) as (λ _. IsAsIn R key all rows k) [ inl empty ↦ empty ∙ sym none | inr is ↦ is ];
    either = λ q. inr refl;
  }

  takes_row : (rows : List X) (k : K) (found : Option X) → row_at R key all k ≡ found → Takes R key all rows (with_row R key rows found) k
  takes_row rows k None e = takes_none rows k e
  takes_row rows k (Some x) e = takes_some rows k x e

  pub held_is : (rows : List X) (k : K) (x : X) → row_at R key rows k ≡ Some x → (row_at R key rows k ≡ None) ⊎ IsAsIn R key all rows k → IsAsIn R key all rows k
  held_is rows k x e (inl empty) = let no : true ≡ false = sym (ap is_some e) ∙ ap is_some empty in cc
  held_is rows k x e (inr is) = is

  takes_held : (rows : List X) (k : K) (held : Option X) → row_at R key rows k ≡ held
      → Takes R key all rows (cond (is_some held) rows (with_row R key rows (row_at R key all k))) k
  takes_held rows k None e = takes_row rows k (row_at R key all k) refl
  takes_held rows k (Some x) e = record { here = λ from. held_is rows k x e (from k); either = λ q. inr refl }

  -- The rows after this key is looked up, unless its row is already among them.
  abbrev With : List X → K → List X
  With rows k = cond (is_some (row_at R key rows k)) rows (with_row R key rows (row_at R key all k))

  takes : (rows : List X) (k : K) → Takes R key all rows (With rows k) k
  takes rows k = takes_held rows k (row_at R key rows k) refl

  pub here : (rows : List X) (k : K) → AreFrom R key all rows → IsAsIn R key all (With rows k) k
  here rows k = (takes rows k).here

  pub kept : (rows : List X) (k q : K) → IsAsIn R key all rows q → IsAsIn R key all (With rows k) q
  kept rows k q h = elim ((takes rows k).either q) as (λ _. IsAsIn R key all (With rows k) q) [ inl is ↦ is | inr old ↦ old ∙ h ]

  pub from_one : (rows : List X) (k : K) → AreFrom R key all rows → AreFrom R key all (With rows k)
  from_one rows k from q =
      elim ((takes rows k).either q) as (λ _. (row_at R key (With rows k) q ≡ None) ⊎ IsAsIn R key all (With rows k) q) [
        | inl is ↦ inr is
        | inr old ↦ elim (from q) as (λ _. (row_at R key (With rows k) q ≡ None) ⊎ IsAsIn R key all (With rows k) q) [
          | inl none ↦ inl (old ∙ none)
          | inr is ↦ inr (old ∙ is)
        ]
      ]
