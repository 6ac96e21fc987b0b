-- The rows that an update of the row with one rowid shows.
use Rattle.office_tables.proofs.Names.{◌≡◌, Some, inl, inr, ℕ, ℤ, Bool, true, false, List, [], ◌∷◌, zero, suc, ◌<◌, arith, refl, sym, ap, ap₂, ◌∙◌, is_eq, ordering_reverse, tied_itself, swap, IsPermutation, SwapsInRange, apply_swaps, Value, Int, Binary, Row, value_cmp, value_cmp_total, rowid, IsTable, is_int, binary, is_true, from_truth, Env, equal, Has, id_in, all_has, int_is}
use Rattle.office_tables.proofs.Selected.{picked}

as_truth : (test : Bool) → is_true (from_truth (Some test)) ≡ test
as_truth true = refl
as_truth false = refl

numbers_tested : (m n : ℤ) → equal Binary (Int m) (Int n) ≡ is_eq (value_cmp (Int m) (Int n))
unfolding binary
numbers_tested m n = as_truth (is_eq (value_cmp (Int m) (Int n)))

-- two rowids are equal exactly if they tie in the order
pub rowids_tested : (a b : Value) → is_int a ≡ true → is_int b ≡ true → equal Binary a b ≡ is_eq (value_cmp a b)
rowids_tested a b p q =
    ap₂ (equal Binary) (int_is a p) (int_is b q) ∙ numbers_tested (id_in a) (id_in b) ∙ ap is_eq (ap₂ value_cmp (sym (int_is a p)) (sym (int_is b q)))

module _ (p : Row → Bool) (env : Row → Env) where
  none_picked : (rows : List Row) → ((r : Row) → Has rows r → p r ≡ false) → picked p env rows ≡ []
  none_picked [] none = refl
  none_picked (r ∷ rows) none = rw (none r (inl refl)) (none_picked rows (λ x h. none x (inr h)))

  -- the test for a rowid finds its own row and no other
  pub picks_one : (rows : List Row) → IsTable rows → (there : Row) → Has rows there → ((r : Row) → Has rows r → p r ≡ is_eq (value_cmp (rowid r) (rowid there))) → picked p env rows ≡ env there ∷ []
  picks_one [] up there h is = absurd h
  picks_one (r ∷ rows) up there (inl same) is =
      rw (is r (inl refl) ∙ ap (λ x. is_eq (value_cmp (rowid r) (rowid x))) same ∙ ap is_eq (tied_itself value_cmp_total (rowid r)))
      (ap (λ l. env r ∷ l) (none_picked rows (λ x h. is x (inr h) ∙ ap (λ y. is_eq (value_cmp (rowid x) (rowid y))) same ∙ ap is_eq (value_cmp_total.antisymm (rowid x) (rowid r) ∙ ap ordering_reverse (all_has _ rows x up.0 h)))) ∙ ap (λ y. env y ∷ []) (sym same))
  picks_one (r ∷ rows) up there (inr later) is =
      rw (is r (inl refl) ∙ ap is_eq (all_has _ rows there up.0 later)) (picks_one rows up.1 there later (λ x h. is x (inr h)))

moved_alone : {A : Type 0} (x : A) (moves : List (ℕ × ℕ)) → SwapsInRange 1 moves → apply_swaps (x ∷ []) moves ≡ x ∷ []
moved_alone x [] h = refl
moved_alone x (m ∷ moves) h = ap (λ l. swap l m.0 m.1) (moved_alone x moves h.2) ∙ by m.0 m.1 h.0 h.1
  where
    by : (i j : ℕ) → i < 1 → j < 1 → swap (x ∷ []) i j ≡ x ∷ []
    by zero zero p q = refl
    by zero (suc j) p q = absurd (omega (arith, q))
    by (suc i) j p q = absurd (omega (arith, p))

-- one element has one order alone
pub in_one_order : {A : Type 0} (x : A) (ys : List A) → IsPermutation (x ∷ []) ys → ys ≡ x ∷ []
in_one_order x ys h = h.is ∙ moved_alone x h.moves h.below
