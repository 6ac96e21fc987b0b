-- Values of columns: what a cast keeps, when two are equal, and how they are ordered.
use Rattle.office_tables.proofs.Names.{◌≡◌, inl, inr, ℕ, ℤ, pos, Bool, true, false, ◌&&◌, cond, List, Option, Some, None, refl, sym, ap, ap₂, ◌∙◌, arith, Ordering, Less, Equal, Greater, true≢false, cases_Bool, nat_tests, is_eq, is_lt, is_gt, nat_cmp, int_cmp, ordering_then, ordering_reverse, eq_by_cmp, tied_itself, nat_cmp_total, nat_list_cmp_total, nat_cmp-IsAntisymmetric, Value, Null, Int, Text, Binary, value_cmp, value_cmp-Text, value_cmp-Int, binary, unary, is_true, from_truth, Gt, equal, Integer, cast, id_cmp, same_id, same_number, ids_exact, equal_ids, same_itself, equal_from_test, or_null, text_or_null}
use Rattle.sqlite_sql.specs.declared.ops.BinaryOp.TheVariants as by
use Rattle.sqlite_schema.specs.declared.schema.Kind.TheVariants.{Text as AsText}

either : (b : Bool) (x : Value) → cond b x x ≡ x
either true x = refl
either false x = refl

pub cast_null : cast Integer Null ≡ Null
unfolding unary
cast_null = either _ Null

pub cast_int : (n : ℤ) → cast Integer (Int n) ≡ Int n
unfolding unary
cast_int n = either _ (Int n)

pub cast_perhaps : (o : Option ℕ) → cast Integer (or_null o) ≡ or_null o
cast_perhaps None = cast_null
cast_perhaps (Some n) = cast_int (pos n)

pub cast_words : (o : Option (List ℕ)) → cast AsText (text_or_null o) ≡ text_or_null o
cast_words None = refl
cast_words (Some t) = refl

-- ---- texts

pub texts_equal : (a b : List ℕ) → a ≡ b → equal Binary (Text a) (Text b) ≡ true
unfolding binary
texts_equal a b e =
    let tie : value_cmp (Text a) (Text b) ≡ Equal = value_cmp-Text a b ∙ ap (λ c. id_cmp c b) e ∙ tied_itself nat_list_cmp_total b in
    ap (λ o. is_true (from_truth (Some (is_eq o)))) tie

pub equal_texts : (a b : List ℕ) → equal Binary (Text a) (Text b) ≡ true → a ≡ b
unfolding binary
equal_texts a b h = ids_exact a b (sym (value_cmp-Text a b) ∙ equal_from_test _ (go (is_eq (value_cmp (Text a) (Text b))) h))
  where
    go : (test : Bool) → is_true (from_truth (Some test)) ≡ true → test ≡ true
    go true k = refl
    go false k = absurd (true≢false (sym k))

-- a column of text is tested as an identifier is
pub text_tested : (a b : List ℕ) → equal Binary (Text a) (Text b) ≡ same_id a b
text_tested a b = elim (cases_Bool (same_id a b)) [
  | inl is ↦ texts_equal a b (equal_ids a b is) ∙ sym is
  | inr apart ↦ by (equal Binary (Text a) (Text b)) refl apart
]
  where
    by : (c : Bool) → equal Binary (Text a) (Text b) ≡ c → same_id a b ≡ false → c ≡ same_id a b
    by true e f = absurd (true≢false (sym (ap (λ z. same_id z b) (equal_texts a b e) ∙ same_itself b) ∙ f))
    by false e f = sym f

truth_is : (b : Bool) → is_true (from_truth (Some b)) ≡ b
truth_is true = refl
truth_is false = refl

above_is : (c : Ordering) → is_gt (ordering_reverse c) ≡ is_lt c
above_is Less = refl
above_is Equal = refl
above_is Greater = refl

-- a column of text is greater than a parameter exactly if its identifier comes after the other one
pub text_above : (a b : List ℕ) → is_true (binary (by.Compare Gt Binary) (Text a) (Text b)) ≡ is_lt (id_cmp b a)
unfolding binary
text_above a b = truth_is (is_gt (value_cmp (Text a) (Text b))) ∙ ap is_gt (value_cmp-Text a b ∙ nat_list_cmp_total.antisymm a b) ∙ above_is (id_cmp b a)

-- ---- numbers

as_numbers : (a b : ℕ) → int_cmp (pos a) (pos b) ≡ nat_cmp a b
as_numbers a b = grind (arith, nat_tests)

pub numbers_cmp : (a b : ℕ) → value_cmp (Int (pos a)) (Int (pos b)) ≡ nat_cmp a b
numbers_cmp a b = value_cmp-Int (pos a) (pos b) ∙ as_numbers a b

-- a column of numbers is tested as a number is
pub number_tested : (a b : ℕ) → equal Binary (Int (pos a)) (Int (pos b)) ≡ same_number a b
unfolding binary
number_tested a b = ap (λ o. is_true (from_truth (Some (is_eq o)))) (numbers_cmp a b) ∙ as_truth (is_eq (nat_cmp a b))
  where
    as_truth : (test : Bool) → is_true (from_truth (Some test)) ≡ test
    as_truth true = refl
    as_truth false = refl

pub numbers_equal : (a b : ℕ) → a ≡ b → equal Binary (Int (pos a)) (Int (pos b)) ≡ true
numbers_equal a b e = number_tested a b ∙ ap is_eq (ap (λ c. nat_cmp c b) e ∙ tied_itself nat_cmp_total b)

pub equal_numbers : (a b : ℕ) → equal Binary (Int (pos a)) (Int (pos b)) ≡ true → a ≡ b
equal_numbers a b h = nat_cmp-IsAntisymmetric a b (equal_from_test _ (sym (number_tested a b) ∙ h))

-- ---- keys of one and of two columns

pub both_true : (b c : Bool) → b ≡ true → c ≡ true → (b && (c && true)) ≡ true
both_true b c p q = rw (p, q)

pub one_true : (b : Bool) → b ≡ true → (b && true) ≡ true
one_true b p = rw p

pub first_true : (b c : Bool) → (b && (c && true)) ≡ true → (b ≡ true) × (c ≡ true)
first_true true true h = (refl, refl)
first_true true false h = absurd (true≢false (sym h))
first_true false c h = absurd (true≢false (sym h))

pub only_true : (b : Bool) → (b && true) ≡ true → b ≡ true
only_true true h = refl
only_true false h = absurd (true≢false (sym h))

pub and_true : (b : Bool) → (b && true) ≡ b
and_true true = refl
and_true false = refl

-- three tests, of which the first two are taken together
all_three : (b c d : Bool) → (b && (c && (d && true))) ≡ (b && c && d)
all_three true c d = ap (λ e. c && e) (and_true d)
all_three false c d = refl

pub three_tested : (a b c k l m : List ℕ) → (equal Binary (Text a) (Text k) && (equal Binary (Text b) (Text l) && (equal Binary (Text c) (Text m) && true))) ≡ (same_id a k && same_id b l && same_id c m)
three_tested a b c k l m =
    all_three (equal Binary (Text a) (Text k)) (equal Binary (Text b) (Text l)) (equal Binary (Text c) (Text m))
    ∙ ap₂ (λ d e. d && e) (ap₂ (λ d e. d && e) (text_tested a k) (text_tested b l)) (text_tested c m)

-- ---- orders

pub then_equal : (o : Ordering) → is_lt (ordering_then o Equal) ≡ is_lt o
then_equal Less = refl
then_equal Equal = refl
then_equal Greater = refl

pub pair_then : (u v o r : Ordering) → u ≡ o → v ≡ r → is_lt (ordering_then u (ordering_then v Equal)) ≡ is_lt (ordering_then o r)
pair_then u v o r e f = ap₂ (λ x y. is_lt (ordering_then x (ordering_then y Equal))) e f ∙ inner o r
  where
    inner : (o r : Ordering) → is_lt (ordering_then o (ordering_then r Equal)) ≡ is_lt (ordering_then o r)
    inner Less r = refl
    inner Equal r = then_equal r
    inner Greater r = refl

-- two tests, as a comparison of pairs
pub both_equal : (o r : Ordering) → (is_eq o && is_eq r) ≡ is_eq (ordering_then o r)
both_equal Less r = refl
both_equal Equal r = refl
both_equal Greater r = refl

-- whether two numbers are equal, with the sides exchanged
pub same_number_is : (a b : ℕ) → same_number a b ≡ eq_by_cmp nat_cmp b a
same_number_is a b = grind (arith, nat_tests)
