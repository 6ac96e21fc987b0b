-- The searches of the rule find the lowest price and the best tender.
use Rattle.std.proofs.Common.{◌≡◌, ℕ, zero, suc, ◌≤◌, ◌<◌, Bool, true, false, cond, ◌&&◌, ◌||◌, List, [], ◌∷◌, length, slice_index_or, Option, Some, None, nat_lt, nat_eq, refl, sym, ◌∙◌, ap, subst, arith}
use Rattle.std.specs.List.{AllByRecursion, Contains}
use Rattle.std.specs.Ordering.{nat_cmp}
use Rattle.std.specs.Cmp.{nat_cmp_total, tied_itself}
use Rattle.std.proofs.lemmas.Bool.Decides.{nat_tests}
use Rattle.office_base.specs.declared.records.EnvelopeRow.{EnvelopeRow}
use Rattle.std.specs.declared.cmp.Ordering.TheVariants.{Less, Equal}
use Rattle.office_base.specs.Rows.{IsInOrder}
use Rattle.office_base.specs.Tables.{envelope_key}
use Rattle.office_base.proofs.RowLaws.Starts.{all_above}
use Rattle.award_core.specs.Rules.Award.{is_admissible, price_of, lesser, lowest_price, points, is_better, better, best_with, best_of}
use Rattle.award_core.specs.Best.{lowest_in, IsBest, IsLowest, NoneIsAdmissible, IsAnswer, IsLowestAnswer, receipt_in, IsBestReceipt, BestIsFound}

-- whether the lesser p comes first, or the lesser r if both p are equal
abbrev comes : ℕ → ℕ → ℕ → ℕ → Bool
comes p r p' r' = nat_lt p p' || (nat_eq p p' && nat_lt r r')

-- whether the greater s comes first, unless it doesn't count, and then the order of p and r decides
abbrev beats : Bool → ℕ → ℕ → ℕ → ℕ → ℕ → ℕ → Bool
beats none s p r s' p' r' = cond none (comes p r p' r') (nat_lt s' s || (nat_eq s s' && comes p r p' r'))

not_first_trans : (p r p' r' p'' r'' : ℕ) → comes p r p' r' ≡ false → comes p' r' p'' r'' ≡ false → comes p r p'' r'' ≡ false
not_first_trans p r p' r' p'' r'' h g = grind (arith, nat_tests)

not_both_first : (p r p' r' : ℕ) → comes p r p' r' ≡ true → comes p' r' p r ≡ false
not_both_first p r p' r' h = grind (arith, nat_tests)

same_place : (p r p' r' : ℕ) → comes p r p' r' ≡ false → comes p' r' p r ≡ false → r ≡ r'
same_place p r p' r' h g = grind (arith, nat_tests)

not_beaten_trans : (none : Bool) (s p r s' p' r' s'' p'' r'' : ℕ) → beats none s p r s' p' r' ≡ false → beats none s' p' r' s'' p'' r'' ≡ false → beats none s p r s'' p'' r'' ≡ false
not_beaten_trans true s p r s' p' r' s'' p'' r'' h g = not_first_trans p r p' r' p'' r'' h g
not_beaten_trans false s p r s' p' r' s'' p'' r'' h g = grind (arith, nat_tests)

not_both_beaten : (none : Bool) (s p r s' p' r' : ℕ) → beats none s p r s' p' r' ≡ true → beats none s' p' r' s p r ≡ false
not_both_beaten true s p r s' p' r' h = not_both_first p r p' r' h
not_both_beaten false s p r s' p' r' h = grind (arith, nat_tests)

same_rank : (none : Bool) (s p r s' p' r' : ℕ) → beats none s p r s' p' r' ≡ false → beats none s' p' r' s p r ≡ false → r ≡ r'
same_rank true s p r s' p' r' h g = same_place p r p' r' h g
same_rank false s p r s' p' r' h g = grind (arith, nat_tests)

contains_head : (e : EnvelopeRow) (rows : List EnvelopeRow) → Contains (e ∷ rows) e
contains_head e rows = (0, omega arith, refl)

contains_tail : (f e : EnvelopeRow) (rows : List EnvelopeRow) → Contains rows e → Contains (f ∷ rows) e
contains_tail f e rows c = (suc c.0, omega (arith, c.1), c.2)

module _ (weight lowest : ℕ) where
  no_better_trans : (x y z : EnvelopeRow) → is_better weight lowest x y ≡ false → is_better weight lowest y z ≡ false → is_better weight lowest x z ≡ false
  no_better_trans x y z h g = not_beaten_trans (nat_eq weight 0) (points weight lowest x) (price_of x) x.receipt (points weight lowest y) (price_of y) y.receipt (points weight lowest z) (price_of z) z.receipt h g

  not_both_better : (x y : EnvelopeRow) → is_better weight lowest x y ≡ true → is_better weight lowest y x ≡ false
  not_both_better x y h = not_both_beaten (nat_eq weight 0) (points weight lowest x) (price_of x) x.receipt (points weight lowest y) (price_of y) y.receipt h

  not_itself : (x : EnvelopeRow) → is_better weight lowest x x ≡ false
  not_itself x = by (is_better weight lowest x x) refl
    where
      by : (b : Bool) → is_better weight lowest x x ≡ b → b ≡ false
      by true e = let f = not_both_better x x e in absurd cc
      by false e = refl

  -- no admissible one of these tenders is better
  abbrev NoneBetter : List EnvelopeRow → EnvelopeRow → Type 0
  NoneBetter rows e = AllByRecursion (λ (f : EnvelopeRow). is_admissible f ≡ true → is_better weight lowest f e ≡ false) rows

  beaten_too : (rows : List EnvelopeRow) (y z : EnvelopeRow) → NoneBetter rows y → is_better weight lowest y z ≡ false → NoneBetter rows z
  beaten_too [] y z all le = tt
  beaten_too (f ∷ rows) y z all le = (λ a. no_better_trans f y z (all.0 a) le, beaten_too rows y z all.1 le)

  none_of : (rows : List EnvelopeRow) (e : EnvelopeRow) → NoneIsAdmissible rows → NoneBetter rows e
  none_of [] e none = tt
  none_of (f ∷ rows) e none = (λ a. let h = none.0 in absurd cc, none_of rows e none.1)

  -- the search over these tenders has found a best one
  record Found (rows : List EnvelopeRow) (e : EnvelopeRow) : Type 0 where
    among : Contains rows e
    admissible : is_admissible e ≡ true
    none_better : NoneBetter rows e

  abbrev IsFound : List EnvelopeRow → Option EnvelopeRow → Type 0
  IsFound rows None = NoneIsAdmissible rows
  IsFound rows (Some e) = Found rows e

  -- the better of an admissible tender and the best of the rest is the best of all
  better_found : (e f : EnvelopeRow) (rows : List EnvelopeRow) → is_admissible e ≡ true → Found rows f → (b : Bool) → is_better weight lowest f e ≡ b → Found (e ∷ rows) (cond b f e)
  better_found e f rows a old true h = record { among = contains_tail e f rows old.among; admissible = old.admissible; none_better = (λ _. not_both_better f e h, old.none_better) }
  better_found e f rows a old false h = record { among = contains_head e rows; admissible = a; none_better = (λ _. not_itself e, beaten_too rows f e old.none_better h) }

  with_one : (e : EnvelopeRow) (rows : List EnvelopeRow) (o : Option EnvelopeRow) → is_admissible e ≡ true → IsFound rows o → Found (e ∷ rows) (better weight lowest e o)
  with_one e rows None a old = record { among = contains_head e rows; admissible = a; none_better = (λ _. not_itself e, none_of rows e old) }
  with_one e rows (Some f) a old = better_found e f rows a old (is_better weight lowest f e) refl

  without_one : (e : EnvelopeRow) (rows : List EnvelopeRow) (o : Option EnvelopeRow) → is_admissible e ≡ false → IsFound rows o → IsFound (e ∷ rows) o
  without_one e rows None a old = (a, old)
  without_one e rows (Some f) a old = record { among = contains_tail e f rows old.among; admissible = old.admissible; none_better = (λ b. absurd cc, old.none_better) }

  one_more : (e : EnvelopeRow) (rows : List EnvelopeRow) (o : Option EnvelopeRow) → IsFound rows o → (b : Bool) → is_admissible e ≡ b → IsFound (e ∷ rows) (cond b (Some (better weight lowest e o)) o)
  one_more e rows o old true a = with_one e rows o a old
  one_more e rows o old false a = without_one e rows o a old

  found_all : (rows : List EnvelopeRow) → IsFound rows (best_with weight lowest rows)
  found_all [] = tt
  found_all (e ∷ rows) = one_more e rows (best_with weight lowest rows) (found_all rows) (is_admissible e) refl

is_found : (weight : ℕ) (rows : List EnvelopeRow) → IsAnswer weight rows (best_of weight rows)
is_found weight rows = by (best_of weight rows) (found_all weight (lowest_in rows) rows)
  where
    by : (o : Option EnvelopeRow) → IsFound weight (lowest_in rows) rows o → IsAnswer weight rows o
    by None h = h
    by (Some e) h = record { among = h.among; admissible = h.admissible; none_better = h.none_better }

-- the receipt of a best tender is the right receipt
receipt_of : (weight : ℕ) (rows : List EnvelopeRow) (o : Option EnvelopeRow) → IsAnswer weight rows o → IsBestReceipt weight rows (receipt_in o)
receipt_of weight rows None h = h
receipt_of weight rows (Some e) h = (e, h, refl)

pub receipt_found : (weight : ℕ) (rows : List EnvelopeRow) (o : Option EnvelopeRow) → o ≡ best_of weight rows → IsBestReceipt weight rows (receipt_in o)
receipt_found weight rows o is = receipt_of weight rows o (subst (IsAnswer weight rows) (sym is) (is_found weight rows))

-- ---- the lowest price

lower_too : (rows : List EnvelopeRow) (m n : ℕ) → m ≤ n → AllByRecursion (λ (f : EnvelopeRow). is_admissible f ≡ true → n ≤ price_of f) rows → AllByRecursion (λ (f : EnvelopeRow). is_admissible f ≡ true → m ≤ price_of f) rows
lower_too [] m n le all = tt
lower_too (f ∷ rows) m n le all = (λ a. omega (arith, le, all.0 a), lower_too rows m n le all.1)

none_lower : (rows : List EnvelopeRow) (n : ℕ) → NoneIsAdmissible rows → AllByRecursion (λ (f : EnvelopeRow). is_admissible f ≡ true → n ≤ price_of f) rows
none_lower [] n none = tt
none_lower (f ∷ rows) n none = (λ a. let h = none.0 in absurd cc, none_lower rows n none.1)

abbrev IsPriceIn : List EnvelopeRow → ℕ → Type 0
IsPriceIn rows price = (e : EnvelopeRow) × Contains rows e × (is_admissible e ≡ true) × (price_of e ≡ price)

-- the tender with the lowest price is still there if one more tender comes before it
one_later : (f : EnvelopeRow) (rows : List EnvelopeRow) (m : ℕ) → IsLowest rows m → IsPriceIn (f ∷ rows) m
one_later f rows m old = (old.of_one.0, contains_tail f old.of_one.0 rows old.of_one.1, old.of_one.2, old.of_one.3)

lesser_found : (e : EnvelopeRow) (rows : List EnvelopeRow) (m : ℕ) → is_admissible e ≡ true → IsLowest rows m → (b : Bool) → nat_lt m (price_of e) ≡ b → IsLowest (e ∷ rows) (cond b m (price_of e))
lesser_found e rows m a old true h = let le : m ≤ price_of e = grind (arith, nat_tests) in record { of_one = one_later e rows m old; least = (λ _. le, old.least) }
lesser_found e rows m a old false h = let le : price_of e ≤ m = grind (arith, nat_tests) in record { of_one = (e, contains_head e rows, a, refl); least = (λ _. omega arith, lower_too rows (price_of e) m le old.least) }

lowest_with : (e : EnvelopeRow) (rows : List EnvelopeRow) (o : Option ℕ) → is_admissible e ≡ true → IsLowestAnswer rows o → IsLowest (e ∷ rows) (lesser (price_of e) o)
lowest_with e rows None a old = record { of_one = (e, contains_head e rows, a, refl); least = (λ _. omega arith, none_lower rows (price_of e) old) }
lowest_with e rows (Some m) a old = lesser_found e rows m a old (nat_lt m (price_of e)) refl

lowest_without : (e : EnvelopeRow) (rows : List EnvelopeRow) (o : Option ℕ) → is_admissible e ≡ false → IsLowestAnswer rows o → IsLowestAnswer (e ∷ rows) o
lowest_without e rows None a old = (a, old)
lowest_without e rows (Some m) a old = record { of_one = one_later e rows m old; least = (λ b. absurd cc, old.least) }

lowest_more : (e : EnvelopeRow) (rows : List EnvelopeRow) (o : Option ℕ) → IsLowestAnswer rows o → (b : Bool) → is_admissible e ≡ b → IsLowestAnswer (e ∷ rows) (cond b (Some (lesser (price_of e) o)) o)
lowest_more e rows o old true a = lowest_with e rows o a old
lowest_more e rows o old false a = lowest_without e rows o a old

is_lowest : (rows : List EnvelopeRow) → IsLowestAnswer rows (lowest_price rows)
is_lowest [] = tt
is_lowest (e ∷ rows) = lowest_more e rows (lowest_price rows) (is_lowest rows) (is_admissible e) refl

-- if all rows have a property, so has each row
pub of_one : (P : EnvelopeRow → Type 0) (rows : List EnvelopeRow) (k : ℕ) (e : EnvelopeRow) → AllByRecursion P rows → k < length rows → slice_index_or rows k e ≡ e → P e
of_one P [] k e all lt is = absurd (let none : k < 0 = lt in omega arith)
of_one P (f ∷ rows) zero e all lt is = subst P is all.0
of_one P (f ∷ rows) (suc k) e all lt is = of_one P rows k e all.1 (omega arith) is

not_below_itself : (m n : ℕ) → m ≡ n → nat_cmp m n ≡ Less → ⊥
not_below_itself m n same below = let tied : Less ≡ Equal = sym below ∙ (ap (nat_cmp m) (sym same) ∙ tied_itself nat_cmp_total m) in cc

-- in rows whose receipts rise, two rows with one receipt are the same row
same_row : (rows : List EnvelopeRow) (j k : ℕ) (e f : EnvelopeRow) → IsInOrder nat_cmp envelope_key rows → j < length rows → slice_index_or rows j e ≡ e → k < length rows → slice_index_or rows k f ≡ f → e.receipt ≡ f.receipt → e ≡ f
same_row [] j k e f order lt is lt' is' same = absurd (let none : j < 0 = lt in omega arith)
same_row (x ∷ rows) zero zero e f order lt is lt' is' same = sym is ∙ is'
same_row (x ∷ rows) zero (suc k) e f order lt is lt' is' same =
    absurd (not_below_itself x.receipt f.receipt (ap (λ (g : EnvelopeRow). g.receipt) is ∙ same) (of_one (λ (g : EnvelopeRow). nat_cmp x.receipt g.receipt ≡ Less) rows k f (all_above nat_cmp_total envelope_key x.receipt rows order.0 order.1) (omega arith) is'))
same_row (x ∷ rows) (suc j) zero e f order lt is lt' is' same =
    absurd (not_below_itself x.receipt e.receipt (ap (λ (g : EnvelopeRow). g.receipt) is' ∙ sym same) (of_one (λ (g : EnvelopeRow). nat_cmp x.receipt g.receipt ≡ Less) rows j e (all_above nat_cmp_total envelope_key x.receipt rows order.0 order.1) (omega arith) is))
same_row (x ∷ rows) (suc j) (suc k) e f order lt is lt' is' same = same_row rows j k e f order.1 (omega arith) is (omega arith) is' same

is_only : (weight : ℕ) (rows : List EnvelopeRow) (e f : EnvelopeRow) → IsInOrder nat_cmp envelope_key rows → IsBest weight rows e → IsBest weight rows f → e ≡ f
is_only weight rows e f order best other =
    let n : ℕ = lowest_in rows in
    let not_e = of_one (λ (g : EnvelopeRow). is_admissible g ≡ true → is_better weight n g f ≡ false) rows best.among.0 e other.none_better best.among.1 best.among.2 best.admissible in
    let not_f = of_one (λ (g : EnvelopeRow). is_admissible g ≡ true → is_better weight n g e ≡ false) rows other.among.0 f best.none_better other.among.1 other.among.2 other.admissible in
    let same : e.receipt ≡ f.receipt = same_rank (nat_eq weight 0) (points weight n e) (price_of e) e.receipt (points weight n f) (price_of f) f.receipt not_e not_f in
    same_row rows best.among.0 other.among.0 e f order best.among.1 best.among.2 other.among.1 other.among.2 same

pub best_is_found : BestIsFound
best_is_found = record { found = is_found; lowest = is_lowest; only = is_only }
