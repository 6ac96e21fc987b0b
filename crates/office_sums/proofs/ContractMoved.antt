-- A contract that has other sums than before changes the sums of its line by the difference.
use Rattle.office_sums.proofs.Names.{◌≡◌, ℕ, ◌+◌, ◌≤◌, Bool, true, false, cond, List, [], ◌∷◌, map, filter, refl, sym, ap, subst, ◌∙◌, arith, AllByRecursion, nat_cmp, nat_cmp_total, total_limit, outstanding_in, paid_in, sum_over, Tables, contract_key, find_contract, put_contract, after_put, plus, minus, contracted, paid, is_on_line, contracts_of_line, sums_of, ContractSums, ContractRow, all-put, weight, sum_over-filter, sum_over-put, AreShifted, AreSums, SumsOfLine}
use Rattle.office_base.specs.declared.puts.Put.TheVariants as puts

-- a property of the rows that pass a test, said of all rows
to_step : {X : Type 0} (P : X → Type 0) (p : X → Bool) (x : X) (kept : List X) (Q : Type 0) → (AllByRecursion P kept → Q) → (b : Bool) → p x ≡ b
    → AllByRecursion P (cond b (x ∷ kept) kept) → (p x ≡ true → P x) × Q
to_step P p x kept Q later true e h = (λ _. h.0, later h.1)
to_step P p x kept Q later false e h = (λ passes. absurd (let i : true ≡ false = sym passes ∙ e in cc), later h)

to_all : {X : Type 0} (P : X → Type 0) (p : X → Bool) (xs : List X) → AllByRecursion P (filter p xs) → AllByRecursion (λ x. p x ≡ true → P x) xs
to_all P p [] h = tt
to_all P p (x ∷ xs) h = to_step P p x (filter p xs) (AllByRecursion (λ x. p x ≡ true → P x) xs) (to_all P p xs) (p x) refl h

from_step : {X : Type 0} (P : X → Type 0) (x : X) (kept : List X) (b : Bool) → (b ≡ true → P x) → AllByRecursion P kept → AllByRecursion P (cond b (x ∷ kept) kept)
from_step P x kept true here later = (here refl, later)
from_step P x kept false here later = later

from_all : {X : Type 0} (P : X → Type 0) (p : X → Bool) (xs : List X) → AllByRecursion (λ x. p x ≡ true → P x) xs → AllByRecursion P (filter p xs)
from_all P p [] h = tt
from_all P p (x ∷ xs) h = from_step P x (filter p xs) (p x) h.0 (from_all P p xs h.1)

-- what a contract counts for a line
abbrev pub counts : Tables → List ℕ → (ContractSums → ℕ) → ContractRow → ℕ
counts t line f x = cond (is_on_line t.lots line x) (f (sums_of t.entries x)) 0

module _ (t : Tables) (c : ContractRow) (line : List ℕ) (on : is_on_line t.lots line c ≡ true) (before : ContractSums)
    (replaced : (f : ContractSums → ℕ) → f (record { gained = 0; lost = 0; paid = 0 }) ≡ 0 → weight (counts t line f) (find_contract t.contracts c.contract) ≡ f before) where
  moves : (f : ContractSums → ℕ) → f (record { gained = 0; lost = 0; paid = 0 }) ≡ 0
      → sum_over (λ m. m) (map (λ x. f (sums_of t.entries x)) (contracts_of_line line (after_put (puts.Contract c) t))) + f before
      ≡ sum_over (λ m. m) (map (λ x. f (sums_of t.entries x)) (contracts_of_line line t)) + f (sums_of t.entries c)
  moves f zero =
      ap (λ n. n + f before) (sum_over-filter (λ x. f (sums_of t.entries x)) (is_on_line t.lots line) (put_contract t.contracts c))
      ∙ ap (λ n. sum_over (counts t line f) (put_contract t.contracts c) + n) (sym (replaced f zero))
      ∙ sum_over-put nat_cmp contract_key (counts t line f) t.contracts c
      ∙ ap (λ n. sum_over (counts t line f) t.contracts + n) (ap (λ b. cond b (f (sums_of t.entries c)) 0) on)
      ∙ ap (λ n. n + f (sums_of t.entries c)) (sym (sum_over-filter (λ x. f (sums_of t.entries x)) (is_on_line t.lots line) t.contracts))

  pub contract_moved : (old new : SumsOfLine) → AreShifted old new before (sums_of t.entries c) → AreSums line old t → AreSums line new (after_put (puts.Contract c) t)
  contract_moved old new shifted are =
      let owed : contracted line (after_put (puts.Contract c) t) + outstanding_in before ≡ contracted line t + outstanding_in (sums_of t.entries c) = moves outstanding_in refl in
      let settled : paid line (after_put (puts.Contract c) t) + paid_in before ≡ paid line t + paid_in (sums_of t.entries c) = moves paid_in refl in
      let contracted_now : new.contracted ≡ contracted line (after_put (puts.Contract c) t) = omega (arith, shifted.contracted, are.contracted_is, owed) in
      let paid_now : new.paid ≡ paid line (after_put (puts.Contract c) t) = omega (arith, shifted.paid, are.paid_is, settled) in
      record {
        reserved_is = shifted.reserved ∙ are.reserved_is;
        contracted_is = contracted_now;
        paid_is = paid_now;
        fit = record {
          within =
              from_all (λ x. minus t.entries x ≤ plus t.entries x) (is_on_line t.lots line) (put_contract t.contracts c)
              (all-put nat_cmp_total contract_key (λ x. is_on_line t.lots line x ≡ true → minus t.entries x ≤ plus t.entries x) t.contracts c (λ _. shifted.within)
              (to_all (λ x. minus t.entries x ≤ plus t.entries x) (is_on_line t.lots line) t.contracts are.fit.within));
          reserved_fits = are.fit.reserved_fits;
          contracted_fits = subst (λ n. n ≤ total_limit) contracted_now shifted.contracted_fits;
          paid_fits = subst (λ n. n ≤ total_limit) paid_now shifted.paid_fits;
        };
      }
