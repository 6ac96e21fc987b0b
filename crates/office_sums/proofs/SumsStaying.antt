-- The sums of lines that a change doesn't touch stay.
use Rattle.office_sums.proofs.Names.{◌≡◌, ℕ, ◌≤◌, List, [], ◌∷◌, map, sym, ap, subst, ◌∙◌, AllByRecursion, total_limit, sum_over, Tables, after_put, plus, minus, reserved, contracted, paid, contracts_of_line, sums_of, LineFits, outstanding_in, paid_in, ContractRow, ContractSums, LineAmounts, sum_over-map, joined_amounts, SumsStay}
use Rattle.office_sums.proofs.PutAmounts.{amounts-put}

-- a sum over contracts is a sum over their sums
by_sums : (t : Tables) (f : ContractSums → ℕ) (cs : List ContractRow) → sum_over (λ m. m) (map (λ c. f (sums_of t.entries c)) cs) ≡ sum_over f (map (sums_of t.entries) cs)
by_sums t f cs = sum_over-map (λ m. m) (λ c. f (sums_of t.entries c)) cs ∙ sym (sum_over-map f (sums_of t.entries) cs)

-- no contract with these sums lost more than it gained
abbrev AreWithin : List ContractSums → Type 0
AreWithin sums = AllByRecursion (λ (s : ContractSums). s.lost ≤ s.gained) sums

within_to : (t : Tables) (cs : List ContractRow) → AllByRecursion (λ c. minus t.entries c ≤ plus t.entries c) cs → AreWithin (map (sums_of t.entries) cs)
within_to t [] h = tt
within_to t (c ∷ cs) h = (h.0, within_to t cs h.1)

within_from : (t : Tables) (cs : List ContractRow) → AreWithin (map (sums_of t.entries) cs) → AllByRecursion (λ c. minus t.entries c ≤ plus t.entries c) cs
within_from t [] h = tt
within_from t (c ∷ cs) h = (h.0, within_from t cs h.1)

module _ (line : List ℕ) (t u : Tables) (same : joined_amounts line u ≡ joined_amounts line t) where
  same_contracts : map (sums_of u.entries) (contracts_of_line line u) ≡ map (sums_of t.entries) (contracts_of_line line t)
  same_contracts = ap (λ (a : LineAmounts). a.contracts) same

  reserved_same : reserved line t ≡ reserved line u
  reserved_same = sym (ap (λ (a : LineAmounts). sum_over (λ m. m) a.reserved) same)

  contracted_same : contracted line t ≡ contracted line u
  contracted_same = by_sums t outstanding_in (contracts_of_line line t) ∙ sym (ap (sum_over outstanding_in) same_contracts) ∙ sym (by_sums u outstanding_in (contracts_of_line line u))

  paid_same : paid line t ≡ paid line u
  paid_same = by_sums t paid_in (contracts_of_line line t) ∙ sym (ap (sum_over paid_in) same_contracts) ∙ sym (by_sums u paid_in (contracts_of_line line u))

  fits_same : LineFits line t → LineFits line u
  fits_same h = record {
    within = within_from u (contracts_of_line line u) (subst AreWithin (sym same_contracts) (within_to t (contracts_of_line line t) h.within));
    reserved_fits = subst (λ n. n ≤ total_limit) reserved_same h.reserved_fits;
    contracted_fits = subst (λ n. n ≤ total_limit) contracted_same h.contracted_fits;
    paid_fits = subst (λ n. n ≤ total_limit) paid_same h.paid_fits;
  }

pub sums_stay : SumsStay
sums_stay line sums p t sorted apart are =
    let same : joined_amounts line (after_put p t) ≡ joined_amounts line t = amounts-put p t line sorted apart in record {
      reserved_is = are.reserved_is ∙ reserved_same line t (after_put p t) same;
      contracted_is = are.contracted_is ∙ contracted_same line t (after_put p t) same;
      paid_is = are.paid_is ∙ paid_same line t (after_put p t) same;
      fit = fits_same line t (after_put p t) same are.fit;
    }
