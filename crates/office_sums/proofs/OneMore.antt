-- One more entry of a contract changes the sums of its line by those of the contract.
use Rattle.office_sums.proofs.Names.{◌≡◌, ℕ, ◌+◌, ◌≤◌, Bool, true, false, cond, ◌&&◌, List, [], ◌∷◌, map, filter, Some, None, refl, sym, ap, subst, ◌∙◌, arith, AllByRecursion, is_eq, nat_cmp-IsAntisymmetric, nat_cmp_total, total_limit, is_raise, is_payment, is_less, sums_with_entry, outstanding_in, paid_in, sum_over, Tables, IsSorted, entry_cmp, same_number, contract_key, entry_key, find_contract, find_entry, put_entry, after_put, plus, minus, contracted, paid, entry_sum, is_on_line, contracts_of_line, sums_of, ContractRow, EntryKind, Raise, Cut, Payment, EntryRow, ContractSums, equal_keys, each_found, found_compares, weight, sum_over-ext, sum_over-plus, sum_over-filter, sum_over-put_new, sum_over-one, AreShifted, AreSums, SumsOfLine}
use Rattle.office_base.specs.declared.puts.Put.TheVariants as puts
use Rattle.office_sums.proofs.PutAmounts.{numbers_keyed, sums_of-put}

abbrev three : ℕ → ℕ → ℕ → ContractSums
three a b c = record { gained = a; lost = b; paid = c }

three_same : (a b c d e f : ℕ) → a ≡ d → b ≡ e → c ≡ f → three a b c ≡ three d e f
three_same a b c d e f p q r = ap (λ x. three x b c) p ∙ ap (λ x. three d x c) q ∙ ap (λ x. three d e x) r

kind_step : (k : EntryKind) (n signed raised less released paid : ℕ)
    → three (signed + (raised + cond (is_raise k) n 0)) (less + cond (is_less k) n 0 + released) (paid + cond (is_payment k) n 0)
    ≡ sums_with_entry k n (three (signed + raised) (less + released) paid)
kind_step Raise n signed raised less released paid = three_same _ _ _ _ _ _ (omega arith) (omega arith) (omega arith)
kind_step Cut n signed raised less released paid = three_same _ _ _ _ _ _ (omega arith) (omega arith) (omega arith)
kind_step Payment n signed raised less released paid = three_same _ _ _ _ _ _ (omega arith) (omega arith) (omega arith)

-- if a property of each row leads to another one, it does so for the rows that pass a test
all_step : {X : Type 0} (P Q : X → Type 0) (x : X) (kept : List X) → (P x → Q x) → (AllByRecursion P kept → AllByRecursion Q kept)
    → (b : Bool) → AllByRecursion P (cond b (x ∷ kept) kept) → AllByRecursion Q (cond b (x ∷ kept) kept)
all_step P Q x kept here later true h = (here h.0, later h.1)
all_step P Q x kept here later false h = later h

all_filter : {X : Type 0} (P Q : X → Type 0) (p : X → Bool) (xs : List X) → AllByRecursion (λ x. P x → Q x) xs → AllByRecursion P (filter p xs) → AllByRecursion Q (filter p xs)
all_filter P Q p [] h all = tt
all_filter P Q p (x ∷ xs) h all = all_step P Q x (filter p xs) h.0 (all_filter P Q p xs h.1) (p x) all

some_same : (a b : ContractRow) → Some a ≡ Some b → a ≡ b
some_same a b e = cc

module _ (t : Tables) (e : EntryRow) (c : ContractRow) (sorted : IsSorted t) (found : find_contract t.contracts e.contract ≡ Some c) (new : find_entry t.entries (entry_key e) ≡ None) where
  abbrev entries : List EntryRow
  entries = put_entry t.entries e

  number_ties : same_number e.contract c.contract ≡ true
  number_ties = ap is_eq (found_compares nat_cmp_total contract_key e.contract c t.contracts found)

  pub number_is : e.contract ≡ c.contract
  number_is = equal_keys nat_cmp-IsAntisymmetric e.contract c.contract number_ties

  own : (b : Bool) → cond (b && same_number e.contract c.contract) e.amount 0 ≡ cond b e.amount 0
  own true = ap (λ b. cond b e.amount 0) number_ties
  own false = refl

  grown : (kind : EntryKind → Bool) → entry_sum kind entries c.contract ≡ entry_sum kind t.entries c.contract + cond (kind e.kind) e.amount 0
  grown kind =
      sum_over-put_new entry_cmp entry_key (λ (x : EntryRow). cond (kind x.kind && same_number x.contract c.contract) x.amount 0) t.entries e new
      ∙ ap (λ n. entry_sum kind t.entries c.contract + n) (own (kind e.kind))

  -- the entry is added to the sums of its contract
  sums_after : sums_of entries c ≡ sums_with_entry e.kind e.amount (sums_of t.entries c)
  sums_after =
      three_same _ _ _ _ _ _ (ap (λ n. c.signed + n) (grown is_raise)) (ap (λ n. n + c.released) (grown is_less)) (grown is_payment)
      ∙ kind_step e.kind e.amount c.signed (entry_sum is_raise t.entries c.contract) (entry_sum is_less t.entries c.contract) c.released (entry_sum is_payment t.entries c.contract)

  module _ (line : List ℕ) (on : is_on_line t.lots line c ≡ true) where
    -- what each contract counts for the line, and the entry's contract alone
    abbrev counts : (ContractSums → ℕ) → List EntryRow → ContractRow → ℕ
    counts f es x = cond (is_on_line t.lots line x) (f (sums_of es x)) 0

    abbrev alone : (ContractRow → ℕ) → ContractRow → ℕ
    alone h x = cond (same_number e.contract x.contract) (h x) 0

    contract_step : (f : ContractSums → ℕ) (x : ContractRow) (b : Bool) → same_number e.contract x.contract ≡ b
        → counts f entries x + cond b (counts f t.entries x) 0 ≡ counts f t.entries x + cond b (counts f entries x) 0
    contract_step f x true same = omega arith
    contract_step f x false other = ap (λ s. cond (is_on_line t.lots line x) (f s) 0 + 0) (sums_of-put t.entries e x other)

    total : (f : ContractSums → ℕ) (es : List EntryRow) → sum_over (λ m. m) (map (λ x. f (sums_of es x)) (contracts_of_line line t)) ≡ sum_over (counts f es) t.contracts
    total f es = sum_over-filter (λ x. f (sums_of es x)) (is_on_line t.lots line) t.contracts

    its_own : (f : ContractSums → ℕ) (es : List EntryRow) → sum_over (alone (counts f es)) t.contracts ≡ f (sums_of es c)
    its_own f es =
        sum_over-one nat_cmp_total contract_key (counts f es) e.contract t.contracts sorted.contracts
        ∙ ap (weight (counts f es)) found ∙ ap (λ b. cond b (f (sums_of es c)) 0) on

    both_ways : (f : ContractSums → ℕ) → sum_over (counts f entries) t.contracts + f (sums_of t.entries c) ≡ sum_over (counts f t.entries) t.contracts + f (sums_of entries c)
    both_ways f =
        ap (λ n. sum_over (counts f entries) t.contracts + n) (sym (its_own f t.entries))
        ∙ sym (sum_over-plus (counts f entries) (alone (counts f t.entries)) t.contracts)
        ∙ sum_over-ext (λ x. counts f entries x + alone (counts f t.entries) x) (λ x. counts f t.entries x + alone (counts f entries) x) t.contracts
        (λ x. contract_step f x (same_number e.contract x.contract) refl)
        ∙ sum_over-plus (counts f t.entries) (alone (counts f entries)) t.contracts
        ∙ ap (λ n. sum_over (counts f t.entries) t.contracts + n) (its_own f entries)

    -- a sum over the line's contracts changes as the amount of the entry's contract does
    moves : (f : ContractSums → ℕ) → sum_over (λ m. m) (map (λ x. f (sums_of entries x)) (contracts_of_line line t)) + f (sums_of t.entries c)
        ≡ sum_over (λ m. m) (map (λ x. f (sums_of t.entries x)) (contracts_of_line line t)) + f (sums_with_entry e.kind e.amount (sums_of t.entries c))
    moves f =
        ap (λ n. n + f (sums_of t.entries c)) (total f entries)
        ∙ both_ways f
        ∙ ap (λ n. n + f (sums_of entries c)) (sym (total f t.entries))
        ∙ ap (λ s. sum_over (λ m. m) (map (λ x. f (sums_of t.entries x)) (contracts_of_line line t)) + f s) sums_after

    -- no contract of the line lost more than it gained
    within_step : (x : ContractRow) → find_contract t.contracts x.contract ≡ Some x → (b : Bool) → same_number e.contract x.contract ≡ b
        → minus entries c ≤ plus entries c → minus t.entries x ≤ plus t.entries x → minus entries x ≤ plus entries x
    within_step x there true same own_is h =
        let one : Some c ≡ Some x = sym found ∙ ap (find_contract t.contracts) (equal_keys nat_cmp-IsAntisymmetric e.contract x.contract same) ∙ there in
        subst (λ y. minus entries y ≤ plus entries y) (some_same c x one) own_is
    within_step x there false other own_is h = subst (λ (s : ContractSums). s.lost ≤ s.gained) (sym (sums_of-put t.entries e x other)) h

    each_within : minus entries c ≤ plus entries c → (xs : List ContractRow) → AllByRecursion (λ x. find_contract t.contracts (contract_key x) ≡ Some x) xs
        → AllByRecursion (λ x. minus t.entries x ≤ plus t.entries x → minus entries x ≤ plus entries x) xs
    each_within own_is [] h = tt
    each_within own_is (x ∷ xs) h = (within_step x h.0 (same_number e.contract x.contract) refl own_is, each_within own_is xs h.1)

    pub one_more : (old sums : SumsOfLine) → AreShifted old sums (sums_of t.entries c) (sums_with_entry e.kind e.amount (sums_of t.entries c)) → AreSums line old t → AreSums line sums (after_put (puts.Entry e) t)
    one_more old sums shifted are =
        let owed : contracted line (after_put (puts.Entry e) t) + outstanding_in (sums_of t.entries c) ≡ contracted line t + outstanding_in (sums_with_entry e.kind e.amount (sums_of t.entries c)) = moves outstanding_in in
        let settled : paid line (after_put (puts.Entry e) t) + paid_in (sums_of t.entries c) ≡ paid line t + paid_in (sums_with_entry e.kind e.amount (sums_of t.entries c)) = moves paid_in in
        let contracted_now : sums.contracted ≡ contracted line (after_put (puts.Entry e) t) = omega (arith, shifted.contracted, are.contracted_is, owed) in
        let paid_now : sums.paid ≡ paid line (after_put (puts.Entry e) t) = omega (arith, shifted.paid, are.paid_is, settled) in
        let own_is : minus entries c ≤ plus entries c = subst (λ (s : ContractSums). s.lost ≤ s.gained) (sym sums_after) shifted.within in
        record {
          reserved_is = shifted.reserved ∙ are.reserved_is;
          contracted_is = contracted_now;
          paid_is = paid_now;
          fit = record {
            within =
                all_filter (λ x. minus t.entries x ≤ plus t.entries x) (λ x. minus entries x ≤ plus entries x) (is_on_line t.lots line) t.contracts
                (each_within own_is t.contracts (each_found numbers_keyed t.contracts sorted.contracts)) are.fit.within;
            reserved_fits = are.fit.reserved_fits;
            contracted_fits = subst (λ n. n ≤ total_limit) contracted_now shifted.contracted_fits;
            paid_fits = subst (λ n. n ≤ total_limit) paid_now shifted.paid_fits;
          };
        }
