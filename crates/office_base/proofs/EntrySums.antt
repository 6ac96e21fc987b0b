-- The sums that are added up entry by entry are the sums of the contract.
use Rattle.office_base.proofs.Names.{◌≡◌, ℕ, ◌+◌, Bool, true, false, cond, ◌&&◌, List, [], ◌∷◌, filter, refl, sym, ap, ◌∙◌, arith, is_raise, is_payment, is_less, bare_sums, sums_with_entry, sums_with_entries, sum_over, same_number, entry_sum, sums_of, ContractSums, ContractRow, EntryKind, Raise, Cut, Payment, EntryRow}

-- the sum of the entries of certain kinds
abbrev amounts : (EntryKind → Bool) → List EntryRow → ℕ
amounts kind es = sum_over (λ (e : EntryRow). cond (kind e.kind) e.amount 0) es

both_tests : (b c : Bool) (n m : ℕ) → cond (b && c) n 0 + m ≡ cond c (cond b n 0 + m) m
both_tests true true n m = refl
both_tests true false n m = omega arith
both_tests false true n m = refl
both_tests false false n m = omega arith

amounts_cond : (kind : EntryKind → Bool) (c : Bool) (e : EntryRow) (es : List EntryRow) → amounts kind (cond c (e ∷ es) es) ≡ cond c (cond (kind e.kind) e.amount 0 + amounts kind es) (amounts kind es)
amounts_cond kind true e es = refl
amounts_cond kind false e es = refl

-- the sum of a contract's entries is that of the entries with its number
entry_amounts : (kind : EntryKind → Bool) (entries : List EntryRow) (contract : ℕ)
    → entry_sum kind entries contract ≡ amounts kind (filter (λ (e : EntryRow). same_number e.contract contract) entries)
entry_amounts kind [] contract = refl
entry_amounts kind (e ∷ es) contract =
    both_tests (kind e.kind) (same_number e.contract contract) e.amount (entry_sum kind es contract)
    ∙ ap (λ m. cond (same_number e.contract contract) (cond (kind e.kind) e.amount 0 + m) m) (entry_amounts kind es contract)
    ∙ sym (amounts_cond kind (same_number e.contract contract) e (filter (λ (e : EntryRow). same_number e.contract contract) es))

abbrev three : ℕ → ℕ → ℕ → ContractSums
three a b c = record { gained = a; lost = b; paid = c }

three_same : (a b c a' b' c' : ℕ) → a ≡ a' → b ≡ b' → c ≡ c' → three a b c ≡ three a' b' c'
three_same a b c a' b' c' p q r = ap (λ x. three x b c) p ∙ ap (λ x. three a' x c) q ∙ ap (λ x. three a' b' x) r

kind_step : (k : EntryKind) (n g l p : ℕ) (sums : ContractSums)
    → three ((sums_with_entry k n sums).gained + g) ((sums_with_entry k n sums).lost + l) ((sums_with_entry k n sums).paid + p)
    ≡ three (sums.gained + (cond (is_raise k) n 0 + g)) (sums.lost + (cond (is_less k) n 0 + l)) (sums.paid + (cond (is_payment k) n 0 + p))
kind_step Raise n g l p sums = three_same _ _ _ _ _ _ (omega arith) (omega arith) (omega arith)
kind_step Cut n g l p sums = three_same _ _ _ _ _ _ (omega arith) (omega arith) (omega arith)
kind_step Payment n g l p sums = three_same _ _ _ _ _ _ (omega arith) (omega arith) (omega arith)

with_entries_are : (sums : ContractSums) (es : List EntryRow)
    → sums_with_entries sums es ≡ three (sums.gained + amounts is_raise es) (sums.lost + amounts is_less es) (sums.paid + amounts is_payment es)
with_entries_are sums [] = three_same sums.gained sums.lost sums.paid _ _ _ (omega arith) (omega arith) (omega arith)
with_entries_are sums (e ∷ es) =
    with_entries_are (sums_with_entry e.kind e.amount sums) es
    ∙ kind_step e.kind e.amount (amounts is_raise es) (amounts is_less es) (amounts is_payment es) sums

-- adding up a contract's entries one after another gives its sums
pub sums_are : (entries : List EntryRow) (c : ContractRow) → sums_with_entries (bare_sums c) (filter (λ (e : EntryRow). same_number e.contract c.contract) entries) ≡ sums_of entries c
sums_are entries c =
    with_entries_are (bare_sums c) (filter (λ (e : EntryRow). same_number e.contract c.contract) entries)
    ∙ three_same _ _ _ _ _ _
    (omega (arith, entry_amounts is_raise entries c.contract))
    (omega (arith, entry_amounts is_less entries c.contract))
    (omega (arith, entry_amounts is_payment entries c.contract))
