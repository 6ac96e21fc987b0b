-- The sums of a contract are those of its row and those of its entries together.
use Rattle.office_sums.proofs.Names.{◌≡◌, ℕ, ◌+◌, List, [], ◌∷◌, refl, ap, ◌∙◌, arith, sums_with_entries, sums_with_entry, ContractSums, EntryKind, Raise, Cut, Payment, EntryRow}

abbrev pub both : ContractSums → ContractSums → ContractSums
both s z = record { gained = s.gained + z.gained; lost = s.lost + z.lost; paid = s.paid + z.paid }

pub three_same : (a b c d e f : ℕ) → a ≡ d → b ≡ e → c ≡ f → ◌≡◌ {A = ContractSums} (record { gained = a; lost = b; paid = c }) (record { gained = d; lost = e; paid = f })
three_same a b c d e f p q r = λ i. record { gained = p i; lost = q i; paid = r i }

entry_step : (k : EntryKind) (n : ℕ) (s z : ContractSums) → sums_with_entry k n (both s z) ≡ both s (sums_with_entry k n z)
entry_step Raise n s z = three_same _ _ _ _ _ _ (omega arith) (omega arith) (omega arith)
entry_step Cut n s z = three_same _ _ _ _ _ _ (omega arith) (omega arith) (omega arith)
entry_step Payment n s z = three_same _ _ _ _ _ _ (omega arith) (omega arith) (omega arith)

pub entries_add : (es : List EntryRow) (s z : ContractSums) → sums_with_entries (both s z) es ≡ both s (sums_with_entries z es)
entries_add [] s z = refl
entries_add (e ∷ es) s z = ap (λ x. sums_with_entries x es) (entry_step e.kind e.amount s z) ∙ entries_add es s (sums_with_entry e.kind e.amount z)
