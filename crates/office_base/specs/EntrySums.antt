-- The sums of a contract, added up from its entries one after another.
use Rattle.std.specs.Prelude.{ℕ, ◌+◌, List, [], ◌∷◌}
use Rattle.office_base.specs.declared.ledger.ContractSums.{ContractSums}
use Rattle.office_base.specs.declared.records.ContractRow.{ContractRow}
use Rattle.office_base.specs.declared.records.EntryKind.{EntryKind}
use Rattle.office_base.specs.declared.records.EntryKind.TheVariants.{Raise, Cut, Payment}
use Rattle.office_base.specs.declared.records.EntryRow.{EntryRow}

-- the sums of a contract without entries: the signed value, and the amount that its end released
abbrev pub bare_sums : ContractRow → ContractSums
bare_sums c = record { gained = c.signed; lost = c.released; paid = 0 }

-- the sums after one more entry of this kind and amount
abbrev pub sums_with_entry : EntryKind → ℕ → ContractSums → ContractSums
sums_with_entry Raise amount sums = record { gained = sums.gained + amount; lost = sums.lost; paid = sums.paid }
sums_with_entry Cut amount sums = record { gained = sums.gained; lost = sums.lost + amount; paid = sums.paid }
sums_with_entry Payment amount sums = record { gained = sums.gained; lost = sums.lost + amount; paid = sums.paid + amount }

-- the sums after these entries
abbrev pub sums_with_entries : ContractSums → List EntryRow → ContractSums
sums_with_entries sums [] = sums
sums_with_entries sums (e ∷ es) = sums_with_entries (sums_with_entry e.kind e.amount sums) es
