-- The ranges of the fields of joined rows. The types of the records keep them.
use Rattle.std.specs.Prelude.{◌≤◌, IfSome}
use Rattle.office_values.specs.Ids.{IsId}
use Rattle.office_values.specs.Money.{amount_limit, total_limit}
use Rattle.office_tables.specs.Ranges.{IsOfficeNumber, IsSum}
use Rattle.office_ledger.specs.declared.joined.JoinedRow.{JoinedRow}
use Rattle.office_ledger.specs.declared.joined.JoinedLot.{JoinedLot}
use Rattle.office_ledger.specs.declared.joined.JoinedContract.{JoinedContract}
use Rattle.office_ledger.specs.declared.joined.JoinedEntry.{JoinedEntry}

-- each field is in its range, and each part of the row fits
abbrev pub EntryFits : JoinedEntry → Type 0
EntryFits x = IsId x.entry × IsSum x.amount

abbrev pub ContractFits : JoinedContract → Type 0
ContractFits x = IsOfficeNumber x.contract × (x.signed ≤ total_limit) × (x.released ≤ total_limit) × IfSome x.entry EntryFits

abbrev pub LotFits : JoinedLot → Type 0
LotFits x = IsId x.notice × IsId x.lot × (x.reserved ≤ amount_limit) × IfSome x.contract ContractFits

abbrev pub JoinedFits : JoinedRow → Type 0
JoinedFits x = IsId x.line × (x.appropriation ≤ total_limit) × (x.free ≤ total_limit) × IfSome x.lot LotFits
