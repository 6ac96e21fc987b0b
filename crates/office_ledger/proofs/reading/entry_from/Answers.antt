use Rattle.office_ledger.proofs.Names.{entry_cells, columns_of_entry, EntryFits}
use Rattle.office_ledger.proofs.Parted.{not_read}
use Rattle.office_ledger.proofs.reading.entry_from.Goals as goal

pub returns-in_err-entry_at-clause-cause : goal.returns-in_err-entry_at-clause-cause
returns-in_err-entry_at-clause-cause c =
    not_read entry_cells EntryFits (columns_of_entry c.args.row.now c.args.at) c.has_no_entry.result c.has_no_entry.ensures c.if-has_no_entry.false _ c.from_residual.result c.from_residual.ensures.1 c.in_err-entry_at.ensures.cause
