use Rattle.office_ledger.proofs.Names.{lot_cells, columns_of_lot, LotFits}
use Rattle.office_ledger.proofs.Parted.{not_read}
use Rattle.office_ledger.proofs.reading.lot_from.Goals as goal

pub returns-in_err-lot_at-clause-cause : goal.returns-in_err-lot_at-clause-cause
returns-in_err-lot_at-clause-cause c =
    not_read lot_cells LotFits (columns_of_lot c.args.row.now c.args.at) c.has_no_lot.result c.has_no_lot.ensures c.if-has_no_lot.false _ c.from_residual.result c.from_residual.ensures.1 c.in_err-lot_at.ensures.cause
