use Rattle.office_tables.proofs.Names.{arith, sym, ◌∙◌, take_all}
use Rattle.office_tables.proofs.Exactly.{exit, one_unwritten}
use Rattle.office_tables.proofs.stored.all.Goals as goal

pub returns-in_err-record-clause-cause : goal.returns-in_err-record-clause-cause
returns-in_err-record-clause-cause g c =
    exit _ c.from_residual.result _ _ c.from_residual.ensures.1 (one_unwritten g.R.Stored.row_of g.R.Stored.fits c.args.rows.now c.row-item.result c.rows.row-index (omega arith) (sym c.row-item.is)) c.in_err-record.ensures.cause

pub returns-clause-exact : goal.returns-clause-exact
returns-clause-exact g c = c.rows.invariant.1 ∙ take_all c.rows.row-index c.args.rows.now (omega arith)
