use Rattle.office_ledger.proofs.Names.{◌≡◌, ap, sym, subst, ◌∙◌, IfOk, IfErr, IfOk-weaker, Row, IsFaultOf, IsUnwritten, JoinedLot, joined_lot_read, joined_lot_cells, LotFits, columns_are}
use Rattle.office_ledger.proofs.BackAgain.{lot_back}
use Rattle.office_ledger.proofs.reading.joined_lot.Goals as goal

exact : goal.returns-clause-exact
exact c = subst (λ (r : Row). IfOk c.lot_at.result (λ (lot : JoinedLot). joined_lot_cells lot ≡ r)) (columns_are c.args.row.now 9 c.in_ok-has_columns.ensures.exact) c.lot_at.ensures.exact

pub returns-clause-exact : goal.returns-clause-exact
returns-clause-exact = exact

pub returns-clause-read : goal.returns-clause-read
returns-clause-read c = IfOk-weaker c.lot_at.result (λ (lot : JoinedLot). joined_lot_cells lot ≡ c.args.row.now) (λ (lot : JoinedLot). lot ≡ joined_lot_read c.args.row.now) (λ lot e. sym (lot_back lot) ∙ ap joined_lot_read e) (exact c)

pub returns-clause-cause : goal.returns-clause-cause
returns-clause-cause c = subst (λ (r : Row). IfErr c.lot_at.result (IsFaultOf (IsUnwritten joined_lot_cells LotFits r))) (columns_are c.args.row.now 9 c.in_ok-has_columns.ensures.exact) c.lot_at.ensures.cause
