use Rattle.office_store.proofs.Names.{◌≡◌, amounts_of_line, LineAmounts}
use Rattle.office_store.proofs.Shelves.{looked_sorted, unanswered}
use Rattle.office_store.proofs.shelf.SqlShelfLookups.list_amounts_of_line.Goals as goal

pub returns-in-Ok : goal.returns-in-Ok
returns-in-Ok g c =
    looked_sorted g.S.Store c.self.inside.conn c.amounts_of_line.new.conn c.args.self.now c.self.inside.faults c.in-Ok.amounts (λ t (amounts : LineAmounts). amounts ≡ amounts_of_line c.args.line.now t) c.self.view_is c.in-Ok.ensures.kept c.in-Ok.ensures.survives
    c.in-Ok.ensures.got

pub returns-in-Err : goal.returns-in-Err
returns-in-Err g c =
    unanswered g.S.Store c.self.inside.conn c.amounts_of_line.new.conn c.args.self.now c.count.new.self c.self.inside.faults c.count.result (λ t (amounts : LineAmounts). amounts ≡ amounts_of_line c.args.line.now t) c.self.view_is c.count.ensures.kept
    c.count.ensures.counted c.count.ensures.cause c.in-Err.ensures.kept c.in-Err.ensures.survives
