use Rattle.office_store.proofs.Names.{Vec, Global, ◌≡◌, LedgerRow, ledger_of, LinesFit}
use Rattle.office_store.proofs.Shelves.{added, not_added}
use Rattle.office_store.proofs.shelf.SqlShelfLookups.ledger.Goals as goal

pub returns-in-Ok : goal.returns-in-Ok
returns-in-Ok g c =
    added g.S.Store c.self.inside.conn c.ledger.new.conn c.args.self.now c.self.inside.faults c.in-Ok.rows (λ t (rows : Vec LedgerRow Global). rows.items ≡ ledger_of t) LinesFit c.self.view_is c.in-Ok.ensures.kept c.in-Ok.ensures.got

pub returns-in-Err : goal.returns-in-Err
returns-in-Err g c =
    not_added g.S.Store c.self.inside.conn c.ledger.new.conn c.args.self.now c.count.new.self c.self.inside.faults c.count.result (λ t (rows : Vec LedgerRow Global). rows.items ≡ ledger_of t) LinesFit c.self.view_is c.count.ensures.kept c.count.ensures.counted
    c.in-Err.ensures.kept
