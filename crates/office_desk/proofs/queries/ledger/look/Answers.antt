use Rattle.office_desk.proofs.AddedUp.{ledger_even}
use Rattle.office_desk.proofs.queries.ledger.look.Goals as goal

pub returns-clause-shown : goal.returns-clause-shown
returns-clause-shown g c honest s held =
    ledger_even s c.in_ok-rows.rows.items c.deref.result.now c.rows_add_up.result (c.in_ok-rows.ensures.0.1 honest s held).0 c.deref.ensures.value c.rows_add_up.ensures
    c.if-not-rows_add_up.false
