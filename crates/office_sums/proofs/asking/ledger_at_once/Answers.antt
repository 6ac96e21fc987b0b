use Rattle.office_sums.proofs.Names.{◌∙◌}
use Rattle.office_sums.proofs.LedgerTold.{ledger_told}
use Rattle.office_sums.proofs.asking.ledger_at_once.Goals as goal

pub returns-in-Ok-clause-kept : goal.returns-in-Ok-clause-kept
returns-in-Ok-clause-kept g c honest t held h =
    let told = c.in-Ok.ensures.0.1 honest t held in
    c.remember_all.ensures.kept t (ledger_told t _ (c.deref.ensures.value ∙ told.0) told.1)
