use Rattle.office_http.proofs.KeptSteps.{requests_kept, steps_kept}
use Rattle.office_http.proofs.laws.accounts_and_fates.Goals as goal

pub returns-clause-requests : goal.returns-clause-requests
returns-clause-requests c =
    requests_kept (record { accounts = c.accounts.ensures; tenders = c.tenders.ensures; securities = c.securities.ensures; performances = c.performances.ensures; steps = c.keeping.ensures.reaches; asked = c.can_be_given.ensures })

pub returns-clause-steps : goal.returns-clause-steps
returns-clause-steps c =
    steps_kept (record { accounts = c.accounts.ensures; tenders = c.tenders.ensures; securities = c.securities.ensures; performances = c.performances.ensures; steps = c.keeping.ensures.reaches; asked = c.can_be_given.ensures })
