use Rattle.office_sums.proofs.Names.{sym, ◌∙◌}
use Rattle.office_sums.proofs.Known.{pots_are}
use Rattle.office_sums.proofs.asking.sum_row.Goals as goal

pub returns-in-Some-clause-right : goal.returns-in-Some-clause-right
returns-in-Some-clause-right g c honest t held h =
    let are = pots_are c.args.row.now c.in-Some.sums t (h.each c.args.row.now.line c.in-Some.sums (sym c.get.ensures ∙ c.in-Some.is)) in (c.pots_by.ensures ∙ are.0, are.1)
