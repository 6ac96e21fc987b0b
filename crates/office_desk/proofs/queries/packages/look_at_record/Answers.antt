use Rattle.office_desk.proofs.Names.{◌∙◌, sym}
use Rattle.office_desk.proofs.Shown.{record_shown}
use Rattle.office_desk.proofs.queries.packages.look_at_record.Goals as goal

pub returns-clause-shown : goal.returns-clause-shown
returns-clause-shown g c honest s held =
    let shown = c.record_text.ensures in
    let before = shown.there.0.before honest in
    let found = c.in_ok-row.ensures.0 in
    let here = found.0.same before s held in
    record_shown c.args.publisher.now c.args.notice s c.in-Some.row c.record_text.result (sym c.in-Some.is ∙ found.1 before s held)
    (shown.there.1 honest s here) (shown.numbered.1 honest s here) (shown.merge.1 honest s here)
