use Rattle.office_plans.proofs.Names.{◌≡◌, Option, Some, max, option_map, ◌∙◌, ap, sym, Fail, FailRows, notice_of_award, award_at, AwardRow, fail_event, given_by}
use Rattle.office_plans.proofs.Maybe.{if_ok}
use Rattle.office_plans.proofs.commands.fail.release.Goals as goal

pub returns-clause-release : goal.returns-clause-release
returns-clause-release c =
    let a = c.args in
    if_ok c.make_release.result c.make_release.ensures.release
    (λ made holds s number are here.
    let found : award_at number s ≡ Some a.award.now = sym (ap (λ (rows : FailRows). rows.award) are) ∙ here in
    holds (given_by a.asking.now s (Fail number))
    (ap (option_map fail_event) found)
    (ap (option_map (λ (r : AwardRow). r.notice)) found)
    (ap (λ (rows : FailRows). rows.notice) are ∙ ap (λ (r : Option AwardRow). notice_of_award r s) found)
    (c.time-t.ensures ∙ ap (λ (rows : FailRows). max a.asking.now.moment rows.clock.moment) are))
