use Rattle.office_plans.proofs.Names.{◌≡◌, ◌++◌, map, filter, drop, award_key, is_ended_award}
use Rattle.office_plans.proofs.events.ended_awards.Given as goal

abbrev pub invariant-loop-award : goal.invariant-loop-award
invariant-loop-award l =
    l.numbers.items ++ map award_key (filter (is_ended_award l.lots) (drop l.award-index l.awards)) ≡ map award_key (filter (is_ended_award l.lots) l.awards)
