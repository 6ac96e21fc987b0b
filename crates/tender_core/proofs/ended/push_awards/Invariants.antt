use Rattle.tender_core.proofs.Names.{◌≡◌, ◌++◌, map, filter, drop, is_ended_award, award_put}
use Rattle.tender_core.proofs.ended.push_awards.Given as goal

abbrev pub invariant-loop-row : goal.invariant-loop-row
invariant-loop-row l =
    l.made.items ++ map award_put (filter (is_ended_award l.lots) (drop l.row-index l.awards))
    ≡ l.fn.made.items ++ map award_put (filter (is_ended_award l.lots) l.awards)
