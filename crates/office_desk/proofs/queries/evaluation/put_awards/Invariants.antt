use Rattle.office_desk.proofs.Names.{◌≡◌, ◌++◌, take, flat_map, awards_of_lot, award_line}
use Rattle.office_desk.proofs.queries.evaluation.put_awards.Given as goal

abbrev pub invariant-loop-award : goal.invariant-loop-award
invariant-loop-award l = l.text ≡ l.fn.text ++ flat_map award_line (awards_of_lot l.lot (take l.award-index l.awards))
