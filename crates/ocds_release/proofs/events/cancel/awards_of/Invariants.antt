use Rattle.ocds_release.proofs.Names.{◌≡◌, map, take, view, ended_award}
use Rattle.ocds_release.proofs.events.cancel.awards_of.Given as goal

abbrev pub invariant-loop-award : goal.invariant-loop-award
invariant-loop-award l = map view l.list.items ≡ map ended_award (take l.award-index l.awards)
