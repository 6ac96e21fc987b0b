use Rattle.std.proofs.Common.{◌≡◌, length}
use Rattle.office_commands.specs.Identified.{repeats_id}
use Rattle.office_commands.proofs.identified.repeats_id.Given as goal

abbrev pub invariant-loop-first : goal.invariant-loop-first
invariant-loop-first g l = repeats_id g.T.Identified.id_of l.things ≡ repeats_id g.T.Identified.id_of l.rest

abbrev pub decreases-loop-first : goal.decreases-loop-first
decreases-loop-first g l = length l.rest
