use Rattle.office_requests.proofs.Names.{◌≡◌, length, begins_object}
use Rattle.office_requests.proofs.bodies.begins_object.Given as goal

abbrev pub invariant-loop-first : goal.invariant-loop-first
invariant-loop-first l = begins_object l.body ≡ begins_object l.left

abbrev pub decreases-loop-first : goal.decreases-loop-first
decreases-loop-first l = length l.left
