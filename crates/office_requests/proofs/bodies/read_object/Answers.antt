use Rattle.office_requests.proofs.Names.{inl, inr, sym}
use Rattle.office_requests.proofs.BodySteps.{object_read, no_json}
use Rattle.office_requests.proofs.bodies.read_object.Goals as goal

pub returns-in-Err : goal.returns-in-Err
returns-in-Err c = elim c.json_fault.ensures.either [
  | inl memory ↦ inl memory
  | inr (is, known) ↦ inr (rw is (no_json _ (c.in-Err.ensures.err known)))
]

pub returns-then-is_object : goal.returns-then-is_object
returns-then-is_object c = let ok = c.in-Ok.ensures.ok in rw (object_read _ _ ok.0 ok.1, sym c.if-is_object.ensures)

pub returns-else-is_object : goal.returns-else-is_object
returns-else-is_object c = let ok = c.in-Ok.ensures.ok in inr (rw (object_read _ _ ok.0 ok.1, sym c.if-is_object.ensures))
