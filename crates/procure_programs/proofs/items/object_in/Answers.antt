use Rattle.procure_programs.proofs.Names.{inl, inr, sym}
use Rattle.procure_programs.proofs.ItemSteps.{object_read, no_json}
use Rattle.procure_programs.proofs.items.object_in.Goals as goal

pub returns-in-Err : goal.returns-in-Err
returns-in-Err c = elim c.json_fault.ensures [
  | inl memory ↦ inl memory
  | inr (is, known) ↦ inr (rw is (no_json _ (c.in-Err.ensures.err known)))
]

pub returns-then-is_object : goal.returns-then-is_object
returns-then-is_object c = let ok = c.in-Ok.ensures.ok in rw (object_read _ _ ok.0 ok.1, sym c.if-is_object.ensures)

pub returns-else-is_object : goal.returns-else-is_object
returns-else-is_object c = let ok = c.in-Ok.ensures.ok in inr (rw (object_read _ _ ok.0 ok.1, sym c.if-is_object.ensures))
