use Rattle.office_store.proofs.Names.{◌≡◌, take}
use Rattle.office_store.proofs.same.same_columns.Given as goal

abbrev pub invariant-loop-at : goal.invariant-loop-at
invariant-loop-at l = take l.at l.a ≡ take l.at l.b
