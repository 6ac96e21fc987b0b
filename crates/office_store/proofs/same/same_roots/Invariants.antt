use Rattle.office_store.proofs.Names.{◌≡◌, length, take, terms_in}
use Rattle.office_store.proofs.same.same_roots.Given as goal

abbrev pub invariant-loop-at : goal.invariant-loop-at
invariant-loop-at l = terms_in l.a (take l.at l.places) ≡ terms_in l.b (take l.at l.others)
