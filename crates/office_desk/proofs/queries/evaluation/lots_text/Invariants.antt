use Rattle.office_desk.proofs.Names.{◌≡◌, ◌++◌, take, flat_map, Looks, evaluated_lot, evaluated_lines}
use Rattle.office_desk.proofs.queries.evaluation.lots_text.Given as goal

abbrev pub invariant-loop-lot : goal.invariant-loop-lot
invariant-loop-lot g l =
    Looks g.H.Lookups.meaning l.fn.shelf l.shelf
    (λ s. l.text ≡ l.fn.begun ++ flat_map (λ lot. evaluated_lines (evaluated_lot l.caller l.weight l.awards s lot)) (take l.lot-index l.lots))
