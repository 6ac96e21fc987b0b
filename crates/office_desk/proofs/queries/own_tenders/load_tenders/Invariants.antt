use Rattle.office_desk.proofs.Names.{◌≡◌, take, flat_map, Looks, Tenderer, own_of_lot}
use Rattle.office_desk.proofs.queries.own_tenders.load_tenders.Given as goal

abbrev pub invariant-loop-lot : goal.invariant-loop-lot
invariant-loop-lot g l = Looks g.H.Lookups.meaning l.fn.shelf l.shelf (λ s. l.all.items ≡ flat_map (own_of_lot (Tenderer l.tenderer) s) (take l.lot-index l.lots))
