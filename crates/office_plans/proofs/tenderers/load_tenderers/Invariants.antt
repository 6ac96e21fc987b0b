use Rattle.office_plans.proofs.Names.{◌≡◌, map, drop, Looks, tenderer_of, tenderers_named, with_tenderers}
use Rattle.office_plans.proofs.tenderers.load_tenderers.Given as goal

abbrev pub invariant-loop-tender : goal.invariant-loop-tender
invariant-loop-tender g l =
    Looks g.H.Lookups.meaning l.fn.shelf l.shelf
    (λ s. with_tenderers s l.tenderers (map tenderer_of (drop l.tender-index l.tenders)) ≡ tenderers_named s (map tenderer_of l.tenders))
