use Rattle.office_desk.proofs.Names.{◌≡◌, take, id_cmp, Looks, tenderer_key, AreFrom}
use Rattle.office_desk.proofs.OpenedTenders.{opened_tenders}
use Rattle.office_desk.proofs.queries.minutes.load_tenders.Given as goal

abbrev pub invariant-loop-row : goal.invariant-loop-row
invariant-loop-row g l =
    Looks g.H.Lookups.meaning l.fn.shelf l.shelf
    (λ s. AreFrom id_cmp tenderer_key s.tenderers l.firms × (l.tenders.items ≡ opened_tenders s.tenderers (take l.row-index l.rows)))
