use Rattle.office_plans.proofs.Names.{List, map, ◌∙◌, ap, sym, arith, at_drop_all, tenderer_of, tenderers_named, with_tenderers, OpenedTender}
use Rattle.office_plans.proofs.NamedTenderers.{opened_named}
use Rattle.office_plans.proofs.tenderers.load_tenderers.Goals as goal

pub returns-clause-looks : goal.returns-clause-looks
returns-clause-looks g c = (
  c.loop-tender.invariant.0,
  λ honest s held notice are.
      let loaded = c.loop-tender.tenderers in
      let given = c.args.tenders.now in
      c.from_vec.ensures ∙ c.in_ok-copy_all.ensures
      ∙ sym (at_drop_all (λ (tenders : List OpenedTender). with_tenderers s loaded (map tenderer_of tenders)) given c.loop-tender.tender-index (omega arith))
      ∙ c.loop-tender.invariant.1 honest s held
      ∙ ap (λ (tenders : List OpenedTender). tenderers_named s (map tenderer_of tenders)) are
      ∙ opened_named s (g.met.H.Lookups.held_sorted _ s held).tenderers notice,
)
