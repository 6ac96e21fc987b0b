use Rattle.office_desk.proofs.Names.{[], Tenderer, own_of_lot}
use Rattle.office_desk.proofs.Listed.{one_more}
use Rattle.office_desk.proofs.queries.own_tenders.load_tenders.Goals as goal

pub loop-lot-preserved : goal.loop-lot-preserved
loop-lot-preserved g c =
    let before = c.loop-lot.invariant in
    let step = c.in_ok-rows.ensures.0 in (
      c.looks_follow.ensures _ _ _ before.0 step.0,
      λ honest s held.
          let mid = step.0.before honest in
          one_more (own_of_lot (Tenderer c.args.tenderer) s) [] c.args.lots.now c.loop-lot.lot-index c.lot-item.result
          c.loop-lot.all.items c.append.new.self.items c.in_ok-rows.rows.items
          c.loop-lot-test.true c.lot-item.is
          (before.1 mid s held) (step.1 honest s (before.0.same mid s held)) c.in_ok-append.ensures.items,
    )
