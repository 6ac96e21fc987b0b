use Rattle.office_desk.proofs.Names.{arith, ◌≡◌, ◌++◌, take, ap, sym, refl, ◌∙◌, flat_map, take_all, flat_map-map, LotRow, evaluated_lot, evaluated_lines}
use Rattle.office_desk.proofs.Listed.{one_more}
use Rattle.office_desk.proofs.queries.evaluation.lots_text.Goals as goal

pub loop-lot-preserved : goal.loop-lot-preserved
loop-lot-preserved g c =
    let before = c.loop-lot.invariant in
    let step = c.in_ok-put_lot.ensures.looks in
    let lot = c.lot-item.result in (
      c.looks_follow.ensures _ _ _ before.0 step.0,
      λ honest s held.
          let mid = step.0.before honest in
          let lines = λ (l : LotRow). evaluated_lines (evaluated_lot c.args.caller.now c.args.weight c.args.awards.now s l) in
          one_more lines c.args.begun c.args.lots.now c.loop-lot.lot-index lot c.loop-lot.text c.put_lot.new.text (lines lot)
          c.loop-lot-test.true c.lot-item.is (before.1 mid s held) refl (step.1 honest s (before.0.same mid s held)),
    )

pub returns-clause-looks : goal.returns-clause-looks
returns-clause-looks g c =
    let lots = c.args.lots.now in
    let all : take c.loop-lot.lot-index lots ≡ lots = take_all c.loop-lot.lot-index lots (omega arith) in (
      c.loop-lot.invariant.0,
      λ honest s held.
          let seen = evaluated_lot c.args.caller.now c.args.weight c.args.awards.now s in
          c.loop-lot.invariant.1 honest s held
          ∙ ap (λ l. c.args.begun ++ flat_map (λ lot. evaluated_lines (seen lot)) l) all
          ∙ ap (λ l. c.args.begun ++ l) (sym (flat_map-map evaluated_lines seen lots)),
    )
