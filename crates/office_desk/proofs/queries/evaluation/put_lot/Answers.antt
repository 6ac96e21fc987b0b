use Rattle.office_desk.proofs.Names.{sym, ◌∙◌}
use Rattle.office_desk.proofs.EvaluatedLots.{hidden_lot, shown_lot}
use Rattle.office_desk.proofs.queries.evaluation.put_lot.Goals as goal

pub returns-then-not-is_shown-clause-looks : goal.returns-then-not-is_shown-clause-looks
returns-then-not-is_shown-clause-looks g c =
    let a = c.args in (
      record { before = λ h. h; same = λ h t held. held; stop = λ h u left. left; sound = λ h left. left },
      λ honest s held.
          hidden_lot a.caller.now a.weight a.awards.now s a.lot.now a.text.now c.put_lot.new.self (sym c.is_shown.ensures ∙ c.if-not-is_shown.true) c.in_ok-put_lot.ensures,
    )

pub returns-clause-looks : goal.returns-clause-looks
returns-clause-looks g c =
    let a = c.args in
    let step = c.in_ok-rows.ensures.0 in (
      step.0,
      λ honest s held.
          shown_lot a.caller.now a.weight a.awards.now s a.lot.now c.deref.result.now a.text.now
          c.put_lot.new.self c.put_tenders.new.text c.put_awards.new.text
          (sym c.is_shown.ensures ∙ c.if-not-is_shown.false) (c.deref.ensures.value ∙ step.1 honest s held)
          c.in_ok-put_lot.ensures c.in_ok-put_tenders.ensures.text c.in_ok-put_awards.ensures,
    )
