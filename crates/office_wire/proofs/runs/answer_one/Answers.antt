use Rattle.office_wire.proofs.Names.{[], ◌∷◌, Err, ap, subst, refl, err_from_is_err_and, Appends, Step}
use Rattle.office_wire.proofs.RunLemmas.{if_known}
use Rattle.office_wire.proofs.SendLemmas.{appends_none}
use Rattle.office_wire.proofs.runs.answer_one.Goals as goal

pub returns-in_err-send-in-Ok-clause-served : goal.returns-in_err-send-in-Ok-clause-served
returns-in_err-send-in-Ok-clause-served g c h s holds =
    let (busy, may, text, held) = c.answer-answer.ensures.step h s holds in
    let x : Step = record { busy = busy; block = record { moment = c.args.moment; request = c.in-Ok.request } } in
    let p = err_from_is_err_and c.from_residual.result c.from_residual.ensures.1 in
    let cut = rw (c.bytes.ensures) at c.in_err-send-in-Ok.ensures.err in (
      x ∷ [],
      rw (p.1, p.2) (record {
        one = refl;
        steps_are = (c.in-Ok.ensures.formed, may, tt);
        told = cut.part;
        sent = cut.more;
        served = (c.answer-answer.result, (text, if_known _ (λ input e. c.in-Ok.ensures.request input e)), cut.front);
      }),
      held,
    )

pub returns-in_ok-send-in-Ok-clause-served : goal.returns-in_ok-send-in-Ok-clause-served
returns-in_ok-send-in-Ok-clause-served g c h s holds =
    let (busy, may, text, held) = c.answer-answer.ensures.step h s holds in
    let x : Step = record { busy = busy; block = record { moment = c.args.moment; request = c.in-Ok.request } } in (
      x ∷ [],
      record {
        one = refl;
        steps_are = (c.in-Ok.ensures.formed, may, tt);
        told = c.answer-answer.result;
        sent = subst (Appends _ _) c.bytes.ensures c.in_ok-send-in-Ok.ensures.ok;
        served = (text, if_known _ (λ input e. c.in-Ok.ensures.request input e));
      },
      held,
    )

pub returns-in-Read-clause-served : goal.returns-in-Read-clause-served
returns-in-Read-clause-served g c h s holds = (
  [],
  record {
    one = tt;
    steps_are = tt;
    told = [];
    sent = appends_none _;
    served = (refl, refl, if_known _ (λ input e. c.in-Err.ensures.cut (ap (λ t. Err t) c.in-Read.is) input e));
  },
  holds,
)

pub returns-in_err-send-in_default-clause-served : goal.returns-in_err-send-in_default-clause-served
returns-in_err-send-in_default-clause-served g c h s holds =
    let p = err_from_is_err_and c.from_residual-in_err-send-in_default.result c.from_residual-in_err-send-in_default.ensures.1 in
    let cut = c.in_err-send-in_default.ensures.err in (
      [],
      rw (p.1, p.2) (record {
        one = tt;
        steps_are = tt;
        told = cut.part;
        sent = cut.more;
        served = (
          c.refusal.result.now,
          (c.in-Err.fault, c.in_default.not-Read, c.refusal.ensures, if_known _ (λ input e. c.in-Err.ensures.refused input e)),
          cut.front,
        );
      }),
      holds,
    )

pub returns-in_ok-send-in_default-clause-served : goal.returns-in_ok-send-in_default-clause-served
returns-in_ok-send-in_default-clause-served g c h s holds = (
  [],
  record {
    one = tt;
    steps_are = tt;
    told = c.refusal.result.now;
    sent = c.in_ok-send-in_default.ensures.ok;
    served = (c.in-Err.fault, c.in_default.not-Read, c.refusal.ensures, if_known _ (λ input e. c.in-Err.ensures.refused input e));
  },
  holds,
)
