use Rattle.office_wire.proofs.Names.{[], ◌∷◌, ◌++◌, Err, arith, sym, ap, subst, refl, inl, inr, ◌∙◌, err_from_is_err_and, Appends, Step, office_left, written}
use Rattle.office_wire.proofs.RunLemmas.{blocks_on, count_on, cut_none, cut_request, ends_no_line, if_known, office_push, sent_on, steps_push, told_no_line}
use Rattle.office_wire.proofs.SendLemmas.{appends_more, appends_none}
use Rattle.office_wire.proofs.runs.answer_blocks.Goals as goal

pub rounds-init : goal.rounds-init
rounds-init g c = record {
  spent = omega arith;
  all_read = refl;
  all_written = refl;
  before = λ h. h;
  ran = λ h s holds. record {
    steps = [];
    count = refl;
    steps_are = tt;
    sent = appends_none c.args.writer.now.contents;
    known = λ input e. record { rest = input; now_is = e; blocks = refl };
    holds = holds;
  };
}

pub rounds-preserved : goal.rounds-preserved
rounds-preserved g c = record {
  spent = omega (arith, c.rounds.invariant.spent, c.in_ok-moment.ensures.spent, c.in-Ok.ensures.counted);
  all_read = c.in-Ok.ensures.sound ∙ (c.in_ok-moment.ensures.sound ∙ c.rounds.invariant.all_read);
  all_written = c.in_ok-send-in-Ok.ensures.sound ∙ c.rounds.invariant.all_written;
  before = λ h. c.rounds.invariant.before (c.answer-answer.ensures.before h);
  ran = λ h s holds.
      let A = g.D.Responder.meaning.answers in
      let inv = c.rounds.invariant.ran (c.answer-answer.ensures.before h) s holds in
      let (busy, may, text, held) = c.answer-answer.ensures.step h (office_left A s inv.steps) inv.holds in
      let x : Step = record { busy = busy; block = record { moment = c.in-Some.moment; request = c.in-Ok.request } } in
      record {
        steps = inv.steps ++ x ∷ [];
        count = count_on inv.steps x c.rounds.count inv.count;
        steps_are = steps_push A inv.steps s x inv.steps_are c.in-Ok.ensures.formed may;
        sent = sent_on A inv.steps s x _ _ _ inv.sent (subst (Appends _ _) (c.bytes.ensures ∙ text) c.in_ok-send-in-Ok.ensures.ok);
        known = λ input e.
            let was = inv.known input e in
            let (after, at, line) = (rw c.in-Some.is at c.in_ok-moment.ensures.line) was.rest was.now_is in
            let read = c.in-Ok.ensures.request after at in
            record { rest = read.rest; now_is = read.now_is; blocks = blocks_on inv.steps x input was.rest after read.rest was.blocks line read.whole };
        holds = subst (g.D.Responder.meaning.holds _) (sym (office_push A inv.steps s x)) held;
      };
}

pub returns-in_err-moment-clause-ran : goal.returns-in_err-moment-clause-ran
returns-in_err-moment-clause-ran g c h s holds =
    let A = g.D.Responder.meaning.answers in
    let inv = c.rounds.invariant.ran h s holds in
    let p = err_from_is_err_and c.from_residual.result c.from_residual.ensures.1 in
    let failed = c.in_err-moment.ensures in (
      inv.steps,
      rw (p.1, p.2) (record {
        steps_are = inv.steps_are;
        few = omega (arith, c.rounds.invariant.spent, failed.spent, inv.count);
        told = written A s inv.steps;
        sent = inv.sent;
        told_so = told_no_line A s inv.steps c.in_err-moment.field-0.0 failed.fault;
        known = if_known _ (λ input e.
            let was = inv.known input e in (
              was.rest,
              was.blocks,
              ends_no_line A s inv.steps c.in_err-moment.field-0.0 was.rest _ failed.fault (λ is. failed.bad (ap (λ t. Err t) is) was.rest was.now_is)
                  (λ is. failed.cut (ap (λ t. Err t) is) was.rest was.now_is),
            ));
      }),
      inv.holds,
    )

pub returns-in_default-clause-ran : goal.returns-in_default-clause-ran
returns-in_default-clause-ran g c h s holds =
    let inv = c.rounds.invariant.ran h s holds in (
      inv.steps,
      record {
        steps_are = inv.steps_are;
        few = omega (arith, c.rounds.invariant.spent, c.in_ok-moment.ensures.spent, inv.count);
        told = written g.D.Responder.meaning.answers s inv.steps;
        sent = inv.sent;
        told_so = (inv.count, refl);
        known = if_known _ (λ input e.
            let was = inv.known input e in
            (was.rest, was.blocks, ((rw c.in_default.is at c.in_ok-moment.ensures.line) was.rest was.now_is, inv.count, refl)));
      },
      inv.holds,
    )

pub returns-in_err-send-in-Ok-clause-ran : goal.returns-in_err-send-in-Ok-clause-ran
returns-in_err-send-in-Ok-clause-ran g c h s holds =
    let A = g.D.Responder.meaning.answers in
    let inv = c.rounds.invariant.ran (c.answer-answer.ensures.before h) s holds in
    let (busy, may, text, held) = c.answer-answer.ensures.step h (office_left A s inv.steps) inv.holds in
    let x : Step = record { busy = busy; block = record { moment = c.in-Some.moment; request = c.in-Ok.request } } in
    let many = count_on inv.steps x c.rounds.count inv.count in
    let cut = rw (c.bytes.ensures, text) at c.in_err-send-in-Ok.ensures.err in
    let p = err_from_is_err_and c.from_residual-in_err-send-in-Ok.result c.from_residual-in_err-send-in-Ok.ensures.1 in (
      inv.steps ++ x ∷ [],
      rw (p.1, p.2) (record {
        steps_are = steps_push A inv.steps s x inv.steps_are c.in-Ok.ensures.formed may;
        few = omega (arith, c.rounds.invariant.spent, c.in_ok-moment.ensures.spent, c.in-Ok.ensures.counted, many);
        told = written A s inv.steps ++ cut.part;
        sent = appends_more _ _ _ _ cut.part inv.sent cut.more;
        told_so = inl (record { earlier = inv.steps; last = x; are = refl; part = cut.part; front = cut.front; told_is = refl });
        known = if_known _ (λ input e.
            let was = inv.known input e in
            let (after, at, line) = (rw c.in-Some.is at c.in_ok-moment.ensures.line) was.rest was.now_is in
            let read = c.in-Ok.ensures.request after at in (
              read.rest,
              blocks_on inv.steps x input was.rest after read.rest was.blocks line read.whole,
              inl (record { earlier = inv.steps; last = x; are = refl; part = cut.part; front = cut.front; told_is = refl }),
            ));
      }),
      subst (g.D.Responder.meaning.holds _) (sym (office_push A inv.steps s x)) held,
    )

pub returns-in-Read-clause-ran : goal.returns-in-Read-clause-ran
returns-in-Read-clause-ran g c h s holds =
    let inv = c.rounds.invariant.ran h s holds in (
      inv.steps,
      record {
        steps_are = inv.steps_are;
        few = omega (arith, c.rounds.invariant.spent, c.in_ok-moment.ensures.spent, c.in-Err.ensures.spent, inv.count);
        told = written g.D.Responder.meaning.answers s inv.steps;
        sent = inv.sent;
        told_so = refl;
        known = if_known _ (λ input e.
            let was = inv.known input e in
            let (after, at, line) = (rw c.in-Some.is at c.in_ok-moment.ensures.line) was.rest was.now_is in
            (was.rest, was.blocks, (cut_request was.rest after c.in-Some.moment _ line (c.in-Err.ensures.cut (ap (λ t. Err t) c.in-Read.is) after at), refl)));
      },
      inv.holds,
    )

pub returns-in_err-send-in_default-fault-clause-ran : goal.returns-in_err-send-in_default-fault-clause-ran
returns-in_err-send-in_default-fault-clause-ran g c h s holds =
    let A = g.D.Responder.meaning.answers in
    let inv = c.rounds.invariant.ran h s holds in
    let cut = rw c.refusal.ensures at c.in_err-send-in_default-fault.ensures.err in
    let p = err_from_is_err_and c.from_residual-in_err-send-in_default-fault.result c.from_residual-in_err-send-in_default-fault.ensures.1 in (
      inv.steps,
      rw (p.1, p.2) (record {
        steps_are = inv.steps_are;
        few = omega (arith, c.rounds.invariant.spent, c.in_ok-moment.ensures.spent, c.in-Err.ensures.spent, inv.count);
        told = written A s inv.steps ++ cut.part;
        sent = appends_more _ _ _ _ cut.part inv.sent cut.more;
        told_so = inr (inl (record { why = c.in-Err.fault; was_read = c.in_default-fault.not-Read; part = cut.part; front = cut.front; told_is = refl }));
        known = if_known _ (λ input e.
            let was = inv.known input e in
            let (after, at, line) = (rw c.in-Some.is at c.in_ok-moment.ensures.line) was.rest was.now_is in (
              was.rest,
              was.blocks,
              inr (inl (record {
                why = c.in-Err.fault;
                lost = record { moment = c.in-Some.moment; after = after; line = line; refused = c.in-Err.ensures.refused after at; was_read = c.in_default-fault.not-Read };
                part = cut.part;
                front = cut.front;
                told_is = refl;
              })),
            ));
      }),
      inv.holds,
    )

pub returns-in_default-fault-clause-ran : goal.returns-in_default-fault-clause-ran
returns-in_default-fault-clause-ran g c h s holds =
    let A = g.D.Responder.meaning.answers in
    let inv = c.rounds.invariant.ran h s holds in (
      inv.steps,
      record {
        steps_are = inv.steps_are;
        few = omega (arith, c.rounds.invariant.spent, c.in_ok-moment.ensures.spent, c.in-Err.ensures.spent, inv.count);
        told = written A s inv.steps ++ A.refusal c.in-Err.fault;
        sent = appends_more _ _ _ _ _ inv.sent (rw c.refusal.ensures at c.in_ok-send-in_default-fault.ensures.ok);
        told_so = (c.in-Err.fault, c.in_default-fault.not-Read, refl);
        known = if_known _ (λ input e.
            let was = inv.known input e in
            let (after, at, line) = (rw c.in-Some.is at c.in_ok-moment.ensures.line) was.rest was.now_is in (
              was.rest,
              was.blocks,
              (
                c.in-Err.fault,
                record { moment = c.in-Some.moment; after = after; line = line; refused = c.in-Err.ensures.refused after at; was_read = c.in_default-fault.not-Read },
                refl,
              ),
            ));
      },
      inv.holds,
    )

pub returns-clause-ran : goal.returns-clause-ran
returns-clause-ran g c h s holds =
    let inv = c.rounds.invariant.ran h s holds in (
      inv.steps,
      record {
        steps_are = inv.steps_are;
        few = omega (arith, c.rounds.invariant.spent, inv.count);
        told = written g.D.Responder.meaning.answers s inv.steps;
        sent = inv.sent;
        told_so = refl;
        known = if_known _ (λ input e. let was = inv.known input e in (was.rest, was.blocks, (cut_none was.rest _ was.now_is, refl)));
      },
      inv.holds,
    )
