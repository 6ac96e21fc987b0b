use Rattle.office_wire.proofs.Names.{err_from_is_err_and}
use Rattle.office_wire.proofs.RunLemmas.{served_kept, served_unflushed}
use Rattle.office_wire.proofs.runs.serve_one.Goals as goal

pub returns-in_err-answer_one-clause-served : goal.returns-in_err-answer_one-clause-served
returns-in_err-answer_one-clause-served g c h s holds =
    let p = err_from_is_err_and c.from_residual.result c.from_residual.ensures.1 in
    rw (p.1, p.2) (c.in_err-answer_one.ensures.served h s holds)

pub returns-in_err-flush-clause-served : goal.returns-in_err-flush-clause-served
returns-in_err-flush-clause-served g c h s holds =
    let (steps, served, held) = c.in_ok-answer_one.ensures.served h s holds in
    let p = err_from_is_err_and c.from_residual-in_err-flush.result c.from_residual-in_err-flush.ensures.1 in
    (steps, rw (p.1, p.2) (served_unflushed g.D.Responder.meaning.answers _ _ c.args.moment s steps _ _ _ tt served c.flush.ensures.kept), held)

pub returns-clause-served : goal.returns-clause-served
returns-clause-served g c h s holds =
    let (steps, served, held) = c.in_ok-answer_one.ensures.served h s holds in
    (steps, served_kept g.D.Responder.meaning.answers _ _ c.args.moment s steps _ _ _ _ served c.flush.ensures.kept, held)
