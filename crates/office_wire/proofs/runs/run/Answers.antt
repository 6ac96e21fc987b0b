use Rattle.office_wire.proofs.RunLemmas.{ran_kept, ran_unflushed}
use Rattle.office_wire.proofs.runs.run.Goals as goal

pub returns-then-is_err-clause-ran : goal.returns-then-is_err-clause-ran
returns-then-is_err-clause-ran g c h s holds =
    let (steps, ran, held) = c.answer_blocks-outcome.ensures.ran h s holds in
    (steps, ran_unflushed g.D.Responder.meaning.answers s steps _ _ _ _ _ c.answer_blocks-outcome.result ran c.flush.ensures.kept, held)

pub returns-clause-ran : goal.returns-clause-ran
returns-clause-ran g c h s holds =
    let (steps, ran, held) = c.answer_blocks-outcome.ensures.ran h s holds in
    (steps, ran_kept g.D.Responder.meaning.answers s steps _ _ _ _ _ c.answer_blocks-outcome.result ran c.flush.ensures.kept, held)
