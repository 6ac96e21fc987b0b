use Rattle.procure_programs.proofs.Names.{List, ℕ, subst, err_from_is_err_and, Appends, AppendsPart}
use Rattle.procure_programs.proofs.connection.refuse.Goals as goal

pub returns-clause-told : goal.returns-clause-told
returns-clause-told g c =
    subst (λ (t : List ℕ). Appends c.args.writer.now.contents c.send_flushed.new.writer.contents t) c.fault_response.ensures c.in_ok-send_flushed.ensures.ok

pub returns-in_err-send_flushed-clause-part : goal.returns-in_err-send_flushed-clause-part
returns-in_err-send_flushed-clause-part g c =
    let p = err_from_is_err_and c.from_residual.result c.from_residual.ensures.1 in
    rw p.1 (subst (λ (t : List ℕ). AppendsPart c.args.writer.now.contents c.send_flushed.new.writer.contents t) c.fault_response.ensures c.in_err-send_flushed.ensures.err)
