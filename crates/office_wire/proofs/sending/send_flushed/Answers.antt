use Rattle.office_wire.proofs.Names.{Appends-kept, err_from_is_err_and}
use Rattle.office_wire.proofs.SendLemmas.{whole_part}
use Rattle.office_wire.proofs.sending.send_flushed.Goals as goal

pub returns-in_err-send-clause-err : goal.returns-in_err-send-clause-err
returns-in_err-send-clause-err g c =
    let p = err_from_is_err_and c.from_residual.result c.from_residual.ensures.1 in rw p.1 c.in_err-send.ensures.err

pub returns-in_err-flush-clause-err : goal.returns-in_err-flush-clause-err
returns-in_err-flush-clause-err g c =
    let p = err_from_is_err_and c.from_residual-in_err-flush.result c.from_residual-in_err-flush.ensures.1 in
    rw p.1 (whole_part c.args.writer.now.contents c.flush.new.self.contents c.args.bytes.now
    (Appends-kept c.args.writer.now.contents c.send.new.writer.contents c.flush.new.self.contents c.args.bytes.now c.in_ok-send.ensures.ok c.flush.ensures.kept))

pub returns-clause-ok : goal.returns-clause-ok
returns-clause-ok g c =
    Appends-kept c.args.writer.now.contents c.send.new.writer.contents c.flush.new.self.contents c.args.bytes.now c.in_ok-send.ensures.ok c.flush.ensures.kept
