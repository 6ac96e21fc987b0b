use Rattle.ocds_merge.proofs.Names.{sym, ◌∙◌}
use Rattle.ocds_merge.proofs.ReadWritten.{reads_written}
use Rattle.ocds_merge.proofs.written.spliced_object.Goals as goal

pub returns-clause-written : goal.returns-clause-written
returns-clause-written c = reads_written c.args.stored.now c.in-Some._members.now (sym c.as_bytes.ensures.value ∙ c.in-Some.ensures) c.in_ok-spliced.ensures.readable
