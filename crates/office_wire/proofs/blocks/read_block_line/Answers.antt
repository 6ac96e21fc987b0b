use Rattle.office_wire.proofs.BlockLemmas.{ended_short, other_line}
use Rattle.office_wire.proofs.blocks.read_block_line.Goals as goal

pub returns-then-count-lt-LINE-clause-bad : goal.returns-then-count-lt-LINE-clause-bad
returns-then-count-lt-LINE-clause-bad g c is input e =
    ended_short _ _ c.fill.new.buf input c.in-Ok.count c.fill.auto.buf c.in-Ok.ensures.given c.in-Ok.ensures.ended c.if-count-lt-LINE.true c.if-count-eq0.false e

pub returns-in-None-clause-bad : goal.returns-in-None-clause-bad
returns-in-None-clause-bad g c is input e =
    other_line _ _ c.fill.new.buf input c.in-Ok.count c.fill.auto.buf c.in-Ok.ensures.given c.if-count-lt-LINE.false (rw c.in-None.is at c.moment_in.ensures.none) e
