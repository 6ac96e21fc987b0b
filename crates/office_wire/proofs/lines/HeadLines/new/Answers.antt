use Rattle.office_wire.proofs.Names.{arith}
use Rattle.office_wire.proofs.HeadLemmas.{skip_nil}
use Rattle.office_wire.proofs.lines.HeadLines.new.Goals as goal

pub invariant_of-result : goal.invariant_of-result
invariant_of-result c = (omega arith, λ _. skip_nil)
