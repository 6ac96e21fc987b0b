use Rattle.procure_config.proofs.Names.{arith, codes, ExplainsUnsignedError, HasUnsignedDigitsIfOk, ParsesUnsigned, found_of}
use Rattle.procure_config.proofs.Numbers.{read_inside, read_nothing, read_outside}
use Rattle.procure_config.proofs.job.count_of.Goals as goal

pub returns-in-Some : goal.returns-in-Some
returns-in-Some c = read_inside (λ bs r. ParsesUnsigned 32 10 bs r × ExplainsUnsignedError 10 bs r × HasUnsignedDigitsIfOk bs r) 32 1000000 (λ t x h. h.0) (omega arith) (omega arith) (found_of c.args.met.now) (codes "COUNT") c.in-Some.count c.in-Some.ensures.none c.in-Some.ensures.value c.if-count-ge1.true c.if-count-le-COUNT_BOUND.true

pub returns-in_default : goal.returns-in_default
returns-in_default c = read_outside (λ bs r. ParsesUnsigned 32 10 bs r × ExplainsUnsignedError 10 bs r × HasUnsignedDigitsIfOk bs r) 32 1000000 (λ t x h. h.0) (omega arith) (omega arith) (found_of c.args.met.now) (codes "COUNT") c.in-Some.count c.in-Some.ensures.none c.in-Some.ensures.value (λ p. omega (arith, c.if-count-le-COUNT_BOUND.false, p.1))

pub returns-in_default-2 : goal.returns-in_default-2
returns-in_default-2 c = read_outside (λ bs r. ParsesUnsigned 32 10 bs r × ExplainsUnsignedError 10 bs r × HasUnsignedDigitsIfOk bs r) 32 1000000 (λ t x h. h.0) (omega arith) (omega arith) (found_of c.args.met.now) (codes "COUNT") c.in-Some.count c.in-Some.ensures.none c.in-Some.ensures.value (λ p. omega (arith, c.if-count-ge1.false, p.0))

pub returns-in_default-3 : goal.returns-in_default-3
returns-in_default-3 c = read_nothing (λ bs r. ParsesUnsigned 32 10 bs r × ExplainsUnsignedError 10 bs r × HasUnsignedDigitsIfOk bs r) 32 1000000 (λ t x h. h.0) (omega arith) (omega arith) (found_of c.args.met.now) (codes "COUNT") c.in_default.ensures.value
