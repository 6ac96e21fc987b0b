use Rattle.procure_config.proofs.Names.{arith, codes, ExplainsUnsignedError, HasUnsignedDigitsIfOk, ParsesUnsigned, found_of}
use Rattle.procure_config.proofs.Numbers.{read_fits, read_inside, read_nothing, read_outside}
use Rattle.procure_config.proofs.job.port_of.Goals as goal

pub returns-in-Some : goal.returns-in-Some
returns-in-Some c =
    let fits = read_fits (λ bs r. ParsesUnsigned 16 10 bs r × ExplainsUnsignedError 10 bs r × HasUnsignedDigitsIfOk bs r) 16 65535 (λ t x h. h.0) (omega arith) (omega arith) (found_of c.args.met.now) (codes "PORT") c.in-Some.port c.in-Some.ensures.none c.in-Some.ensures.value in
    read_inside (λ bs r. ParsesUnsigned 16 10 bs r × ExplainsUnsignedError 10 bs r × HasUnsignedDigitsIfOk bs r) 16 65535 (λ t x h. h.0) (omega arith) (omega arith) (found_of c.args.met.now) (codes "PORT") c.in-Some.port c.in-Some.ensures.none c.in-Some.ensures.value c.if-port-ge1.true (omega (arith, fits))

pub returns-in_default : goal.returns-in_default
returns-in_default c = read_outside (λ bs r. ParsesUnsigned 16 10 bs r × ExplainsUnsignedError 10 bs r × HasUnsignedDigitsIfOk bs r) 16 65535 (λ t x h. h.0) (omega arith) (omega arith) (found_of c.args.met.now) (codes "PORT") c.in-Some.port c.in-Some.ensures.none c.in-Some.ensures.value (λ p. omega (arith, c.if-port-ge1.false, p.0))

pub returns-in_default-2 : goal.returns-in_default-2
returns-in_default-2 c = read_nothing (λ bs r. ParsesUnsigned 16 10 bs r × ExplainsUnsignedError 10 bs r × HasUnsignedDigitsIfOk bs r) 16 65535 (λ t x h. h.0) (omega arith) (omega arith) (found_of c.args.met.now) (codes "PORT") c.in_default.ensures.value
