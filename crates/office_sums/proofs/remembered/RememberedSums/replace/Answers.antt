use Rattle.office_sums.proofs.Names.{IfSome, subst, after_put, AreSums}
use Rattle.office_sums.proofs.Forgotten.{others_stay}
use Rattle.office_sums.proofs.remembered.RememberedSums.replace.Goals as goal

pub returns-in-Some : goal.returns-in-Some
returns-in-Some c p t is sorted h =
    let carried = c.args.carried.now in
    c.insert.ensures.kept (after_put p t)
    (subst (λ sums. IfSome sums (λ s. AreSums carried.line s (after_put p t))) c.in-Some.is (is.right sorted h))
    (others_stay c.args.self.now c.forget.new.self p t carried c.forget.ensures is sorted h)

pub returns-in_default : goal.returns-in_default
returns-in_default c p t is sorted h = others_stay c.args.self.now c.forget.new.self p t c.args.carried.now c.forget.ensures is sorted h
