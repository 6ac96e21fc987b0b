use Rattle.office_sums.proofs.Names.{◌≡◌, ℕ, List, Some, IfSome, refl, sym, subst, lot_cmp}
use Rattle.office_sums.specs.Found.{answer_at}
use Rattle.office_sums.proofs.AfterLooks.{keeps_same}
use Rattle.office_sums.proofs.lookups.RememberingShelfLookups.get_lot.Goals as goal

pub returns-in-Some : goal.returns-in-Some
returns-in-Some g c =
    let key : List ℕ × List ℕ = (c.args.notice.now, c.args.lot.now) in
    let remembered = subst (λ r. IfSome r (λ answer. answer_at lot_cmp c.args.self.now.found.lots key ≡ Some answer)) c.in-Some.is c.get.ensures in
    ((keeps_same _ c.args.self.now, λ honest t held. sym (held.4.lots.each key c.in-Some.answer remembered)), record { counted = refl; cause = tt })
