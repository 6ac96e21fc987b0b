use Rattle.ocds_merge.proofs.Names.{◌≡◌, ◌-◌, ◌∙◌, ◌++◌, List, ℕ, sym, ap, length, take, drop, decimal, arith, take_all, length-drop}
use Rattle.ocds_merge.proofs.NumberLaw.{number_passed}
use Rattle.ocds_merge.proofs.readable.passed_number.Goals as goal

pub returns : goal.returns
returns c =
    let s = c.args.text.now in
    let n = c.digit_count-count.result in
    let p = number_passed s n c.digit_count-count.ensures.within c.digit_count-count.ensures.digits (omega arith) (omega arith) c.if-has_leading_zero.ensures in
    let all : take (length s - n) (drop n s) ≡ drop n s = take_all (length s - n) (drop n s) (omega (arith, length-drop n s)) in
    (p.0, p.1, p.2 ∙ ap (λ (t : List ℕ). decimal p.0 ++ t) (sym all))
