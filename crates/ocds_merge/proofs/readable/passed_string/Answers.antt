use Rattle.ocds_merge.proofs.Names.{◌≡◌, ◌∙◌, ◌++◌, ◌∷◌, [], ℕ, List, refl, ap}
use Rattle.ocds_merge.proofs.PlainLaw.{escape_more, escape_stop}
use Rattle.ocds_merge.proofs.readable.passed_string.Goals as goal

pub loop-first-init : goal.loop-first-init
loop-first-init c =
    let p = c.after_plain-left.ensures.passes in
    (p.0, escape_more [] p.0 c.args.text.now c.args.text.now c.after_plain-left.result.now p.2 refl p.1)

pub loop-first-preserved : goal.loop-first-preserved
loop-first-preserved c =
    let l = c.loop-first in
    let s = l.invariant.0 in
    let letter = c.in_ok-letter.letter.now in
    let rest = c.in_ok-letter.rest.now in
    let x = c.is_escape.ensures c.if-not-is_escape.false in
    let first : c.in-Some.first.now ≡ 92 = c.if-first-ne92.false in
    let left : l.left.now ≡ 92 ∷ letter ∷ rest =
    c.in-Some.ensures.cases.0 ∙ ap (λ (b : ℕ). b ∷ c.in-Some.rest.now) first ∙ ap (λ (t : List ℕ). 92 ∷ t) c.in_ok-letter.ensures.cases.0 in
    let p = c.after_plain-left-in-Some.ensures.passes in
    ((s ++ x.0 ∷ []) ++ p.0, escape_more (s ++ x.0 ∷ []) p.0 c.args.text.now rest c.after_plain-left-in-Some.result.now p.2 (escape_stop s c.args.text.now l.left.now x.0 letter rest x.1 l.invariant.1 left) p.1)
