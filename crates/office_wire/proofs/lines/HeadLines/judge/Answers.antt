use Rattle.office_wire.proofs.Names.{◌≡◌, ◌++◌, ◌∷◌, [], ℕ, List, length, take, drop, sym, ap, subst, arith, rules, ◌∙◌, ◌-◌, false, IsTrue, eqb-true, take_all, length-drop, nil_from_length, HasNoRequest, LineEnd, print_end, skip_empty}
use Rattle.office_wire.proofs.HeadLemmas.{no_head_push, no_line_feed, no_head_blank, blank_on}
use Rattle.office_wire.proofs.lines.HeadLines.judge.Goals as goal

pub returns-then-not-ends_in_line_feed-clause-no_head : goal.returns-then-not-ends_in_line_feed-clause-no_head
returns-then-not-ends_in_line_feed-clause-no_head c said front last e none =
    let other : last ≡ 10 → ⊥ = λ is.
    let bytes = c.deref.ensures.value ∙ (c.self.view_is ∙ (e ∙ ap (λ (b : ℕ). front ++ b ∷ []) is)) in
    let test : IsTrue c.ends_in_line_feed.result = c.ends_in_line_feed.ensures front bytes in
    let no : c.ends_in_line_feed.result ≡ false = search rules in
    cc (sym test ∙ no) in
    subst HasNoRequest (sym e) (no_head_push front last none (no_line_feed front last other))

pub returns-then-self-clause-no_head : goal.returns-then-self-clause-no_head
returns-then-self-clause-no_head c said front last e none =
    let other : (f : List ℕ) (end : LineEnd) → front ++ last ∷ [] ≡ f ++ 10 ∷ print_end end → ⊥ = λ f end is.
    let test : IsTrue c.ends_in_empty_line.result = c.ends_in_empty_line.ensures f end (c.deref-then-self.ensures.value ∙ (c.self.view_is ∙ (e ∙ is))) in
    cc (sym test ∙ said) in
    subst HasNoRequest (sym e) (no_head_push front last none other)

-- all bytes so far are empty lines
blank_now : (c : goal.After-self-1) → skip_empty c.self.inside.bytes.items ≡ []
blank_now c =
    let bytes = c.self.inside.bytes.items in
    let at = c.self.inside.blank in
    let rest = rw c.deref-2.ensures.value at c.after_empty_lines.ensures in
    let none = nil_from_length c.after_empty_lines.result.now (eqb-true _ 0 (sym c.is_empty.ensures ∙ c.if-is_empty.true)) in
    let whole : take (length bytes - at) (drop at bytes) ≡ drop at bytes = (let len = length-drop at bytes in take_all _ (drop at bytes) (omega (arith, len))) in
    let behind : skip_empty (drop at bytes) ≡ [] = ap skip_empty (sym whole) ∙ (sym rest ∙ none) in
    blank_on bytes at (c.self.invariant.1 c.if-self.false) behind

pub invariant_of-self : goal.invariant_of-self
invariant_of-self c =
    (omega (arith, c.len-self-inside.ensures), λ _. ap skip_empty (take_all c.len-self-inside.result c.self.inside.bytes.items (omega (arith, c.len-self-inside.ensures))) ∙ blank_now c)

pub returns-then-is_empty-clause-no_head : goal.returns-then-is_empty-clause-no_head
returns-then-is_empty-clause-no_head c said front last e none = subst HasNoRequest c.self.view_is (no_head_blank c.self.inside.bytes.items (blank_now c))
