use Rattle.office_store.proofs.Names.{rules, arith, ◌≡◌, ◌∙◌, ◌-◌, ◌+◌, ℕ, zero, suc, List, Some, slice_get, IsTrue, ap, sym, subst, true≢false, common_steps, gets, get_or_from_slice_get, Null, BinaryOp, UnaryOp, Term, op1, op2, Op, Literal, Unary, Binary, op_term, term_to}
use Rattle.office_store.proofs.same.+same_term.Goals.{then-same_binary, else-same_binary}
use Rattle.office_store.proofs.same.+same_term.Goals as goal

-- the term at a place within
term_is : (ops : List Op) (deep low at : ℕ) (op : Op) → deep ≡ low + 1 → slice_get ops at ≡ Some op → term_to ops deep at ≡ op_term (term_to ops low) op
term_is ops zero low at op is got = absurd (omega (arith, is))
term_is ops (suc deep) low at op is got =
    let same : deep ≡ low = omega (arith, is) in
    subst (λ n. term_to ops (suc deep) at ≡ op_term (term_to ops n) op) same (ap (op_term (term_to ops deep)) (get_or_from_slice_get ops at op (Literal Null) got))

same_unary : (op other : UnaryOp) (x y s t : Term) → s ≡ op1 op x → t ≡ op1 other y → s ≡ t → op ≡ other
same_unary op other x y s t first second same = let e : op1 op x ≡ op1 other y = sym first ∙ same ∙ second in cc

same_binary : (op other : BinaryOp) (x y z w s t : Term) → s ≡ op2 op x y → t ≡ op2 other z w → s ≡ t → op ≡ other
same_binary op other x y z w s t first second same = let e : op2 op x y ≡ op2 other z w = sym first ∙ same ∙ second in cc

same_left : (op other : BinaryOp) (x y z w s t : Term) → s ≡ op2 op x y → t ≡ op2 other z w → s ≡ t → x ≡ z
same_left op other x y z w s t first second same = let e : op2 op x y ≡ op2 other z w = sym first ∙ same ∙ second in cc

pub returns-else-same_unary : goal.returns-else-same_unary
returns-else-same_unary t c =
    let it = c.in-Unary-Unary in
    let here : slice_get c.args.a.now c.args.at ≡ Some c.index-a-at.result = grind (arith, common_steps, gets) in
    let there : slice_get c.args.b.now c.args.place ≡ Some c.index-b-place.result = grind (arith, common_steps, gets) in
    let one : c.index-a-at.result ≡ Unary it.op it.x = search rules in
    let two : c.index-b-place.result ≡ Unary it.other it.y = search rules in
    let first = term_is c.args.a.now c.args.deep (c.args.deep - 1) c.args.at (Unary it.op it.x) (omega arith) (here ∙ ap Some one) in
    let second = term_is c.args.b.now c.args.depth (c.args.depth - 1) c.args.place (Unary it.other it.y) (omega arith) (there ∙ ap Some two) in
    (λ yes. absurd (true≢false (sym yes ∙ c.if-same_unary.false)), λ same. c.same_unary.ensures.1 (same_unary _ _ _ _ _ _ first second same))

pub returns-else-same_term : goal.returns-else-same_term
returns-else-same_term t c =
    let it = c.in-Binary-Binary in
    let here : slice_get c.args.a.now c.args.at ≡ Some c.index-a-at.result = grind (arith, common_steps, gets) in
    let there : slice_get c.args.b.now c.args.place ≡ Some c.index-b-place.result = grind (arith, common_steps, gets) in
    let one : c.index-a-at.result ≡ Binary it.op it.x it.y = search rules in
    let two : c.index-b-place.result ≡ Binary it.other it.z it.w = search rules in
    let first = term_is c.args.a.now c.args.deep (c.args.deep - 1) c.args.at (Binary it.op it.x it.y) (omega arith) (here ∙ ap Some one) in
    let second = term_is c.args.b.now c.args.depth (c.args.depth - 1) c.args.place (Binary it.other it.z it.w) (omega arith) (there ∙ ap Some two) in (
      λ yes. absurd (true≢false (sym yes ∙ c.if-same_term.false)),
      λ same. elim c.if-same_binary.branch [
        | then-same_binary w ↦ subst IsTrue (sym w.value-is) (w.same_term-then-same_binary.ensures.1 (same_left _ _ _ _ _ _ _ _ first second same))
        | else-same_binary w ↦ absurd (true≢false (sym (c.same_binary.ensures.1 (same_binary _ _ _ _ _ _ _ _ first second same)) ∙ w.if-same_binary.false))
      ],
    )
