use Rattle.ocds_merge.proofs.Names.{◌∙◌, ◌∷◌, ℕ, List, true, false, refl, ap, arith, null, boolean, number, unsigned, NextMember}
use Rattle.ocds_merge.proofs.PassLaw.{string_passed, word_passed, array_passed, object_passed, items_over, members_over, item_read, member_read, members_begun}
use Rattle.ocds_merge.proofs.readable.+passing.Goals as goal

pub passed_items-returns-in-Some : goal.passed_items-returns-in-Some
passed_items-returns-in-Some t c = c.loop-turn.invariant c.in-Some.rest.now (items_over c.loop-turn.left.now c.in-Some.rest.now c.loop-turn.later c.args.depth c.in-Some.ensures)

pub passed_items-loop-turn-preserved : goal.passed_items-loop-turn-preserved
passed_items-loop-turn-preserved t c rest m =
    c.loop-turn.invariant rest (item_read c.loop-turn.left.now c.in_ok-item.item.now c.in_ok-left.left.now c.loop-turn.later c.args.depth c.in_ok-item.ensures c.in_ok-left.ensures rest m)

pub passed_members-returns-in-Some : goal.passed_members-returns-in-Some
passed_members-returns-in-Some t c =
    c.loop-turn.invariant c.in-Some.rest.now (members_over c.loop-turn.left.now c.loop-turn.last.now c.in-Some.rest.now c.loop-turn.later c.args.depth c.in-Some.ensures)

pub passed_members-loop-turn-preserved : goal.passed_members-loop-turn-preserved
passed_members-loop-turn-preserved t c rest m =
    let next : NextMember c.loop-turn.left.now c.loop-turn.later c.loop-turn.last.now c.in_ok-name.name.now c.in_ok-name.value.now = record {
      whole = c.in_ok-after_comma_if.field-0.now;
      comma = c.in_ok-after_comma_if.ensures;
      form = c.in_ok-name.ensures.written;
      turn = c.if-not-is_in_turn.ensures;
    } in
    c.loop-turn.invariant rest
    (member_read c.loop-turn.left.now c.loop-turn.later c.loop-turn.last.now c.in_ok-name.name.now c.in_ok-name.value.now c.in_ok-left.left.now c.args.depth next c.in_ok-left.ensures rest m)

pub passed_value-returns-in_ok-passed_string-in-Some : goal.passed_value-returns-in_ok-passed_string-in-Some
passed_value-returns-in_ok-passed_string-in-Some t c =
    let p = c.in_ok-passed_string-in-Some in
    string_passed c.args.text.now c.in-Some.inside.now p.field-0.now 34 p.ensures.0 c.args.depth c.in-Some.ensures refl p.ensures.1

pub passed_other-returns-in_ok-passed_members-in-123 : goal.passed_other-returns-in_ok-passed_members-in-123
passed_other-returns-in_ok-passed_members-in-123 t c =
    object_passed c.args.text.now c.in_ok-first.rest.now c.in_ok-passed_members-in-123.field-0.now c.in_ok-first.first.now c.args.depth c.in_ok-first.ensures.cases.0 c.in-123.is (λ e. omega arith)
    (members_begun c.in_ok-first.rest.now c.all_members.result.text.now c.all_members.result.last.now c.in_ok-passed_members-in-123.field-0.now c.all_members.result.later _ c.all_members.ensures.from c.all_members.ensures.first c.in_ok-passed_members-in-123.ensures)

pub passed_other-returns-in_ok-passed_items-in-91 : goal.passed_other-returns-in_ok-passed_items-in-91
passed_other-returns-in_ok-passed_items-in-91 t c =
    array_passed c.args.text.now c.in_ok-first.rest.now c.in_ok-passed_items-in-91.field-0.now c.in_ok-first.first.now c.args.depth c.in_ok-first.ensures.cases.0 c.in-91.is (λ e. omega arith) c.in_ok-passed_items-in-91.ensures

pub passed_other-returns-in_ok-after_word-in-116 : goal.passed_other-returns-in_ok-after_word-in-116
passed_other-returns-in_ok-after_word-in-116 t c =
    word_passed (boolean true) c.args.text.now c.in_ok-first.rest.now c.in_ok-after_word-in-116.field-0.now c.in_ok-first.first.now c.args.depth tt (omega arith) c.in_ok-first.ensures.cases.0
    (ap (λ (b : ℕ). b ∷ c.in_ok-first.rest.now) c.in-116.is ∙ ap (λ (s : List ℕ). 116 ∷ s) c.in_ok-after_word-in-116.ensures)

pub passed_other-returns-in_ok-after_word-in-102 : goal.passed_other-returns-in_ok-after_word-in-102
passed_other-returns-in_ok-after_word-in-102 t c =
    word_passed (boolean false) c.args.text.now c.in_ok-first.rest.now c.in_ok-after_word-in-102.field-0.now c.in_ok-first.first.now c.args.depth tt (omega arith) c.in_ok-first.ensures.cases.0
    (ap (λ (b : ℕ). b ∷ c.in_ok-first.rest.now) c.in-102.is ∙ ap (λ (s : List ℕ). 102 ∷ s) c.in_ok-after_word-in-102.ensures)

pub passed_other-returns-in_ok-after_word-in-110 : goal.passed_other-returns-in_ok-after_word-in-110
passed_other-returns-in_ok-after_word-in-110 t c =
    word_passed null c.args.text.now c.in_ok-first.rest.now c.in_ok-after_word-in-110.field-0.now c.in_ok-first.first.now c.args.depth tt (omega arith) c.in_ok-first.ensures.cases.0
    (ap (λ (b : ℕ). b ∷ c.in_ok-first.rest.now) c.in-110.is ∙ ap (λ (s : List ℕ). 110 ∷ s) c.in_ok-after_word-in-110.ensures)

pub passed_other-returns-in_ok-passed_number-in_default : goal.passed_other-returns-in_ok-passed_number-in_default
passed_other-returns-in_ok-passed_number-in_default t c =
    let p = c.in_ok-passed_number-in_default.ensures in
    record { value = number (unsigned p.0); kept = p.1; shallow = omega arith; is = p.2 }
