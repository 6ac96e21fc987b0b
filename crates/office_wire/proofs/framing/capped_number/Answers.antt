use Rattle.office_wire.proofs.Names.{◌≡◌, ◌+◌, ◌*◌, ◌≤◌, ◌-◌, ℕ, get_or, min, arith, refl, ◌∙◌, ◌<◌, is_ascii_digit, digit_value, list_all_more, digits_value_more, digit_value_digit}
use Rattle.office_wire.proofs.framing.capped_number.Goals.{then-number-gt-MOST_BODY, else-number-gt-MOST_BODY}
use Rattle.office_wire.proofs.framing.capped_number.Goals as goal

-- after one digit more, the number is above the bound
more_capped : (now number value digit code : ℕ) → number ≡ min 65537 value → digit + 48 ≡ code
    → 65536 < number * 10 + (code - 48) → now ≡ 65537 → now ≡ min 65537 (value * 10 + digit)
more_capped now number value digit code is code_is over at = omega arith

-- after one digit more, the number isn't above the bound
more_below : (now number value digit code : ℕ) → number ≡ min 65537 value → digit + 48 ≡ code
    → number * 10 + (code - 48) ≤ 65536 → now ≡ number * 10 + (code - 48) → now ≡ min 65537 (value * 10 + digit)
more_below now number value digit code is code_is below at = omega arith

pub digits-preserved : goal.digits-preserved
digits-preserved c =
    let text = c.args.text.now in
    let i = c.digits.digit-index in
    let inv = c.digits.invariant in
    let digit = c.if-not-is_ascii_digit.ensures in
    let code : digit_value (get_or text i 0) + 48 ≡ get_or text i 0 = digit_value_digit (get_or text i 0) digit.cases in
    record {
      all = list_all_more is_ascii_digit text i 0 c.digits-test.true ∙ rw (inv.all, ← digit.value) refl;
      value = rw (digits_value_more 10 text i c.digits-test.true) (elim c.if-number-gt-MOST_BODY.branch [
        | then-number-gt-MOST_BODY w ↦ more_capped _ _ _ _ _ inv.value code w.if-number-gt-MOST_BODY.true w.number-is
        | else-number-gt-MOST_BODY w ↦ more_below _ _ _ _ _ inv.value code w.if-number-gt-MOST_BODY.false w.number-is
      ]);
    }
