use Rattle.office_wire.proofs.Names.{sym, ap, Err, inl, ◌∙◌}
use Rattle.office_wire.proofs.HeadLemmas.{few_fields, no_head_now}
use Rattle.office_wire.proofs.head.parse_within.Goals as goal

pub returns-in-TooManyHeaders-clause-crowded : goal.returns-in-TooManyHeaders-clause-crowded
returns-in-TooManyHeaders-clause-crowded c said =
    few_fields _ c.args.bytes.now c.requires (rw c.deref_mut.ensures.value at (c.in-Err.ensures.too_many (ap (λ e. Err e) c.in-TooManyHeaders.is)))

pub returns-else-first_line_has_ended-clause-parsed : goal.returns-else-first_line_has_ended-clause-parsed
returns-else-first_line_has_ended-clause-parsed c =
    (λ h rest r. no_head_now c.args.bytes.now (c.in-Err.ensures.invalid c.in_default.not-TooManyHeaders) h rest r, inl (sym c.first_line_has_ended.ensures ∙ c.if-first_line_has_ended.false))
