use Rattle.office_tables.proofs.Names.{arith, sym, ◌∙◌, true≢false, inl, inr}
use Rattle.office_tables.proofs.ItemReading.{no_words, no_number, other_number}
use Rattle.office_tables.proofs.items.quantity_of.Goals as goal

pub returns-in_default-clause-cause : goal.returns-in_default-clause-cause
returns-in_default-clause-cause c = no_words c.args.digits.now c.in_default.ensures.cases.0

pub returns-in_default-parse-clause-cause : goal.returns-in_default-parse-clause-cause
returns-in_default-parse-clause-cause c = no_number c.args.digits.now c.in-Ok.text.now c.in-Ok.ensures.cases.0 c.in_default-parse.field-0 c.in_default-parse.ensures.value.0

pub returns-in_default-read-clause-cause : goal.returns-in_default-read-clause-cause
returns-in_default-read-clause-cause c =
    other_number c.args.digits.now c.in-Ok.text.now c.in-Ok.ensures.cases.0 c.in-Ok-parse.number c.parse.result c.in-Ok-parse.is c.parse.ensures.value.0
    (λ fits is. elim c.in_default-read.ensures.none [ inl few ↦ omega (arith, few, fits.0) | inr many ↦ omega (arith, many, fits.1) ])

pub returns-else-is_same-clause-cause : goal.returns-else-is_same-clause-cause
returns-else-is_same-clause-cause c =
    other_number c.args.digits.now c.in-Ok.text.now c.in-Ok.ensures.cases.0 c.in-Ok-parse.number c.parse.result c.in-Ok-parse.is c.parse.ensures.value.0
    (λ fits is. true≢false (sym (c.is_same.ensures.1 (c.as_bytes.ensures.value ∙ c.format.ensures.text ∙ is)) ∙ c.if-is_same.false))
