use Rattle.office_wire.proofs.Names.{◌≡◌, ℕ, List, length, Option, Some, None, sym, ap, arith, true, ◌∙◌, is_some, option_map, option_to_list, str_eq_ignore_ascii_case, header_bytes, span_bytes, Span}
use Rattle.office_wire.proofs.FieldLemmas.{values_more}
use Rattle.office_wire.proofs.fields.find_value.Goals as goal

one_found : (bytes : List ℕ) (found : Option Span) → is_some found ≡ true → length (option_to_list (option_map (span_bytes bytes) found)) ≡ 1
one_found bytes None e = cc e
one_found bytes (Some s) e = omega arith

pub returns-then-is_some : goal.returns-then-is_some
returns-then-is_some c =
    let same = ap (λ (t : List ℕ). str_eq_ignore_ascii_case t c.args.name.now) (sym c.of.ensures) ∙ sym c.if-is_same_name.ensures in
    let more = values_more c.args.name.now (header_bytes c.args.bytes.now) c.args.fields.now c.fields.field-index _ c.fields-test.true same in
    let tells = ap length c.fields.invariant.tells in
    let one = one_found c.args.bytes.now c.fields.found (sym c.if-is_some.ensures) in
    omega (arith, more, tells, one)
