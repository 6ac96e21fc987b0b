use Rattle.office_wire.proofs.Names.{◌≡◌, take, true, min, list_all, is_ascii_digit, digits_value}
use Rattle.office_wire.proofs.framing.capped_number.Given as goal

abbrev pub invariant-digits : goal.invariant-digits
invariant-digits l = record {
  all : list_all is_ascii_digit (take l.digit-index l.text) ≡ true;
  value : l.number ≡ min 65537 (digits_value 10 (take l.digit-index l.text));
}
