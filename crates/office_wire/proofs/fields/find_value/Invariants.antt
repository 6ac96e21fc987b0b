use Rattle.office_wire.proofs.Names.{◌≡◌, length, take, map, IfSome, option_map, option_to_list, header_bytes, span_bytes, IsWithin, values_of}
use Rattle.office_wire.proofs.fields.find_value.Given as goal

abbrev pub invariant-fields : goal.invariant-fields
invariant-fields l = record {
  within : IfSome l.found (IsWithin (length l.bytes));
  tells : values_of l.name (map (header_bytes l.bytes) (take l.field-index l.fields)) ≡ option_to_list (option_map (span_bytes l.bytes) l.found);
}
