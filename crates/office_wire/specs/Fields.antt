-- The length of a body, by the fields of its head, and the look-up of a field.
use Rattle.std.specs.Prelude.{◌≡◌, ℕ, ◌≤◌, nat_lt, ◌&&◌, ◌||◌, if◌then◌else◌, List, [], ◌∷◌, length, map, codes, Option, Some, None, Result, Ok, Err}
use Rattle.std.specs.List.{filter, list_all}
use Rattle.std.specs.Char.{is_ascii_digit}
use Rattle.std.specs.Str.{str_eq_ignore_ascii_case}
use Rattle.std.specs.Str.Parse.{digits_value}
use Rattle.office_wire.specs.Head.{HeadView}
use Rattle.office_wire.specs.declared.fields.FieldValue.{FieldValue}
use Rattle.office_wire.specs.declared.fields.FieldValue.TheVariants as found
use Rattle.office_wire.specs.declared.fault.ReadFault.{ReadFault}
use Rattle.office_wire.specs.declared.fault.ReadFault.TheVariants as fault

-- The values of the fields with this name, in their order. The case of ASCII letters in names is ignored (RFC 9110, section 5.1).
abbrev pub values_of : List ℕ → List (List ℕ × List ℕ) → List (List ℕ)
values_of name fields = map (λ f. f.1) (filter (λ f. str_eq_ignore_ascii_case f.0 name) fields)

-- The number that one or more ASCII digits write, however many they are.
abbrev pub written_number : List ℕ → Option ℕ
written_number text = if nat_lt 0 (length text) && list_all is_ascii_digit text then Some (digits_value 10 text) else None

-- The length in the values of `Content-Length`: 0 if there is no such field, and none if there are several or if the one isn't a number.
abbrev pub length_of : List (List ℕ) → Option ℕ
length_of [] = Some 0
length_of (value ∷ []) = written_number value
length_of (value ∷ other ∷ more) = None

-- The number of bytes of a body, by the written length, the number of fields and the values of `Transfer-Encoding`; or the refusal. A faulty length is reported
-- first, then more than 64 fields or a length above 65,536, then any transfer coding.
abbrev pub body_length_of : Option ℕ → ℕ → List (List ℕ) → Result ℕ ReadFault
body_length_of None count codings = Err fault.BadHead
body_length_of (Some len) count codings =
    if nat_lt 64 count || nat_lt 65536 len then Err fault.TooLong
    else if nat_lt 0 (length codings) then Err fault.Coding
    else Ok len

-- The number of bytes of a head's body, or the refusal.
abbrev pub framing_of : HeadView → Result ℕ ReadFault
framing_of head = body_length_of (length_of (values_of (codes "content-length") head.fields)) (length head.fields) (values_of (codes "transfer-encoding") head.fields)

-- The result of a look-up: no value was found, one was found, or there are several.
abbrev pub Tells : FieldValue → List (List ℕ) → Type 0
Tells found.Absent values = values ≡ []
Tells (found.Once value) values = values ≡ value.now ∷ []
Tells found.Repeated values = 2 ≤ length values
