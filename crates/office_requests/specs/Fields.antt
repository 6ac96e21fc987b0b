-- The fields of a JSON body: their values, or the refusal that names the field. Members with other names are ignored.
use Rattle.std.specs.Prelude.{ℕ, Bool, is_some, List, Option, Some, None, option_and_then, Result, Ok, Err, if◌then◌else◌, ⊤}
use Rattle.serde_json.specs.Data.{Data}
use Rattle.serde_json.specs.Find.{get, as_bool, as_number, as_str, as_u64}
use Rattle.office_values.specs.Refusals.{field_name}
use Rattle.office_values.specs.declared.refusal.BadPart.TheVariants as parts
use Rattle.office_values.specs.declared.refusal.Field.{Field}
use Rattle.office_values.specs.declared.refusal.Refusal.{Refusal}
use Rattle.office_values.specs.declared.refusal.Refusal.TheVariants.{BadBody}
use Rattle.office_requests.specs.Forms.{line_of, number_between}

-- A step, followed by the next one if it gives a value.
infixl 10 ◌>>=◌
abbrev pub ◌>>=◌ : {A B : Type 0} → Result A Refusal → (A → Result B Refusal) → Result B Refusal
Ok value >>= next = next value
Err why >>= next = Err why

-- The value that a member's text writes in this form; none if the member is missing or wrong.
unfoldable pub text_at : {A : Type 0} → (List ℕ → Option A) → List ℕ → Data → Option A
text_at form name body = option_and_then form (option_and_then as_str (get name body))

-- The truth value of a member; none if the member is missing or wrong.
unfoldable pub flag_at : List ℕ → Data → Option Bool
flag_at name body = option_and_then as_bool (get name body)

-- The number of a member, from `low` to `high` and written without sign, point and exponent; none if the member is missing or wrong.
unfoldable pub number_at : ℕ → ℕ → List ℕ → Data → Option ℕ
number_at low high name body = option_and_then (number_between low high) (option_and_then as_u64 (option_and_then as_number (get name body)))

-- The value, or the refusal that names the field.
unfoldable pub field_or_refusal : {A : Type 0} → Field → Option A → Result A Refusal
field_or_refusal field (Some value) = Ok value
field_or_refusal field None = Err (BadBody (parts.Field field))

-- The body has the field, right or wrong.
abbrev pub has : Field → Data → Bool
has field body = is_some (get (field_name field) body)

-- The value that a field's text writes in this form.
abbrev pub text_in : {A : Type 0} → (List ℕ → Option A) → Field → Data → Result A Refusal
text_in form field body = field_or_refusal field (text_at form (field_name field) body)

-- The line of text of a field.
abbrev pub text_line_in : Field → Data → Result (List ℕ) Refusal
text_line_in field body = text_in line_of field body

-- The truth value of a field.
abbrev pub flag_in : Field → Data → Result Bool Refusal
flag_in field body = field_or_refusal field (flag_at (field_name field) body)

-- The number of a field, from `low` to `high`.
abbrev pub number_in : ℕ → ℕ → Field → Data → Result ℕ Refusal
number_in low high field body = field_or_refusal field (number_at low high (field_name field) body)

-- The number of a field, from `low` to `high`; none if the field is missing.
unfoldable pub perhaps_number_in : ℕ → ℕ → Field → Data → Result (Option ℕ) Refusal
perhaps_number_in low high field body = if has field body then (number_in low high field body >>= λ number. Ok (Some number)) else Ok None

-- A field that may not be given is refused.
unfoldable pub absent_in : Field → Data → Result ⊤ Refusal
absent_in field body = if has field body then Err (BadBody (parts.Field field)) else Ok tt
