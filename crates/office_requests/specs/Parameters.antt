-- The query string of a target: the security that is named with a tender, and the place where a page of a list begins.
use Rattle.std.specs.Prelude.{ℕ, Bool, true, false, ◌&&◌, nat_eq, List, [], ◌∷◌, codes, if◌then◌else◌, Option, Some, None, Result, Ok}
use Rattle.std.specs.Str.{is_utf8}
use Rattle.std.specs.Str.Lossy.{utf8_lossy}
use Rattle.std.specs.Cmp.Lexicographic.{pointwise}
use Rattle.form_urlencoded.specs.Form as form
use Rattle.office_values.specs.declared.refusal.Field.TheVariants as fields
use Rattle.office_values.specs.declared.refusal.Refusal.{Refusal}
use Rattle.office_commands.specs.declared.tender.NamedSecurity.{NamedSecurity}
use Rattle.office_requests.specs.Forms.{identifier_of, amount_of}
use Rattle.office_requests.specs.Fields.{◌>>=◌, field_or_refusal}
use Rattle.office_requests.specs.Paths.{behind}
use Rattle.office_requests.specs.declared.parameters.Given.{Given}
use Rattle.office_requests.specs.declared.parameters.Given.TheVariants.{Absent, Wrong, Right}

-- The query string of a target: the part after the first question mark (RFC 3986, section 3.4).
abbrev pub query_of : List ℕ → List ℕ
query_of target = behind 63 target

-- Bytes of a query string, decoded to a text. Bytes that aren't UTF-8 become U+FFFD.
abbrev pub decoded : List ℕ → List ℕ
decoded bytes = if is_utf8 (form.decode bytes) then form.decode bytes else utf8_lossy (form.decode bytes)

-- The parameter after one more value. A first value counts if it has the right form; a second one makes the parameter wrong.
abbrev pub with_value : {A : Type 0} → Given A → Option A → Given A
with_value Absent (Some value) = Right value
with_value Absent None = Wrong
with_value Wrong value = Wrong
with_value (Right other) value = Wrong

-- The parameter after one more pair, which counts if it has the name.
abbrev pub with_pair : {A : Type 0} → (List ℕ → Option A) → List ℕ → Given A → List ℕ × List ℕ → Given A
with_pair read name given pair = if pointwise nat_eq pair.0 name then with_value given (read pair.1) else given

-- The parameter after these pairs.
unfoldable pub given_from : {A : Type 0} → (List ℕ → Option A) → List ℕ → Given A → List (List ℕ × List ℕ) → Given A
given_from read name given [] = given
given_from read name given (pair ∷ pairs) = given_from read name (with_pair read name given (decoded pair.0, decoded pair.1)) pairs

-- The value that a query string gives for a name.
abbrev pub given_in : {A : Type 0} → (List ℕ → Option A) → List ℕ → List ℕ → Given A
given_in read name query = given_from read name Absent (form.raw_pairs query)

-- No value is given.
abbrev pub is_absent : {A : Type 0} → Given A → Bool
is_absent Absent = true
is_absent Wrong = false
is_absent (Right value) = false

-- The value, if one is given in the right form.
abbrev pub right : {A : Type 0} → Given A → Option A
right Absent = None
right Wrong = None
right (Right value) = Some value

-- A security with its amount; none if both are missing. If one is missing or wrong, it is refused.
abbrev pub security_with : Given (List ℕ) → Given ℕ → Result (Option NamedSecurity) Refusal
security_with security amount =
    if is_absent security && is_absent amount then Ok None
    else do
      reference ← field_or_refusal fields.Security (right security)
      worth ← field_or_refusal fields.Amount (right amount)
      Ok (Some (record { reference = reference; amount = worth }))

-- The security that a query string names with its amount.
unfoldable pub security_in : List ℕ → Result (Option NamedSecurity) Refusal
security_in query = security_with (given_in identifier_of (codes "security") query) (given_in amount_of (codes "amount") query)

-- The identifier after which a page of a list begins; none for the first page.
abbrev pub after_with : Given (List ℕ) → Result (Option (List ℕ)) Refusal
after_with after =
    if is_absent after then Ok None
    else do
      key ← field_or_refusal fields.After (right after)
      Ok (Some key)

-- The identifier that a query string names for the beginning of a page.
unfoldable pub after_in : List ℕ → Result (Option (List ℕ)) Refusal
after_in query = after_with (given_in identifier_of (codes "after") query)
