-- The bodies of requests, as commands. The fields are read in their order, and the first that is missing or wrong is named.
use Rattle.std.specs.Prelude.{ℕ, ◌^◌, Bool, false, ◌&&◌, ◌||◌, not, nat_eq, List, [], ◌∷◌, length, if◌then◌else◌, Option, Some, None, is_some, Result, Ok, Err}
use Rattle.std.specs.Option.{option_map_or}
use Rattle.std.specs.Str.{is_utf8}
use Rattle.json.specs.Word.{is_space}
use Rattle.serde_json.specs.Data.{Data}
use Rattle.serde_json.specs.Find.{as_object}
use Rattle.serde_json.specs.Read.{read}
use Rattle.office_values.specs.declared.refusal.BadPart.TheVariants.{Body, Row}
use Rattle.office_values.specs.declared.refusal.Field.TheVariants as fields
use Rattle.office_values.specs.declared.refusal.Refusal.{Refusal}
use Rattle.office_values.specs.declared.refusal.Refusal.TheVariants.{BadBody}
use Rattle.office_commands.specs.declared.budget.BudgetRow.{BudgetRow}
use Rattle.office_commands.specs.declared.commands.Command.{Command}
use Rattle.office_commands.specs.declared.commands.Command.TheVariants as commands
use Rattle.office_commands.specs.declared.tender.NamedSecurity.{NamedSecurity}
use Rattle.office_requests.specs.Forms.{identifier_of, digest_of, change_of, ending_of, is_between}
use Rattle.office_requests.specs.Moments.{moment_of}
use Rattle.office_requests.specs.Fields.{◌>>=◌, has, text_in, text_line_in, flag_in, number_in, perhaps_number_in}

-- The value, if it is an object.
abbrev pub object_if : Data → Result Data Refusal
object_if value = if is_some (as_object value) then Ok value else Err (BadBody Body)

-- The JSON object in a body. A body that isn't UTF-8 has none.
unfoldable pub object_in_body : List ℕ → Result Data Refusal
object_in_body body = option_map_or object_if (if is_utf8 body then read body else None) (Err (BadBody Body))

-- The body begins as an object: its first byte that isn't a space, a tab or the end of a line is `{`.
abbrev pub begins_object : List ℕ → Bool
begins_object [] = false
begins_object (b ∷ bs) = nat_eq b 123 || (is_space b && begins_object bs)

-- The import of a budget file's rows, or the refusal that names its first faulty record.
abbrev pub import_of : List ℕ → Result (List BudgetRow) ℕ → Result Command Refusal
import_of batch (Ok rows) = Ok (commands.Import batch rows)
import_of batch (Err number) = Err (BadBody (Row number))

-- The registration of this tenderer.
unfoldable pub registration_in : List ℕ → Data → Result Command Refusal
registration_in tenderer body = do
  name ← text_line_in fields.Name body
  address ← text_line_in fields.Address body
  key ← text_in digest_of fields.Key body
  Ok (commands.Register tenderer name address key)

-- The performance security with its amount; none if both are missing. If one is missing, it is refused.
unfoldable pub named_in : Data → Result (Option NamedSecurity) Refusal
named_in body =
    if not (has fields.Security body) && not (has fields.Amount body) then Ok None
    else do
      reference ← text_in identifier_of fields.Security body
      amount ← number_in 1 (10 ^ 12) fields.Amount body
      Ok (Some (record { reference = reference; amount = amount }))

-- The performance security that the body of a signing names; none if the body is empty.
unfoldable pub performance_of : List ℕ → Result (Option NamedSecurity) Refusal
performance_of body = if nat_eq (length body) 0 then Ok None else object_in_body body >>= named_in

-- The amendment of this notice.
unfoldable pub notice_amendment_in : List ℕ → Data → Result Command Refusal
notice_amendment_in notice body = do
  deadline ← text_in moment_of fields.Deadline body
  rationale ← text_line_in fields.Rationale body
  Ok (commands.AmendNotice notice deadline rationale)

-- The cancellation of this notice.
unfoldable pub cancellation_in : List ℕ → Data → Result Command Refusal
cancellation_in notice body = do
  rationale ← text_line_in fields.Rationale body
  Ok (commands.Cancel notice rationale)

-- The examination of the tender with this receipt.
unfoldable pub examination_in : ℕ → Data → Result Command Refusal
examination_in receipt body = do
  responsive ← flag_in fields.Responsive body
  quality ← perhaps_number_in 0 100 fields.Quality body
  Ok (commands.Examine receipt responsive quality)

-- The amendment of this contract.
unfoldable pub contract_amendment_in : ℕ → Data → Result Command Refusal
contract_amendment_in contract body = do
  entry ← text_in identifier_of fields.Id body
  kind ← text_in change_of fields.Kind body
  amount ← number_in 1 (10 ^ 12) fields.Amount body
  rationale ← text_line_in fields.Rationale body
  Ok (commands.AmendContract contract entry kind amount rationale)

-- The payment under this contract.
unfoldable pub payment_in : ℕ → Data → Result Command Refusal
payment_in contract body = do
  entry ← text_in identifier_of fields.Id body
  amount ← number_in 1 (10 ^ 12) fields.Amount body
  Ok (commands.Pay contract entry amount)

-- The end of this contract.
unfoldable pub ending_in : ℕ → Data → Result Command Refusal
ending_in contract body = do
  how ← text_in ending_of fields.How body
  Ok (commands.End contract how)

-- The sealed bytes in a body: 1 to 32,768 of them.
unfoldable pub sealed_in : List ℕ → Result (List ℕ) Refusal
sealed_in body = if is_between 1 32768 (length body) then Ok body else Err (BadBody Body)
