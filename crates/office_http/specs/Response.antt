-- Responses: a status line, fields, an empty line and a body (RFC 9112, sections 2 to 6). Lines end with CR LF.
use Rattle.std.specs.Prelude.{◌≡◌, ℕ, ◌≤◌, ◌==◌, if◌then◌else◌, List, [], ◌++◌, length, codes, decimal, Option, Some, None, is_some, option_map, unwrap_or, ⊤}
use Rattle.http.specs.StatusCode.{reason_phrase}
use Rattle.office_values.specs.Refusals.{number_of_refusal, status_of_refusal, name_of_refusal, subject_of_refusal, About, Named, Record, told}
use Rattle.office_values.specs.declared.refusal.What.{What}
use Rattle.office_values.specs.declared.refusal.Refusal.{Refusal}
use Rattle.office_requests.specs.declared.route.Allow.{Allow}
use Rattle.office_requests.specs.declared.route.Allow.TheVariants as allow
use Rattle.office_http.specs.declared.reply.Reply.{Reply}
use Rattle.office_http.specs.declared.reply.Reply.TheVariants as reply

-- The phrase of a status.
abbrev pub phrase_of : ℕ → List ℕ
phrase_of status = unwrap_or (reason_phrase status) []

-- The head of a response up to the length of its body: the status, the kind of content, and the length.
abbrev pub head_start : ℕ → List ℕ → ℕ → List ℕ
head_start status media size =
    codes "HTTP/1.1 " ++ decimal status ++ codes " " ++ phrase_of status
    ++ codes "\r\nContent-Type: " ++ media
    ++ codes "\r\nContent-Length: " ++ decimal size

-- A response with this status, kind of content, further fields and body.
abbrev pub response_with : ℕ → List ℕ → List ℕ → List ℕ → List ℕ
response_with status media more body = head_start status media (length body) ++ more ++ codes "\r\nConnection: close\r\n\r\n" ++ body

abbrev pub json : List ℕ
json = codes "application/json"

-- The field that names the method of the path (RFC 9110, section 10.2.1).
abbrev pub allow_field : Option Allow → List ℕ
allow_field None = []
allow_field (Some allow.Get) = codes "\r\nAllow: GET"
allow_field (Some allow.Post) = codes "\r\nAllow: POST"

-- The field that asks for a name and a key (RFC 9110, section 11.6.1).
abbrev pub challenge_field : ℕ → List ℕ
challenge_field status = if status == 401 then codes "\r\nWWW-Authenticate: Office-Key" else []

-- The member that says what a refusal is about: a name, or `row` and the number of a record.
abbrev pub what_member : Option About → List ℕ
what_member None = []
what_member (Some (Named name)) = codes ",\"what\":\"" ++ name ++ codes "\""
what_member (Some (Record number)) = codes ",\"what\":\"row " ++ decimal number ++ codes "\""

-- If this names a record, its number has at most ten digits.
abbrev pub IsShortNumber : Option What → Type 0
IsShortNumber what = (n : ℕ) → option_map told what ≡ Some (Record n) → length (decimal n) ≤ 10

-- A refusal as a JSON object.
abbrev pub refusal_body : Refusal → List ℕ
refusal_body refusal =
    codes "{\"name\":\"" ++ name_of_refusal refusal ++ codes "\",\"refusal\":" ++ decimal (number_of_refusal refusal) ++ what_member (subject_of_refusal refusal) ++ codes "}"

-- The response to each reply.
abbrev pub response_of : Reply → List ℕ
response_of (reply.Json body) = response_with 200 json [] body
response_of (reply.Text body) = response_with 200 (codes "text/plain; charset=utf-8") [] body
response_of (reply.Refused refusal method) =
    response_with (status_of_refusal refusal) json (allow_field method ++ challenge_field (status_of_refusal refusal)) (refusal_body refusal)

-- A refusal names a method exactly if it is `WrongMethod`, number 5.
abbrev pub NamesMethod : Reply → Type 0
NamesMethod (reply.Json body) = ⊤
NamesMethod (reply.Text body) = ⊤
NamesMethod (reply.Refused refusal method) = is_some method ≡ (number_of_refusal refusal == 5)
