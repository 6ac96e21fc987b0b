-- The office's reading of a file before somebody submits it, as `read-tender` and `read-budget` print it.
use Rattle.std.specs.Prelude.{◌≡◌, ◌⊎◌, ℕ, Bool, true, false, nat_lt, if◌then◌else◌, List, [], ◌∷◌, length, map, codes, Result, Ok, Err}
use Rattle.std.specs.Io.KnownBytes.{Appends}
use Rattle.sha2.specs.Sha256.{sha256}
use Rattle.office_values.specs.declared.refusal.BadPart.TheVariants.{Row}
use Rattle.office_values.specs.declared.refusal.Refusal.{Refusal}
use Rattle.office_values.specs.declared.refusal.Refusal.TheVariants.{BadBody, TooLong, Unavailable}
use Rattle.office_commands.specs.declared.budget.BudgetKind.{BudgetKind}
use Rattle.office_commands.specs.declared.budget.BudgetKind.TheVariants as kinds
use Rattle.office_commands.specs.declared.budget.BudgetRow.{BudgetRow}
use Rattle.office_commands.specs.declared.item.Item.{Item}
use Rattle.office_base.specs.declared.reading.Reading.{Reading}
use Rattle.office_base.specs.declared.reading.Reading.TheVariants as readings
use Rattle.tender_papers.specs.Budget.{budget_of}
use Rattle.tender_papers.specs.Files.{csv_records}
use Rattle.tender_papers.specs.Tender.{reading_of}
use Rattle.office_wire.specs.Sending.{AppendsPart, WriterView}
use Rattle.office_requests.specs.Bodies.{object_in_body, sealed_in}
use Rattle.office_requests.specs.Fields.{◌>>=◌}
use Rattle.office_requests.specs.Publications.{items_of}
use Rattle.office_plans.specs.Json.{Member, digest_entry, number_entry, object_text, text_entry, with_objects}
use Rattle.office_http.specs.Response.{refusal_body}
use Rattle.procure_config.specs.Faults.{no_memory}
use Rattle.procure_config.specs.declared.fault.ProgramFault.{ProgramFault}
use Rattle.procure_config.specs.declared.fault.ProgramFault.TheVariants as fault
use Rattle.procure_config.specs.declared.fault.ProgramFault.TheVariants.{Refused}

-- The greatest length of a request's body, in bytes.
abbrev pub body_limit : ℕ
body_limit = 65536

-- The answer about a file: the text that is printed, and whether the office can use the file.
abbrev pub Shown : Type 0
Shown = List ℕ × Bool

-- A file that the office refuses as the body of a request: the body of its answer.
abbrev pub as_refused : Refusal → Shown
as_refused why = (refusal_body why, false)

-- The word for the kind of a row of a budget file, and the members with which the row is shown.
abbrev pub budget_kind_word : BudgetKind → List ℕ
budget_kind_word kinds.Add = codes "add"
budget_kind_word kinds.Cut = codes "cut"

abbrev pub budget_row_entries : BudgetRow → List Member
budget_row_entries r =
    number_entry (codes "amount") r.amount ∷ text_entry (codes "kind") (budget_kind_word r.kind) ∷ text_entry (codes "line") r.line
    ∷ text_entry (codes "title") r.title ∷ []

-- Budget rows in their order, or the refusal that names the first faulty record.
abbrev pub rows_shown : Result (List BudgetRow) ℕ → Shown
rows_shown (Ok rows) = (object_text (with_objects [] (codes "rows") (map budget_row_entries rows) []), true)
rows_shown (Err number) = as_refused (BadBody (Row number))

-- The office's reading of a budget file.
abbrev pub budget_shown : List ℕ → Shown
budget_shown file = if nat_lt body_limit (length file) then as_refused TooLong else rows_shown (budget_of (csv_records file))

-- The members with which the reading of a tender is shown: the SHA-256 of its file, the word of the reading, and its figures if it has a price.
abbrev pub reading_entries : List ℕ → Reading → List Member
reading_entries digest (readings.Priced stated corrected corrections) =
    number_entry (codes "corrected") corrected ∷ number_entry (codes "corrections") corrections ∷ digest_entry digest
    ∷ text_entry (codes "reading") (codes "priced") ∷ number_entry (codes "stated") stated ∷ []
reading_entries digest readings.Nonconforming = digest_entry digest ∷ text_entry (codes "reading") (codes "nonconforming") ∷ []
reading_entries digest readings.Unreadable = digest_entry digest ∷ text_entry (codes "reading") (codes "unreadable") ∷ []

-- Whether a tender has a price.
abbrev pub is_priced : Reading → Bool
is_priced (readings.Priced stated corrected corrections) = true
is_priced readings.Nonconforming = false
is_priced readings.Unreadable = false

-- The reading of a tender's bytes for a lot with these items, or the refusal of the bytes.
abbrev pub sealed_shown : List Item → Result (List ℕ) Refusal → Shown
sealed_shown items (Ok bytes) =
    let reading = reading_of items (csv_records bytes) in (object_text (reading_entries (sha256 bytes) reading), is_priced reading)
sealed_shown items (Err why) = as_refused why

-- The office's reading of a tender's file for a lot with these items.
abbrev pub tender_shown : List Item → List ℕ → Shown
tender_shown items file = if nat_lt body_limit (length file) then as_refused TooLong else sealed_shown items (sealed_in file)

-- The items in a file that has a lot as in the body of a notice's publication: a JSON object whose member `items` lists them.
abbrev pub items_in : List ℕ → Result (List Item) Refusal
items_in text = object_in_body text >>= items_of

-- The text of a file was printed. The result is `Input` if the office can't use the file. If the output failed, a beginning of the text was printed. If memory
-- was too small, nothing was.
abbrev pub PrintsShown : Shown → WriterView → WriterView → Result (Unit {0}) ProgramFault → Type 0
PrintsShown shown old new (Ok done) = (shown.1 ≡ true) × Appends old.contents new.contents shown.0 × (new.is_flushed ≡ true)
PrintsShown shown old new (Err fault.Input) = (shown.1 ≡ false) × Appends old.contents new.contents shown.0 × (new.is_flushed ≡ true)
PrintsShown shown old new (Err fault.Output) = AppendsPart old.contents new.contents shown.0 × (new.has_failed ≡ true)
PrintsShown shown old new (Err (Refused why)) = (why ≡ Unavailable) × (new ≡ old)
PrintsShown shown old new (Err _) = ⊥

-- The reading of a tender's file for these items was printed. If there are no items, nothing was printed, and the result says why; or memory was too small.
abbrev pub PrintsTender : Result (List Item) Refusal → List ℕ → WriterView → WriterView → Result (Unit {0}) ProgramFault → Type 0
PrintsTender (Ok items) file old new result = PrintsShown (tender_shown items file) old new result
PrintsTender (Err why) file old new result = (new ≡ old) × ((result ≡ Err (Refused why)) ⊎ (result ≡ Err no_memory))
