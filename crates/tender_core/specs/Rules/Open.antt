-- The rule of an opening: every sealed tender of the notice is opened and read (Model Law, article 42).
use Rattle.std.specs.Prelude.{◌≡◌, ℕ, ◌+◌, Bool, false, not, List, [], ◌∷◌, ◌++◌, map, Option, Some, None, is_some, nat_lt}
use Rattle.office_commands.specs.declared.item.Item.{Item}
use Rattle.office_base.specs.declared.reading.Reading.{Reading}
use Rattle.office_values.specs.declared.refusal.Thing.TheVariants as things
use Rattle.office_values.specs.declared.refusal.Refusal.{Refusal}
use Rattle.office_values.specs.declared.refusal.Refusal.TheVariants.{NoSuch, NotOpenForTenders, TooEarlyToOpen, AlreadyOpened, LimitReached}
use Rattle.office_base.specs.Rows.{holds_of}
use Rattle.office_base.specs.Transitions.{clock_put, has_all_releases, puts_if}
use Rattle.office_base.specs.States.{is_cancelled, is_opened, is_sealed}
use Rattle.office_base.specs.declared.records.NoticeState.TheVariants as notice_states
use Rattle.office_base.specs.declared.records.EnvelopeState.TheVariants as envelope_states
use Rattle.office_base.specs.declared.records.NoticeRow.{NoticeRow}
use Rattle.office_base.specs.declared.records.EnvelopeRow.{EnvelopeRow}
use Rattle.office_base.specs.declared.records.ClockRow.{ClockRow}
use Rattle.office_base.specs.declared.puts.Put.TheVariants as puts
use Rattle.office_base.specs.declared.puts.Put.{Put}
use Rattle.office_base.specs.Tables.{Tables, notice_at}
use Rattle.tender_core.specs.declared.opening.OpenRows.{OpenRows}
use Rattle.tender_core.specs.declared.opening.OpenedTender.{OpenedTender}

-- a sealed tender: its row, its bytes, and the items of its lot
pub record SealedTender : Type 0 where
  pub envelope : EnvelopeRow
  pub bytes : List ℕ
  pub items : List Item

abbrev pub is_sealed_envelope : EnvelopeRow → Bool
is_sealed_envelope e = is_sealed e.state

-- the row of a tender, opened, with its reading
abbrev pub opened_envelope : (List ℕ → List Item → Reading) → SealedTender → EnvelopeRow
opened_envelope read tender = record tender.envelope { state = envelope_states.Opened; reading = Some (read tender.bytes tender.items) }

abbrev pub opened_put : (List ℕ → List Item → Reading) → SealedTender → Put
opened_put read tender = puts.Envelope (opened_envelope read tender)

-- the notice, opened at this moment, with one more release
abbrev pub opened_notice : ℕ → NoticeRow → NoticeRow
opened_notice t n = record n { state = notice_states.Opened; opened = Some t; releases = n.releases + 1 }

-- a sealed tender together with its reading
abbrev pub with_reading : (List ℕ → List Item → Reading) → SealedTender → OpenedTender
with_reading read tender = record { envelope = tender.envelope; reading = read tender.bytes tender.items }

-- the row of a tender, opened, with the reading that was made before
abbrev pub read_envelope : OpenedTender → EnvelopeRow
read_envelope tender = record tender.envelope { state = envelope_states.Opened; reading = Some tender.reading }

abbrev pub read_put : OpenedTender → Put
read_put tender = puts.Envelope (read_envelope tender)

-- the changes of an opening whose tenders were read before
abbrev pub opened_with : ClockRow → ℕ → Option NoticeRow → List OpenedTender → List Put
opened_with clock t None tenders = []
opened_with clock t (Some n) tenders = map read_put tenders ++ (puts.Notice (opened_notice t n) ∷ clock_put clock t ∷ [])

-- the rows that an opening reads beside the sealed tenders: the notice and the clock
abbrev pub open_rows : Tables → List ℕ → OpenRows
open_rows s notice = record { notice = notice_at notice s; clock = s.clock }

-- no row can be missing, because the rule reads only the notice that the request names
abbrev pub open_lacks : OpenRows → Bool
open_lacks rows = false

-- the conditions of its refusals, in order
abbrev pub open_tests : OpenRows → ℕ → List (Bool × Refusal)
open_tests rows t =
    (not (is_some rows.notice), NoSuch things.Notice)
    ∷ (holds_of (λ (n : NoticeRow). is_cancelled n.state) rows.notice, NotOpenForTenders)
    ∷ (holds_of (λ (n : NoticeRow). nat_lt t n.deadline) rows.notice, TooEarlyToOpen)
    ∷ (holds_of (λ (n : NoticeRow). is_opened n.state) rows.notice, AlreadyOpened)
    ∷ (has_all_releases rows.notice, LimitReached)
    ∷ []

-- its changes: the sealed tenders, the notice and the clock
abbrev pub open_puts : (List ℕ → List Item → Reading) → OpenRows → ℕ → List SealedTender → List Put
open_puts read rows t tenders =
    puts_if (λ (n : NoticeRow). map (opened_put read) tenders ++ (puts.Notice (opened_notice t n) ∷ clock_put rows.clock t ∷ [])) rows.notice

-- reading the tenders first and then making the changes gives the changes of the rule
abbrev pub ReadingsArePut : Type 0
ReadingsArePut =
    (read : List ℕ → List Item → Reading) (rows : OpenRows) (t : ℕ) (tenders : List SealedTender)
    → open_puts read rows t tenders ≡ opened_with rows.clock t rows.notice (map (with_reading read) tenders)
