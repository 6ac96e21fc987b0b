-- The rule of a modification: a sealed tender is replaced by another one, with the same security (Model Law, article 41).
use Rattle.std.specs.Prelude.{ℕ, ◌+◌, Bool, false, not, ◌&&◌, List, [], ◌∷◌, None, is_some, length}
use Rattle.office_commands.specs.declared.command.Caller.{Caller}
use Rattle.office_commands.specs.Callers.{is_by}
use Rattle.office_values.specs.declared.refusal.Thing.TheVariants as things
use Rattle.office_values.specs.declared.refusal.Refusal.{Refusal}
use Rattle.office_values.specs.declared.refusal.Refusal.TheVariants.{NoSuch, NotYourTender, DeadlinePassed, NotSealed, LimitReached}
use Rattle.office_base.specs.Rows.{holds_of}
use Rattle.office_base.specs.Transitions.{receipt_clock, has_all_receipts, is_past_deadline, puts_if}
use Rattle.office_base.specs.States.{is_sealed}
use Rattle.office_base.specs.declared.records.EnvelopeState.TheVariants as envelope_states
use Rattle.office_base.specs.declared.records.EnvelopeRow.{EnvelopeRow}
use Rattle.office_base.specs.declared.records.ClockRow.{ClockRow}
use Rattle.office_base.specs.declared.puts.Put.TheVariants as puts
use Rattle.office_base.specs.declared.puts.Put.{Put}
use Rattle.office_base.specs.Tables.{Tables, envelope_at}
use Rattle.office_base.specs.Parents.{notice_of_envelope}
use Rattle.tender_core.specs.declared.modify.ModifyRows.{ModifyRows}

-- whether a tender belongs to another tenderer than the caller
abbrev pub is_anothers : Caller → EnvelopeRow → Bool
is_anothers caller e = not (is_by caller e.tenderer)

abbrev pub isnt_sealed : EnvelopeRow → Bool
isnt_sealed e = not (is_sealed e.state)

-- the tender, withdrawn
abbrev pub withdrawn : EnvelopeRow → EnvelopeRow
withdrawn e = record e { state = envelope_states.Withdrawn }

-- the row of the new tender, which has the tenderer, the lot and the security of the old one
abbrev pub replacing : (List ℕ → List ℕ) → ClockRow → ℕ → EnvelopeRow → List ℕ → EnvelopeRow
replacing digest clock t e bytes = record {
  receipt = clock.receipts + 1;
  notice = e.notice;
  lot = e.lot;
  tenderer = e.tenderer;
  moment = t;
  length = length bytes;
  digest = digest bytes;
  security = e.security;
  state = envelope_states.Sealed;
  reading = None;
  responsive = None;
  quality = None;
  failed = false;
}

-- the rows that a modification reads
abbrev pub modify_rows : Tables → ℕ → ModifyRows
modify_rows s receipt = record { envelope = envelope_at receipt s; notice = notice_of_envelope (envelope_at receipt s) s; clock = s.clock }

-- whether the tender exists, but its notice is missing
abbrev pub modify_lacks : ModifyRows → Bool
modify_lacks rows = is_some rows.envelope && not (is_some rows.notice)

-- the conditions of its refusals, in order
abbrev pub modify_tests : ModifyRows → ℕ → Caller → List (Bool × Refusal)
modify_tests rows t caller =
    (not (is_some rows.envelope), NoSuch things.Tender)
    ∷ (holds_of (is_anothers caller) rows.envelope, NotYourTender)
    ∷ (holds_of (is_past_deadline t) rows.notice, DeadlinePassed)
    ∷ (holds_of isnt_sealed rows.envelope, NotSealed)
    ∷ (has_all_receipts rows.clock, LimitReached)
    ∷ []

-- its changes: the old tender is withdrawn and its bytes are dropped, the new tender and its bytes are stored, and the clock counts the new receipt
abbrev pub modify_puts : (List ℕ → List ℕ) → ModifyRows → ℕ → List ℕ → List Put
modify_puts digest rows t bytes =
    puts_if (λ (e : EnvelopeRow).
    puts.Envelope (withdrawn e)
    ∷ puts.DropSeal e.receipt
    ∷ puts.Envelope (replacing digest rows.clock t e bytes)
    ∷ puts.Seal (record { receipt = rows.clock.receipts + 1; bytes = bytes })
    ∷ receipt_clock rows.clock t
    ∷ []
    ) rows.envelope
