-- The rule of a submission: a tender comes, in time or late (Model Law, articles 17 and 40).
use Rattle.std.specs.Prelude.{ℕ, ◌+◌, Bool, false, not, cond, ◌&&◌, List, [], ◌∷◌, ◌++◌, Option, None, is_some, option_map, nat_lt, length}
use Rattle.std.specs.List.{list_any}
use Rattle.office_commands.specs.declared.command.Caller.{Caller}
use Rattle.office_commands.specs.declared.tender.NamedSecurity.{NamedSecurity}
use Rattle.office_commands.specs.Callers.{is_by, tenderer_of}
use Rattle.office_values.specs.declared.refusal.Thing.TheVariants as things
use Rattle.office_values.specs.declared.refusal.Refusal.{Refusal}
use Rattle.office_values.specs.declared.refusal.Refusal.TheVariants.{NoSuch, NotOpenForTenders, AlreadyPresented, SecurityMissing, SecurityTooSmall, SecurityNotAsked, LimitReached}
use Rattle.office_base.specs.Rows.{holds_of}
use Rattle.office_base.specs.Transitions.{receipt_clock, has_all_receipts, is_in_time, put_if}
use Rattle.office_base.specs.States.{is_cancelled, is_sealed}
use Rattle.office_base.specs.declared.records.EnvelopeState.TheVariants as envelope_states
use Rattle.office_base.specs.declared.records.SecurityState.TheVariants as security_states
use Rattle.office_base.specs.declared.records.NoticeRow.{NoticeRow}
use Rattle.office_base.specs.declared.records.LotRow.{LotRow}
use Rattle.office_base.specs.declared.records.EnvelopeRow.{EnvelopeRow}
use Rattle.office_base.specs.declared.records.SecurityRow.{SecurityRow}
use Rattle.office_base.specs.declared.records.ClockRow.{ClockRow}
use Rattle.office_base.specs.declared.puts.Put.TheVariants as puts
use Rattle.office_base.specs.declared.puts.Put.{Put}
use Rattle.office_base.specs.Tables.{Tables, notice_at, lot_at, envelopes_of_lot}
use Rattle.tender_core.specs.declared.present.PresentRows.{PresentRows}

-- whether a tender is sealed and comes from this caller
abbrev pub is_sealed_by : Caller → EnvelopeRow → Bool
is_sealed_by caller e = is_sealed e.state && is_by caller e.tenderer

-- whether a lot requires a tender security
abbrev pub asks_security : LotRow → Bool
asks_security l = nat_lt 0 l.security

-- whether a security is less than the lot requires
abbrev pub is_too_small : LotRow → NamedSecurity → Bool
is_too_small l named = nat_lt named.amount l.security

-- the row of the new tender: sealed if it is in time, and returned if it is late
abbrev pub received : (List ℕ → List ℕ) → ClockRow → ℕ → Caller → List ℕ → List ℕ → Option NamedSecurity → List ℕ → Bool → EnvelopeRow
received digest clock t caller notice lot security bytes in_time = record {
  receipt = clock.receipts + 1;
  notice = notice;
  lot = lot;
  tenderer = tenderer_of caller;
  moment = t;
  length = length bytes;
  digest = digest bytes;
  security = option_map (λ (named : NamedSecurity). clock.receipts + 1) security;
  state = cond in_time envelope_states.Sealed envelope_states.Returned;
  reading = None;
  responsive = None;
  quality = None;
  failed = false;
}

-- the row of its security: held if the tender is in time, and returned if it is late
abbrev pub security_made : ClockRow → Caller → List ℕ → List ℕ → Bool → NamedSecurity → SecurityRow
security_made clock caller notice lot in_time named = record {
  security = clock.receipts + 1;
  tenderer = tenderer_of caller;
  notice = notice;
  lot = lot;
  reference = named.reference;
  amount = named.amount;
  state = cond in_time security_states.Held security_states.Returned;
}

abbrev pub security_put : ClockRow → Caller → List ℕ → List ℕ → Bool → NamedSecurity → Put
security_put clock caller notice lot in_time named = puts.Security (security_made clock caller notice lot in_time named)

-- the change that stores the bytes, if the tender is in time
abbrev pub seal_puts : ClockRow → List ℕ → Bool → List Put
seal_puts clock bytes in_time = cond in_time (puts.Seal (record { receipt = clock.receipts + 1; bytes = bytes }) ∷ []) []

-- the changes for a tender: its row, the clock, its bytes and its security
abbrev pub received_puts : (List ℕ → List ℕ) → ClockRow → ℕ → Caller → List ℕ → List ℕ → Option NamedSecurity → List ℕ → Bool → List Put
received_puts digest clock t caller notice lot security bytes in_time =
    puts.Envelope (received digest clock t caller notice lot security bytes in_time)
    ∷ receipt_clock clock t
    ∷ seal_puts clock bytes in_time
    ++ put_if (security_put clock caller notice lot in_time) security

-- the rows that a submission reads
abbrev pub present_rows : Tables → List ℕ → List ℕ → PresentRows
present_rows s notice lot = record {
  notice = notice_at notice s;
  lot = lot_at (notice, lot) s;
  envelopes = envelopes_of_lot notice lot s;
  clock = s.clock;
}

-- no row can be missing, because the request names the notice and the lot
abbrev pub present_lacks : PresentRows → Bool
present_lacks rows = false

-- the conditions of its refusals, in order
abbrev pub present_tests : PresentRows → ℕ → Caller → Option NamedSecurity → List (Bool × Refusal)
present_tests rows t caller security =
    (not (is_some rows.notice), NoSuch things.Notice)
    ∷ (not (is_some rows.lot), NoSuch things.Lot)
    ∷ (holds_of (λ (n : NoticeRow). is_cancelled n.state) rows.notice, NotOpenForTenders)
    ∷ (holds_of (is_in_time t) rows.notice && list_any (is_sealed_by caller) rows.envelopes, AlreadyPresented)
    ∷ (holds_of (is_in_time t) rows.notice && holds_of asks_security rows.lot && not (is_some security), SecurityMissing)
    ∷ (holds_of (is_in_time t) rows.notice && holds_of (λ l. holds_of (is_too_small l) security) rows.lot, SecurityTooSmall)
    ∷ (holds_of (is_in_time t) rows.notice && holds_of (λ l. not (asks_security l)) rows.lot && is_some security, SecurityNotAsked)
    ∷ (has_all_receipts rows.clock, LimitReached)
    ∷ []

-- its changes: the tender, the clock, its bytes if it is in time, and its security if it names one
abbrev pub present_puts : (List ℕ → List ℕ) → PresentRows → ℕ → Caller → List ℕ → List ℕ → Option NamedSecurity → List ℕ → List Put
present_puts digest rows t caller notice lot security bytes =
    received_puts digest rows.clock t caller notice lot security bytes (holds_of (is_in_time t) rows.notice)
