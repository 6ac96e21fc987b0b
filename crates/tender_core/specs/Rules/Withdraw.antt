-- The rule of a withdrawal (Model Law, articles 17 and 41). Before the deadline the tender is withdrawn, and its security is returned. From the deadline on, if
-- the notice allows it, the tender stays in its state but can't win any more, and its security is forfeited.
use Rattle.std.specs.Prelude.{◌≡◌, ℕ, Bool, true, false, not, cond, ◌&&◌, ◌||◌, List, [], ◌∷◌, Option, is_some}
use Rattle.office_commands.specs.declared.command.Caller.{Caller}
use Rattle.office_values.specs.declared.refusal.Thing.TheVariants as things
use Rattle.office_values.specs.declared.refusal.Refusal.{Refusal}
use Rattle.office_values.specs.declared.refusal.Refusal.TheVariants.{NoSuch, NotYourTender, DeadlinePassed, NotSealed, AlreadyDecided, Expired}
use Rattle.office_base.specs.Rows.{holds_of}
use Rattle.office_base.specs.States.{is_sealed, is_read, is_undecided}
use Rattle.office_base.specs.Transitions.{clock_put, is_past_deadline, is_expired, is_late, lacks_security, passed_over, security_settled, put_if, puts_if}
use Rattle.tender_core.specs.Rules.Modify.{is_anothers, isnt_sealed, withdrawn}
use Rattle.office_base.specs.declared.records.SecurityState.TheVariants.{Returned, Forfeited}
use Rattle.office_base.specs.declared.records.LotRow.{LotRow}
use Rattle.office_base.specs.declared.records.EnvelopeRow.{EnvelopeRow}
use Rattle.office_base.specs.declared.records.SecurityRow.{SecurityRow}
use Rattle.office_base.specs.declared.records.ClockRow.{ClockRow}
use Rattle.office_base.specs.declared.puts.Put.TheVariants as puts
use Rattle.office_base.specs.declared.puts.Put.{Put}
use Rattle.office_base.specs.Tables.{Tables, envelope_at}
use Rattle.office_base.specs.Parents.{notice_of_envelope, lot_of_envelope, security_of_envelope, late_of_envelope}
use Rattle.tender_core.specs.declared.withdraw.WithdrawRows.{WithdrawRows}

-- whether the state of a tender forbids its withdrawal: only a sealed tender can be withdrawn, or from the deadline on also an opened one
abbrev pub cant_be_taken_back : Bool → EnvelopeRow → Bool
cant_be_taken_back late e = cond late (not (is_sealed e.state) && not (is_read e.state)) (isnt_sealed e)

-- whether the tender can't win any more, or its lot is no longer undecided
abbrev pub is_decided : Option EnvelopeRow → Option LotRow → Bool
is_decided envelope lot = holds_of (λ (e : EnvelopeRow). e.failed) envelope || holds_of (λ (l : LotRow). not (is_undecided l.state)) lot

-- the changes before the deadline, and those from the deadline on (`true`); the security is the one that the tender names
abbrev pub taken_back_puts : ClockRow → ℕ → EnvelopeRow → Option SecurityRow → Bool → List Put
taken_back_puts clock t e security false =
    puts.Envelope (withdrawn e) ∷ puts.DropSeal e.receipt ∷ clock_put clock t ∷ put_if (security_settled Returned) security
taken_back_puts clock t e security true = puts.Envelope (passed_over e) ∷ clock_put clock t ∷ put_if (security_settled Forfeited) security

-- the rows that a withdrawal reads
abbrev pub withdraw_rows : Tables → ℕ → WithdrawRows
withdraw_rows s receipt = record {
  envelope = envelope_at receipt s;
  notice = notice_of_envelope (envelope_at receipt s) s;
  lot = lot_of_envelope (envelope_at receipt s) s;
  late = late_of_envelope (envelope_at receipt s) s;
  security = security_of_envelope (envelope_at receipt s) s;
  clock = s.clock;
}

-- whether the tender exists, but its notice, its lot or the security that it names is missing
abbrev pub withdraw_lacks : WithdrawRows → Bool
withdraw_lacks rows =
    holds_of (λ (e : EnvelopeRow). not (is_some rows.notice) || not (is_some rows.lot) || lacks_security e rows.security) rows.envelope

-- the conditions of its refusals, in order
abbrev pub withdraw_tests : WithdrawRows → ℕ → Caller → List (Bool × Refusal)
withdraw_tests rows t caller =
    (not (is_some rows.envelope), NoSuch things.Tender)
    ∷ (holds_of (is_anothers caller) rows.envelope, NotYourTender)
    ∷ (not (is_some rows.late) && holds_of (is_past_deadline t) rows.notice, DeadlinePassed)
    ∷ (holds_of (cant_be_taken_back (is_late rows.late t rows.notice)) rows.envelope, NotSealed)
    ∷ (is_late rows.late t rows.notice && is_decided rows.envelope rows.lot, AlreadyDecided)
    ∷ (is_late rows.late t rows.notice && holds_of (is_expired t) rows.notice, Expired)
    ∷ []

-- its changes: the tender, its bytes before the deadline, the clock and the security
abbrev pub withdraw_puts : WithdrawRows → ℕ → List Put
withdraw_puts rows t =
    puts_if (λ (e : EnvelopeRow). taken_back_puts rows.clock t e rows.security (is_late rows.late t rows.notice)) rows.envelope

-- Why a withdrawal of a tender that exists has no changes: a row is missing.
abbrev pub CantWithdraw : WithdrawRows → Type 0
CantWithdraw rows = is_some rows.envelope ≡ true → withdraw_lacks rows ≡ true
