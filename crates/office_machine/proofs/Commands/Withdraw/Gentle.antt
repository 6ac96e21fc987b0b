-- Over any tables, a withdrawal makes no missing parent of a row, and replaces no row of another owner.
use Rattle.office_machine.proofs.Names.{max, ℕ, Bool, true, false, ◌≡◌, Option, Some, None, refl, security_of_envelope, Tables, envelope_at, passed_over, security_settled, is_late, ClockRow, EnvelopeRow, Returned, Forfeited, withdrawn, withdraw_puts, taken_back_puts, withdraw_rows, WithdrawRows, Withdraw}
use Rattle.office_machine.proofs.NoParents.Gentle.{AreGentle}
use Rattle.office_machine.proofs.NoParents.Gentle.{PutsGently}
use Rattle.office_machine.proofs.NoParents.Kept.{envelope_kept, gentle-if, security_settles}

taken_back_by : (s : Tables) (clock : ClockRow) (t receipt : ℕ) (e : EnvelopeRow) → envelope_at receipt s ≡ Some e → (late : Bool) → AreGentle s (taken_back_puts clock t e (security_of_envelope (Some e) s) late)
taken_back_by s clock t receipt e is false =
    (envelope_kept s receipt e (withdrawn e) is refl refl refl refl refl, ((refl, tt), ((refl, tt), gentle-if s (security_settled Returned) (security_of_envelope (Some e) s) (λ r at. security_settles s Returned (Some e) r at))))
taken_back_by s clock t receipt e is true =
    (envelope_kept s receipt e (passed_over e) is refl refl refl refl refl, ((refl, tt), gentle-if s (security_settled Forfeited) (security_of_envelope (Some e) s) (λ r at. security_settles s Forfeited (Some e) r at)))

withdraw_by : (s : Tables) (rows : WithdrawRows) (t receipt : ℕ) (o : Option EnvelopeRow) → envelope_at receipt s ≡ o
    → AreGentle s (withdraw_puts (record rows { envelope = o; security = security_of_envelope o s }) t)
withdraw_by s rows t receipt None is = tt
withdraw_by s rows t receipt (Some e) is = taken_back_by s rows.clock t receipt e is (is_late rows.late t rows.notice)

pub withdraw_gently : (receipt : ℕ) → PutsGently (Withdraw receipt)
withdraw_gently receipt readings s moment caller order allowed whole =
    withdraw_by s (withdraw_rows s receipt) (max moment s.clock.moment) receipt (envelope_at receipt s) refl
