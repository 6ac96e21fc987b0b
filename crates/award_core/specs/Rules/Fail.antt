-- The rule by which a winner who doesn't sign is passed over: the award fails, and the tender security is forfeited (Model Law, article 22).
use Rattle.std.specs.Prelude.{ℕ, ◌+◌, Bool, not, ◌&&◌, ◌||◌, List, [], ◌∷◌, ◌++◌, Option, is_some, nat_lt}
use Rattle.office_base.specs.Limits.{days}
use Rattle.office_values.specs.declared.refusal.Thing.TheVariants as things
use Rattle.office_values.specs.declared.refusal.Refusal.{Refusal}
use Rattle.office_values.specs.declared.refusal.Refusal.TheVariants.{NoSuch, AlreadyDecided, Expired, Standstill, LimitReached}
use Rattle.office_base.specs.Rows.{holds_of}
use Rattle.office_base.specs.Transitions.{clock_put, with_next_release, has_all_releases, is_expired, lacks_security, passed_over, security_settled, put_if, puts_if}
use Rattle.office_base.specs.States.{is_active}
use Rattle.office_base.specs.declared.records.LotState.TheVariants as lot_states
use Rattle.office_base.specs.declared.records.AwardState.TheVariants as award_states
use Rattle.office_base.specs.declared.records.SecurityState.TheVariants.{Forfeited}
use Rattle.office_base.specs.declared.records.NoticeRow.{NoticeRow}
use Rattle.office_base.specs.declared.records.LotRow.{LotRow}
use Rattle.office_base.specs.declared.records.EnvelopeRow.{EnvelopeRow}
use Rattle.office_base.specs.declared.records.AwardRow.{AwardRow}
use Rattle.office_base.specs.declared.puts.Put.TheVariants as puts
use Rattle.office_base.specs.declared.puts.Put.{Put}
use Rattle.office_base.specs.Tables.{Tables, award_at}
use Rattle.office_base.specs.Parents.{notice_of_award, lot_of_award, envelope_of_award, security_of_envelope}
use Rattle.award_core.specs.declared.fail.FailRows.{FailRows}

abbrev pub isnt_active : AwardRow → Bool
isnt_active a = not (is_active a.state)

-- whether the standstill after an award hasn't ended yet
abbrev pub stands_still : ℕ → NoticeRow → AwardRow → Bool
stands_still t n a = nat_lt t (a.moment + days n.standstill)

-- the refusals that this rule and that of signing share: the award is decided, the validity has ended, the standstill hasn't, or no release is left
abbrev pub standing_tests : ℕ → Option AwardRow → Option NoticeRow → List (Bool × Refusal)
standing_tests t award notice =
    (holds_of isnt_active award, AlreadyDecided)
    ∷ (holds_of (is_expired t) notice, Expired)
    ∷ (holds_of (λ (a : AwardRow). holds_of (λ (n : NoticeRow). stands_still t n a) notice) award, Standstill)
    ∷ (has_all_releases notice, LimitReached)
    ∷ []

-- the award, failed
abbrev pub failed_award : AwardRow → AwardRow
failed_award a = record a { state = award_states.Failed }

-- the lot, undecided again; the amount that it has reserved stays reserved
abbrev pub undecided_again : LotRow → LotRow
undecided_again l = record l { state = lot_states.Undecided }

-- the rows that the failing of an award reads
abbrev pub fail_rows : Tables → ℕ → FailRows
fail_rows s award = record {
  award = award_at award s;
  notice = notice_of_award (award_at award s) s;
  lot = lot_of_award (award_at award s) s;
  envelope = envelope_of_award (award_at award s) s;
  security = security_of_envelope (envelope_of_award (award_at award s) s) s;
  clock = s.clock;
}

-- whether the award exists, but its notice, its lot, its tender or the security that the tender names is missing
abbrev pub fail_lacks : FailRows → Bool
fail_lacks rows =
    is_some rows.award
    && (not (is_some rows.notice) || not (is_some rows.lot) || not (is_some rows.envelope)
    || holds_of (λ (e : EnvelopeRow). lacks_security e rows.security) rows.envelope)

-- the conditions of its refusals, in order
abbrev pub fail_tests : FailRows → ℕ → List (Bool × Refusal)
fail_tests rows t = (not (is_some rows.award), NoSuch things.Award) ∷ standing_tests t rows.award rows.notice

-- its changes: the award, its lot, its notice, the clock, its tender, and the security of the tender
abbrev pub fail_puts : FailRows → ℕ → List Put
fail_puts rows t =
    puts_if (λ (a : AwardRow). puts_if (λ (n : NoticeRow). puts_if (λ (l : LotRow).
    puts.Award (failed_award a)
    ∷ puts.Lot (undecided_again l)
    ∷ puts.Notice (with_next_release n)
    ∷ clock_put rows.clock t
    ∷ put_if (λ e. puts.Envelope (passed_over e)) rows.envelope
    ++ put_if (security_settled Forfeited) rows.security
    ) rows.lot) rows.notice) rows.award
