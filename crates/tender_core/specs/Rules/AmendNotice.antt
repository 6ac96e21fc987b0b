-- The rule of an amendment: the deadline of a notice is moved to a later moment (Model Law, article 14).
use Rattle.std.specs.Prelude.{ℕ, ◌+◌, Bool, false, not, ◌||◌, List, [], ◌∷◌, is_some, nat_lt, nat_le}
use Rattle.office_base.specs.Limits.{amendment_limit}
use Rattle.office_values.specs.declared.refusal.Thing.TheVariants as things
use Rattle.office_values.specs.declared.refusal.Refusal.{Refusal}
use Rattle.office_values.specs.declared.refusal.Refusal.TheVariants.{NoSuch, DeadlinePassed, DeadlineEarlier, NotOpenForTenders, LimitReached}
use Rattle.office_base.specs.Rows.{holds_of}
use Rattle.office_base.specs.Transitions.{clock_put, has_all_releases, is_past_deadline, puts_if}
use Rattle.office_base.specs.States.{is_cancelled}
use Rattle.office_base.specs.declared.records.NoticeRow.{NoticeRow}
use Rattle.office_base.specs.declared.puts.Put.TheVariants as puts
use Rattle.office_base.specs.declared.puts.Put.{Put}
use Rattle.office_base.specs.Tables.{Tables, notice_at}
use Rattle.tender_core.specs.declared.amend_notice.AmendNoticeRows.{AmendNoticeRows}

-- whether a notice has as many amendments as it can have
abbrev pub has_all_amendments : NoticeRow → Bool
has_all_amendments n = nat_le amendment_limit n.amendments

-- the notice with the new deadline, one more amendment and one more release
abbrev pub amended : ℕ → NoticeRow → NoticeRow
amended deadline n = record n { deadline = deadline; amendments = n.amendments + 1; releases = n.releases + 1 }

-- the rows that an amendment reads: the notice and the clock
abbrev pub amend_notice_rows : Tables → List ℕ → AmendNoticeRows
amend_notice_rows s notice = record { notice = notice_at notice s; clock = s.clock }

-- no row can be missing, because the rule reads only the notice that the request names
abbrev pub amend_notice_lacks : AmendNoticeRows → Bool
amend_notice_lacks rows = false

-- the conditions of its refusals, in order
abbrev pub amend_notice_tests : AmendNoticeRows → ℕ → ℕ → List (Bool × Refusal)
amend_notice_tests rows t deadline =
    (not (is_some rows.notice), NoSuch things.Notice)
    ∷ (holds_of (is_past_deadline t) rows.notice, DeadlinePassed)
    ∷ (holds_of (λ (n : NoticeRow). nat_lt deadline n.deadline) rows.notice, DeadlineEarlier)
    ∷ (holds_of (λ (n : NoticeRow). is_cancelled n.state) rows.notice, NotOpenForTenders)
    ∷ (holds_of has_all_amendments rows.notice || has_all_releases rows.notice, LimitReached)
    ∷ []

-- its changes: the notice and the clock
abbrev pub amend_notice_puts : AmendNoticeRows → ℕ → ℕ → List Put
amend_notice_puts rows t deadline = puts_if (λ (n : NoticeRow). puts.Notice (amended deadline n) ∷ clock_put rows.clock t ∷ []) rows.notice
