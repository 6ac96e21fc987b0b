-- Tests of the states of notices, lots, tenders, securities and awards.
use Rattle.std.specs.Prelude.{Bool, true, false}
use Rattle.office_base.specs.declared.records.NoticeState.{NoticeState}
use Rattle.office_base.specs.declared.records.NoticeState.TheVariants as notice_states
use Rattle.office_base.specs.declared.records.LotState.{LotState}
use Rattle.office_base.specs.declared.records.LotState.TheVariants as lot_states
use Rattle.office_base.specs.declared.records.EnvelopeState.{EnvelopeState}
use Rattle.office_base.specs.declared.records.EnvelopeState.TheVariants as envelope_states
use Rattle.office_base.specs.declared.records.SecurityState.{SecurityState}
use Rattle.office_base.specs.declared.records.SecurityState.TheVariants as security_states
use Rattle.office_base.specs.declared.records.AwardState.{AwardState}
use Rattle.office_base.specs.declared.records.AwardState.TheVariants as award_states

abbrev pub is_receiving : NoticeState → Bool
is_receiving notice_states.Receiving = true
is_receiving notice_states.Opened = false
is_receiving notice_states.Cancelled = false

abbrev pub is_opened : NoticeState → Bool
is_opened notice_states.Receiving = false
is_opened notice_states.Opened = true
is_opened notice_states.Cancelled = false

abbrev pub is_cancelled : NoticeState → Bool
is_cancelled notice_states.Receiving = false
is_cancelled notice_states.Opened = false
is_cancelled notice_states.Cancelled = true

abbrev pub is_undecided : LotState → Bool
is_undecided lot_states.Undecided = true
is_undecided lot_states.Awarded = false
is_undecided lot_states.Contracted = false
is_undecided lot_states.Unsuccessful = false
is_undecided lot_states.Cancelled = false

-- whether money is reserved for a lot: it is undecided or awarded
abbrev pub is_open : LotState → Bool
is_open lot_states.Undecided = true
is_open lot_states.Awarded = true
is_open lot_states.Contracted = false
is_open lot_states.Unsuccessful = false
is_open lot_states.Cancelled = false

abbrev pub is_sealed : EnvelopeState → Bool
is_sealed envelope_states.Sealed = true
is_sealed envelope_states.Withdrawn = false
is_sealed envelope_states.Returned = false
is_sealed envelope_states.Opened = false

-- whether a tender was opened
abbrev pub is_read : EnvelopeState → Bool
is_read envelope_states.Sealed = false
is_read envelope_states.Withdrawn = false
is_read envelope_states.Returned = false
is_read envelope_states.Opened = true

abbrev pub is_held : SecurityState → Bool
is_held security_states.Held = true
is_held security_states.Returned = false
is_held security_states.Forfeited = false

abbrev pub is_active : AwardState → Bool
is_active award_states.Active = true
is_active award_states.Failed = false
is_active award_states.Cancelled = false
is_active award_states.Signed = false
