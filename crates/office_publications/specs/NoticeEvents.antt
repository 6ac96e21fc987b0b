-- The events of a notice up to its opening, as releases describe them.
use Rattle.std.specs.Prelude.{ℕ, Bool, ◌&&◌, List, map, filter, Option, Some, None}
use Rattle.std.specs.List.{list_any}
use Rattle.office_values.specs.Ids.{same_id}
use Rattle.office_commands.specs.declared.notice.NewNotice.{NewNotice}
use Rattle.office_base.specs.Tables.{award_key}
use Rattle.office_base.specs.declared.records.AwardRow.{AwardRow}
use Rattle.office_base.specs.declared.records.EnvelopeRow.{EnvelopeRow}
use Rattle.office_base.specs.declared.records.LotRow.{LotRow}
use Rattle.office_base.specs.declared.records.NoticeRow.{NoticeRow}
use Rattle.office_base.specs.declared.records.TendererRow.{TendererRow}
use Rattle.tender_core.specs.Rules.Cancel.{is_open_lot, is_ended_award}
use Rattle.tender_core.specs.Rules.Open.{is_sealed_envelope}
use Rattle.ocds_release.specs.TenderStatuses.{tender_status_of, state_cancelled}
use Rattle.ocds_release.specs.Tenderers.{tenderer_shown}
use Rattle.ocds_release.specs.declared.event.Event.{Event}
use Rattle.ocds_release.specs.declared.event.Event.TheVariants as events

-- A notice is published with the given content.
abbrev pub publish_event : List ℕ → NewNotice → Event
publish_event notice new = events.Publish (record { notice = notice; title = new.title; deadline = new.deadline; criteria = new.criteria; lots = new.lots })

-- The deadline of a notice; 0 if the notice doesn't exist.
abbrev pub deadline_in : Option NoticeRow → ℕ
deadline_in None = 0
deadline_in (Some n) = n.deadline

-- The deadline of a notice moves.
abbrev pub amend_notice_event : List ℕ → Option NoticeRow → ℕ → List ℕ → Event
amend_notice_event notice row deadline rationale = events.Amend (record { notice = notice; before = deadline_in row; after = deadline; rationale = rationale })

-- The tenderer has a sealed tender among these envelopes.
abbrev pub has_sealed : List EnvelopeRow → TendererRow → Bool
has_sealed envelopes tenderer = list_any (λ (e : EnvelopeRow). is_sealed_envelope e && same_id e.tenderer tenderer.tenderer) envelopes

-- The sealed tenders of a notice are opened. Each tenderer with a sealed tender is named once, in the order of their identifiers.
abbrev pub open_event : List ℕ → List EnvelopeRow → List TendererRow → Event
open_event notice envelopes tenderers = events.Open (record { notice = notice; tenderers = map tenderer_shown (filter (has_sealed envelopes) tenderers) })

-- The identifier of a lot.
abbrev pub lot_name : LotRow → List ℕ
lot_name l = l.lot

-- The open lots of a notice are cancelled, and the active awards of these lots.
abbrev pub cancel_event : List ℕ → List LotRow → List AwardRow → List ℕ → Event
cancel_event notice lots awards rationale = events.Cancel (record {
  notice = notice;
  lots = map lot_name (filter is_open_lot lots);
  awards = map award_key (filter (is_ended_award lots) awards);
  rationale = rationale;
  status = tender_status_of (map state_cancelled lots);
})
