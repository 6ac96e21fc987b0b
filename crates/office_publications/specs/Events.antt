-- The event that a command is for its notice.
use Rattle.std.specs.Prelude.{Option, Some, None, option_map}
use Rattle.office_commands.specs.declared.commands.Command.{Command}
use Rattle.office_commands.specs.declared.commands.Command.TheVariants.{Publish, AmendNotice, Cancel, Open, Award, Fail, Sign, AmendContract, Pay, End}
use Rattle.office_base.specs.Tables.{Tables, notice_at, award_at, contract_at, lots_of_notice, awards_of_notice, envelopes_of_notice, envelopes_of_lot}
use Rattle.office_base.specs.declared.records.ContractRow.{ContractRow}
use Rattle.award_core.specs.Rules.Award.{winner}
use Rattle.ocds_release.specs.declared.event.Event.{Event}
use Rattle.office_publications.specs.NoticeEvents.{publish_event, amend_notice_event, open_event, cancel_event}
use Rattle.office_publications.specs.AwardEvents.{award_event, fail_event, sign_event}
use Rattle.office_publications.specs.ContractEvents.{amend_contract_event, pay_event, end_event}

-- The event of a command in the office before it. None if the command publishes nothing, or if the award or the contract that it names doesn't exist.
abbrev pub event_of : Tables → Command → Option Event
event_of s (Publish notice content) = Some (publish_event notice content)
event_of s (AmendNotice notice deadline rationale) = Some (amend_notice_event notice (notice_at notice s) deadline rationale)
event_of s (Cancel notice rationale) = Some (cancel_event notice (lots_of_notice notice s) (awards_of_notice notice s) rationale)
event_of s (Open notice) = Some (open_event notice (envelopes_of_notice notice s) s.tenderers)
event_of s (Award notice lot) = Some (award_event s notice lot (winner (notice_at notice s) (envelopes_of_lot notice lot s)))
event_of s (Fail award) = option_map fail_event (award_at award s)
event_of s (Sign award named) = option_map (sign_event s) (award_at award s)
event_of s (AmendContract contract entry kind amount rationale) = option_map (λ (c : ContractRow). amend_contract_event s c entry kind amount rationale) (contract_at contract s)
event_of s (Pay contract entry amount) = option_map (λ (c : ContractRow). pay_event s c entry amount) (contract_at contract s)
event_of s (End contract how) = option_map end_event (contract_at contract s)
event_of s command = None
