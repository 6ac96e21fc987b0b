-- The events of a lot's awards, as releases describe them.
use Rattle.std.specs.Prelude.{ℕ, ◌+◌, List, [], map, Option, Some, None}
use Rattle.award_core.specs.Rules.Award.{price_of}
use Rattle.office_base.specs.Tables.{Tables, tenderer_at, lots_of_notice}
use Rattle.office_base.specs.declared.records.AwardRow.{AwardRow}
use Rattle.office_base.specs.declared.records.EnvelopeRow.{EnvelopeRow}
use Rattle.office_base.specs.declared.records.LotState.{LotState}
use Rattle.office_base.specs.declared.records.LotState.TheVariants.{Contracted, Unsuccessful}
use Rattle.office_base.specs.declared.records.TendererRow.{TendererRow}
use Rattle.ocds_release.specs.TenderStatuses.{tender_status_of, state_with}
use Rattle.ocds_release.specs.declared.tender_status.TenderStatus.{TenderStatus}
use Rattle.ocds_release.specs.declared.event.Party.{Party}
use Rattle.ocds_release.specs.declared.event.Event.{Event}
use Rattle.ocds_release.specs.declared.event.Event.TheVariants as events

-- The name of a tenderer; empty if the tenderer doesn't exist, which no tender in a reached office allows.
abbrev pub name_in : Option TendererRow → List ℕ
name_in None = []
name_in (Some r) = r.name

-- The tenderer as a party in a release, with identifier and name.
abbrev pub party_of : Tables → List ℕ → Party
party_of s tenderer = record { id = tenderer; name = name_in (tenderer_at tenderer s) }

-- The status of a notice's tender in OCDS, after one of its lots got this state.
abbrev pub status_with : Tables → List ℕ → List ℕ → LotState → TenderStatus
status_with s notice lot state = tender_status_of (map (state_with lot state) (lots_of_notice notice s))

-- A lot is awarded to the best tender, or has no winner.
abbrev pub award_event : Tables → List ℕ → List ℕ → Option EnvelopeRow → Event
award_event s notice lot None = events.NoAward (record { notice = notice; lot = lot; status = status_with s notice lot Unsuccessful })
award_event s notice lot (Some e) = events.Award (record {
  notice = notice;
  award = s.clock.awards + 1;
  lot = lot;
  winner = party_of s e.tenderer;
  price = price_of e;
})

-- The winner doesn't sign.
abbrev pub fail_event : AwardRow → Event
fail_event a = events.Fail (record { notice = a.notice; award = a.award })

-- The award is signed. The contract has the number of the award.
abbrev pub sign_event : Tables → AwardRow → Event
sign_event s a = events.Sign (record { notice = a.notice; contract = a.award; lot = a.lot; price = a.price; status = status_with s a.notice a.lot Contracted })
