-- The notice of an event.
use Rattle.std.specs.Prelude.{ℕ, List}
use Rattle.ocds_release.specs.declared.event.Event.{Event}
use Rattle.ocds_release.specs.declared.event.Event.TheVariants as events

-- the notice to which the event belongs
abbrev pub notice_of_event : Event → List ℕ
notice_of_event (events.Publish e) = e.notice
notice_of_event (events.Amend e) = e.notice
notice_of_event (events.Open e) = e.notice
notice_of_event (events.Award e) = e.notice
notice_of_event (events.NoAward e) = e.notice
notice_of_event (events.Fail e) = e.notice
notice_of_event (events.Cancel e) = e.notice
notice_of_event (events.Sign e) = e.notice
notice_of_event (events.AmendContract e) = e.notice
notice_of_event (events.Pay e) = e.notice
notice_of_event (events.End e) = e.notice
