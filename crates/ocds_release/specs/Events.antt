-- The release of each event. A command without such an event publishes nothing.
pub mod Publish
pub mod Amend
pub mod Open
pub mod Award
pub mod NoAward
pub mod Fail
pub mod Cancel
pub mod Sign
pub mod AmendContract
pub mod Pay
pub mod End
use Rattle.std.specs.Prelude.{ℕ}
use Rattle.serde_json.specs.Data.{Data}
use Rattle.office_values.specs.declared.settings.Publisher.{Publisher}
use Rattle.ocds_release.specs.Releases.{release}
use Rattle.ocds_release.specs.Events.Publish.{publish_body}
use Rattle.ocds_release.specs.Events.Amend.{amend_body}
use Rattle.ocds_release.specs.Events.Open.{open_body}
use Rattle.ocds_release.specs.Events.Award.{award_body}
use Rattle.ocds_release.specs.Events.NoAward.{no_award_body}
use Rattle.ocds_release.specs.Events.Fail.{fail_body}
use Rattle.ocds_release.specs.Events.Cancel.{cancel_body}
use Rattle.ocds_release.specs.Events.Sign.{sign_body}
use Rattle.ocds_release.specs.Events.AmendContract.{amend_contract_body}
use Rattle.ocds_release.specs.Events.Pay.{pay_body}
use Rattle.ocds_release.specs.Events.End.{end_body}
use Rattle.ocds_release.specs.declared.event.Event.{Event}
use Rattle.ocds_release.specs.declared.event.Event.TheVariants as events

-- the release of an event with this number and moment: the head, then the members of the event
abbrev pub release_of_event : Publisher → ℕ → ℕ → Event → Data
release_of_event publisher seq t (events.Publish e) = release publisher seq t e.notice (publish_body publisher t e)
release_of_event publisher seq t (events.Amend e) = release publisher seq t e.notice (amend_body seq t e)
release_of_event publisher seq t (events.Open e) = release publisher seq t e.notice (open_body e)
release_of_event publisher seq t (events.Award e) = release publisher seq t e.notice (award_body publisher t e)
release_of_event publisher seq t (events.NoAward e) = release publisher seq t e.notice (no_award_body e)
release_of_event publisher seq t (events.Fail e) = release publisher seq t e.notice (fail_body e)
release_of_event publisher seq t (events.Cancel e) = release publisher seq t e.notice (cancel_body seq t e)
release_of_event publisher seq t (events.Sign e) = release publisher seq t e.notice (sign_body publisher t e)
release_of_event publisher seq t (events.AmendContract e) = release publisher seq t e.notice (amend_contract_body publisher t e)
release_of_event publisher seq t (events.Pay e) = release publisher seq t e.notice (pay_body publisher t e)
release_of_event publisher seq t (events.End e) = release publisher seq t e.notice (end_body e)
