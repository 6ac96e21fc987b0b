-- The release of each event can be stored as text and read back.
use Rattle.ocds_release.proofs.Names.{◌≡◌, ℕ, refl, arith, moment_text, Publisher, date_of, IsStorable, release_of_event, Event, Publish, Open, Cancel}
use Rattle.ocds_release.proofs.Keepable.{IsKeepable, storable}
use Rattle.ocds_release.proofs.ListedEvents.{publish_keepable, open_keepable, cancel_keepable}

-- a release without lists of its event is computed
keepable : (publisher : Publisher) (seq t : ℕ) (event : Event) → IsKeepable t (release_of_event publisher seq t event)
keepable publisher seq t (Publish e) = publish_keepable publisher seq t e
keepable publisher seq t (Open e) = open_keepable publisher seq t e
keepable publisher seq t (Cancel e) = cancel_keepable publisher seq t e
keepable publisher seq t _ = record { flat = record { no_float = refl; shallow = omega arith }; dated = refl }

pub all_storable : (publisher : Publisher) (seq t : ℕ) (event : Event) → IsStorable (release_of_event publisher seq t event)
all_storable publisher seq t event = storable t _ (keepable publisher seq t event)

pub all_dated : (publisher : Publisher) (seq t : ℕ) (event : Event) → date_of (release_of_event publisher seq t event) ≡ moment_text t
all_dated publisher seq t event = (keepable publisher seq t event).dated
