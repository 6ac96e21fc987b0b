-- The members that every release has (OCDS 1.1, release schema).
use Rattle.std.specs.Prelude.{ℕ, List, [], ◌∷◌, codes}
use Rattle.serde_json.specs.Data.{Data, Members, object, no_members}
use Rattle.office_values.specs.Moments.{moment_text}
use Rattle.office_values.specs.declared.settings.Publisher.{Publisher}
use Rattle.ocds_release.specs.Objects.{Entry, text, texts, buyer_reference, with_entries}
use Rattle.ocds_release.specs.Texts.{release_id, ocid_text}

-- the buyer, by identifier and name
abbrev pub buyer_of : Publisher → Data
buyer_of publisher = buyer_reference publisher.buyer.id publisher.buyer.name

-- `buyer`, `date` (the moment of the event), `id`, `initiationType`, `language`, `ocid`
abbrev pub head_of : Publisher → ℕ → ℕ → List ℕ → List Entry
head_of publisher seq t notice =
    (codes "buyer", buyer_of publisher)
    ∷ (codes "date", text (moment_text t))
    ∷ (codes "id", text (release_id publisher.prefix notice seq))
    ∷ (codes "initiationType", text (codes "tender"))
    ∷ (codes "language", text publisher.language)
    ∷ (codes "ocid", text (ocid_text publisher.prefix notice))
    ∷ []

abbrev pub head_members : Publisher → ℕ → ℕ → List ℕ → Members
head_members publisher seq t notice = with_entries (head_of publisher seq t notice) no_members

-- the release of a notice with this number and moment: the head, then the members of the event
abbrev pub release : Publisher → ℕ → ℕ → List ℕ → List Entry → Data
release publisher seq t notice event = object (with_entries event (head_members publisher seq t notice))

-- the tags of a release (OCDS 1.1, codelist releaseTag)
abbrev pub tags : List (List ℕ) → Entry
tags ts = (codes "tag", texts ts)
