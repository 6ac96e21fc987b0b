-- The texts of packages, member by member, and the packages with their members in the order of their names.
use Rattle.std.specs.Prelude.{ℕ, Bool, List, [], ◌∷◌, ◌++◌, codes}
use Rattle.json.specs.Print.{quoted}
use Rattle.serde_json.specs.Data.{Data, object, Members, member, no_members}
use Rattle.serde_json.specs.Written.{comma_if}
use Rattle.office_values.specs.declared.settings.Publisher.{Publisher}
use Rattle.ocds_release.specs.Objects.{text, texts, object_of}
use Rattle.ocds_release.specs.Texts.{ocid_text, address}

-- a member whose value has this text
abbrev pub member_text : Bool → List ℕ → List ℕ → List ℕ
member_text later name value = comma_if later ++ (quoted name ++ 58 ∷ value)

abbrev pub publisher_object : Publisher → Data
publisher_object publisher = object_of ((codes "name", text publisher.name) ∷ [])

abbrev pub with_extensions : List (List ℕ) → Members → Members
with_extensions [] ms = ms
with_extensions (x ∷ xs) ms = member (codes "extensions") (texts (x ∷ xs)) ms

-- the members before the list
abbrev pub first_members : Publisher → List ℕ → Members → Members
first_members publisher published ms = with_extensions publisher.extensions (member (codes "publishedDate") (text published) ms)

abbrev pub head_members : Publisher → List ℕ → Members → Members
head_members publisher published ms = first_members publisher published (member (codes "publisher") (publisher_object publisher) ms)

-- the members after the list
abbrev pub tail_members : Publisher → List ℕ → List ℕ → Members
tail_members publisher notice route =
    member (codes "uri") (text (address publisher.base notice route)) (member (codes "version") (text (codes "1.1")) no_members)

-- a package with its members in the order of their names
abbrev pub ordered_package : Publisher → List ℕ → List ℕ → List ℕ → List ℕ → Data → Data
ordered_package publisher notice published route name list =
    object (head_members publisher published (member name list (tail_members publisher notice route)))

-- a record with its members in the order of their names
abbrev pub ordered_record : Publisher → List ℕ → Data → Data → Data
ordered_record publisher notice compiled releases = object (
    member (codes "compiledRelease") compiled (
    member (codes "ocid") (text (ocid_text publisher.prefix notice)) (member (codes "releases") releases no_members)))
