-- Packages of releases and of records (OCDS 1.1, release package and record package).
use Rattle.std.specs.Prelude.{ℕ, List, [], ◌∷◌, codes}
use Rattle.serde_json.specs.Data.{Data}
use Rattle.office_values.specs.declared.settings.Publisher.{Publisher}
use Rattle.ocds_merge.specs.Compile.{last_date}
use Rattle.ocds_release.specs.Objects.{text, texts, array_of, object_of}
use Rattle.ocds_release.specs.Texts.{ocid_text, address}

-- a package with its list: the extensions if there are any, its date, its address, version 1.1, and the publisher
abbrev pub package_of : Publisher → List ℕ → List ℕ → List ℕ → List ℕ → Data → Data
package_of publisher notice published route name list = object_of (
    (codes "extensions", texts publisher.extensions)
    ∷ (codes "publishedDate", text published)
    ∷ (codes "uri", text (address publisher.base notice route))
    ∷ (codes "version", text (codes "1.1"))
    ∷ (codes "publisher", object_of ((codes "name", text publisher.name) ∷ []))
    ∷ (name, list)
    ∷ [])

-- the release package of a notice: its releases in sequence, with the date of the last one
abbrev pub release_package : Publisher → List ℕ → List Data → Data
release_package publisher notice releases = package_of publisher notice (last_date releases) (codes "/releases") (codes "releases") (array_of releases)

-- the record of a notice: its releases, and the compiled release
abbrev pub record_of : Publisher → List ℕ → List Data → Data → Data
record_of publisher notice releases compiled = object_of (
    (codes "ocid", text (ocid_text publisher.prefix notice))
    ∷ (codes "compiledRelease", compiled)
    ∷ (codes "releases", array_of releases)
    ∷ [])

-- the record package of a notice, with the date of the last release
abbrev pub record_package : Publisher → List ℕ → List Data → Data → Data
record_package publisher notice releases compiled =
    package_of publisher notice (last_date releases) (codes "/record") (codes "records") (array_of (record_of publisher notice releases compiled ∷ []))
