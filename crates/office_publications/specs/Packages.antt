-- The packages of a notice's releases and of its record.
use Rattle.std.specs.Prelude.{ℕ, List, [], map}
use Rattle.serde_json.specs.Data.{Data}
use Rattle.serde_json.specs.Written.{compact_text}
use Rattle.office_commands.specs.declared.queries.Query.TheVariants as queries
use Rattle.office_values.specs.declared.settings.Publisher.{Publisher}
use Rattle.office_base.specs.Tables.{Tables, releases_of_notice}
use Rattle.office_machine.specs.Sights.{Packages}
use Rattle.ocds_merge.specs.Compile.{compiled_release}
use Rattle.ocds_release.specs.Packages.{release_package, record_package}
use Rattle.ocds_release.specs.Texts.{ocid_text}
use Rattle.office_publications.specs.Merges.{data_in}

-- The releases of a notice in their sequence, as data.
abbrev pub releases_told : List ℕ → Tables → List Data
releases_told notice s = map data_in (releases_of_notice notice s)

-- The compiled release of a notice (OCDS 1.1, "Merging").
abbrev pub compiled_told : Publisher → List ℕ → Tables → Data
compiled_told publisher notice s = compiled_release (ocid_text publisher.prefix notice) (releases_told notice s)

-- The text of the package that a query asks for; empty if the query asks for none.
abbrev pub packages : Publisher → Packages
packages publisher (queries.Releases notice) s = compact_text (release_package publisher notice (releases_told notice s))
packages publisher (queries.Record notice) s = compact_text (record_package publisher notice (releases_told notice s) (compiled_told publisher notice s))
packages publisher query s = []
