-- The merges that are stored beside an office that publishes change no decision, put or reply.
use Rattle.std.specs.Prelude.{◌≡◌, List}
use Rattle.office_commands.specs.declared.command.Caller.{Caller}
use Rattle.office_commands.specs.declared.queries.Query.{Query}
use Rattle.office_values.specs.declared.settings.Publisher.{Publisher}
use Rattle.office_base.specs.declared.records.CompiledRow.{CompiledRow}
use Rattle.office_base.specs.Tables.{Tables}
use Rattle.office_machine.specs.Machine.{Given, next, with_merges}
use Rattle.office_machine.specs.MergesApart.{PublishesNoMerges, ShowsNoMerges, beside}
use Rattle.office_machine.specs.Sights.{told}
use Rattle.office_publications.specs.Keeping.{next_with_merges}
use Rattle.office_publications.specs.Packages.{packages}
use Rattle.office_publications.specs.Publishing.{publishing}

-- The law: the texts of its releases don't depend on the merges.
abbrev pub ReleasesTellNoMerges : Type 0
ReleasesTellNoMerges = (publisher : Publisher) → PublishesNoMerges (publishing publisher)

-- The law: the texts of its packages don't depend on the merges.
abbrev pub PackagesTellNoMerges : Type 0
PackagesTellNoMerges = (publisher : Publisher) → ShowsNoMerges (packages publisher)

-- The law: so the replies to queries don't depend on the merges.
abbrev pub PublishedLooksReadNoMerges : Type 0
PublishedLooksReadNoMerges = (publisher : Publisher) (merges : List CompiledRow) (s : Tables) (caller : Caller) (query : Query)
    → told (packages publisher) (with_merges merges s) caller query ≡ told (packages publisher) s caller query

-- The law: an accepted command leads to the specification's next office, with some merges beside it.
abbrev pub KeptStepsReadNoMerges : Type 0
KeptStepsReadNoMerges = (publisher : Publisher) (merges : List CompiledRow) (x : Given)
    → next_with_merges publisher (beside merges x) ≡ with_merges (next_with_merges publisher (beside merges x)).compiled (next (publishing publisher) x)
