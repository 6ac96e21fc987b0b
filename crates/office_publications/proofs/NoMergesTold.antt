-- Releases and packages don't depend on the merges that are stored beside the office.
use Rattle.office_publications.proofs.Names.{◌≡◌, ℕ, List, refl, ◌∙◌, ap, Caller, Command, Publisher, CompiledRow, Tables, Given, with_merges, LooksReadNoMerges, NextReadsNoMerges, beside, MergesStandBeside, next_with_merges, KeptStepsReadNoMerges, PackagesTellNoMerges, PublishedLooksReadNoMerges, ReleasesTellNoMerges, packages, publishing, release_text}
use Rattle.office_commands.specs.declared.commands.Command.TheVariants.{Publish}
use Rattle.office_commands.specs.declared.queries.Query.TheVariants as queries

module _ (publisher : Publisher) (merges : List CompiledRow) (s : Tables) (moment : ℕ) (caller : Caller) where
  abbrev given : Command → Given
  given command = record { before = s; moment = moment; caller = caller; command = command }

  text_apart : (command : Command) → release_text publisher (beside merges (given command)) ≡ release_text publisher (given command)
  text_apart (Publish notice content) = refl
  text_apart _ = refl

pub releases_tell_no_merges : ReleasesTellNoMerges
releases_tell_no_merges publisher merges x = text_apart publisher merges x.before x.moment x.caller x.command

pub packages_tell_no_merges : PackagesTellNoMerges
packages_tell_no_merges publisher merges (queries.Releases notice) s = refl
packages_tell_no_merges publisher merges (queries.Record notice) s = refl
packages_tell_no_merges publisher merges _ s = refl

pub looks_apart : LooksReadNoMerges → PublishedLooksReadNoMerges
looks_apart law publisher merges s caller query = law (packages publisher) (packages_tell_no_merges publisher) merges s caller query

pub kept_apart : MergesStandBeside → NextReadsNoMerges → KeptStepsReadNoMerges
kept_apart stand law publisher merges x =
    stand publisher (beside merges x)
    ∙ ap (λ (u : Tables). with_merges (next_with_merges publisher (beside merges x)).compiled u)
    (law (publishing publisher) (releases_tell_no_merges publisher) merges x)
