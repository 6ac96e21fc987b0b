-- Merges of releases are stored beside the office and are no part of it: no refusal, change, reply or later office depends on them.
use Rattle.std.specs.Prelude.{◌≡◌, ℕ, List, [], map}
use Rattle.office_commands.specs.declared.command.Caller.{Caller}
use Rattle.office_commands.specs.declared.queries.Query.{Query}
use Rattle.office_base.specs.declared.records.CompiledRow.{CompiledRow}
use Rattle.office_base.specs.Tables.{Tables}
use Rattle.office_machine.specs.Fates.{received_at, fate_of_tender}
use Rattle.office_machine.specs.Machine.{Given, Means, next, puts_of, refusal_of, with_merges}
use Rattle.office_machine.specs.Requests.{reply_by}
use Rattle.office_machine.specs.Sights.{Packages, told}

-- The command, when these merges are stored beside its office.
abbrev pub beside : List CompiledRow → Given → Given
beside merges x = record { before = with_merges merges x.before; moment = x.moment; caller = x.caller; command = x.command }

-- The text of a release doesn't depend on the merges.
abbrev pub PublishesNoMerges : Means → Type 0
PublishesNoMerges means = (merges : List CompiledRow) (x : Given) → means.release (beside merges x) ≡ means.release x

-- The text of a package doesn't depend on the merges.
abbrev pub ShowsNoMerges : Packages → Type 0
ShowsNoMerges packages = (merges : List CompiledRow) (query : Query) (s : Tables) → packages query (with_merges merges s) ≡ packages query s

-- The commands, each without the merges that were stored beside its office.
abbrev pub bare : List Given → List Given
bare xs = map (beside []) xs

-- ---- laws

-- Whether and why a command is refused doesn't depend on the merges.
abbrev pub RefusalsReadNoMerges : Type 0
RefusalsReadNoMerges = (merges : List CompiledRow) (x : Given) → refusal_of (beside merges x) ≡ refusal_of x

-- The reply to a command doesn't depend on the merges.
abbrev pub RepliesReadNoMerges : Type 0
RepliesReadNoMerges = (means : Means) (merges : List CompiledRow) (x : Given)
    → reply_by (refusal_of (beside merges x)) means (beside merges x) ≡ reply_by (refusal_of x) means x

-- The reply to a query doesn't depend on the merges, if the texts of packages don't.
abbrev pub LooksReadNoMerges : Type 0
LooksReadNoMerges = (packages : Packages) → ShowsNoMerges packages → (merges : List CompiledRow) (s : Tables) (caller : Caller) (query : Query)
    → told packages (with_merges merges s) caller query ≡ told packages s caller query

-- The changes that a command makes don't depend on the merges, if the texts of releases don't.
abbrev pub PutsReadNoMerges : Type 0
PutsReadNoMerges = (means : Means) → PublishesNoMerges means → (merges : List CompiledRow) (x : Given) → puts_of means (beside merges x) ≡ puts_of means x

-- The office after a command, apart from its merges, doesn't depend on the merges, if the texts of releases don't.
abbrev pub NextReadsNoMerges : Type 0
NextReadsNoMerges = (means : Means) → PublishesNoMerges means → (merges : List CompiledRow) (x : Given)
    → next means (beside merges x) ≡ with_merges (next means (beside merges x)).compiled (next means x)

-- The tender that came in with a receipt and its fate don't depend on the merges.
abbrev pub FatesReadNoMerges : Type 0
FatesReadNoMerges = (xs : List Given) (r : ℕ) → (received_at (bare xs) r ≡ received_at xs r) × (fate_of_tender (bare xs) r ≡ fate_of_tender xs r)
