-- The publications of an office reveal nothing about sealed tenders.
use Rattle.std.specs.Prelude.{List}
use Rattle.office_values.specs.declared.settings.Publisher.{Publisher}
use Rattle.office_base.specs.Tables.{Tables}
use Rattle.office_machine.specs.Machine.{Given, Reaches}
use Rattle.office_machine.specs.Requests.{AreRequests, Request, all_accepted}
use Rattle.office_machine.specs.Seals.{AlikeThroughout, AlikeUntilOpening, DifferingAreGone, ReleasesHideSeals, SameButSeals, PackagesHideSeals}
use Rattle.office_machine.specs.Worlds.{ChosenTender}
use Rattle.office_publications.specs.Packages.{packages}
use Rattle.office_publications.specs.Publishing.{publishing}

-- The law: the texts of its releases depend on no digest, and on no seals but those that an opening opens.
abbrev pub ReleasesTellNoSeals : Type 0
ReleasesTellNoSeals = (publisher : Publisher) → ReleasesHideSeals (publishing publisher)

-- The law: the texts of its packages depend on no digest and on no seal.
abbrev pub PackagesTellNoSeals : Type 0
PackagesTellNoSeals = (publisher : Publisher) → PackagesHideSeals (packages publisher)

-- The law: two runs whose requests differ only in bytes that one tenderer seals for one lot give alike replies until the opening.
abbrev pub PublishedSealsAreKept : Type 0
PublishedSealsAreKept = (publisher : Publisher) (th : ChosenTender) (xs : List Given) (s : Tables) → Reaches (publishing publisher) xs s
    → (rest rest' : List Request) → AreRequests (publishing publisher) s rest → SameButSeals (publishing publisher) th s rest rest'
    → AlikeUntilOpening (publishing publisher) (packages publisher) th s s rest rest'

-- The law: they give alike replies to the end if each tender whose bytes differ is withdrawn or returned.
abbrev pub PublishedRunsAreAlike : Type 0
PublishedRunsAreAlike = (publisher : Publisher) (th : ChosenTender) (xs : List Given) (s : Tables) → Reaches (publishing publisher) xs s
    → (rest rest' : List Request) → AreRequests (publishing publisher) s rest → SameButSeals (publishing publisher) th s rest rest'
    → DifferingAreGone (all_accepted (publishing publisher) s xs rest) (all_accepted (publishing publisher) s xs rest')
    → AlikeThroughout (publishing publisher) (packages publisher) th s s rest rest'
