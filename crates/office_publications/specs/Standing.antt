-- An office that its commands made.
use Rattle.std.specs.Prelude.{List, Option, Some, None}
use Rattle.office_values.specs.declared.refusal.Refusal.{Refusal}
use Rattle.office_values.specs.declared.settings.Publisher.{Publisher}
use Rattle.office_base.specs.Tables.{Tables}
use Rattle.office_machine.specs.Machine.{Given, Reaches}
use Rattle.office_publications.specs.Keeping.{KeepsReleases, next_with_merges}
use Rattle.office_publications.specs.Publishing.{publishing}

-- Accepted commands lead to this office, under one publisher, and its releases and merges are right.
pub record IsReached (publisher : Publisher) (s : Tables) : Type 0 where
  pub commands : List Given
  pub reaches : Reaches (publishing publisher) commands s
  pub keeps : KeepsReleases s

-- The office after a given command, with the merges beside it. A refused command leaves the office as it was.
abbrev pub office_kept : Option Refusal → Publisher → Given → Tables
office_kept None publisher x = next_with_merges publisher x
office_kept (Some why) publisher x = x.before
