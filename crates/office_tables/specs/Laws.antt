-- Laws of databases that hold an office.
use Rattle.std.specs.Prelude.{◌≡◌, [], ℕ, nat_lt, IsTrue}
use Rattle.std.specs.List.{AllByRecursion}
use Rattle.sqlite.specs.Effect.{Database}
use Rattle.office_base.specs.Tables.{Tables}
use Rattle.office_tables.specs.Earlier.{HoldsEdition}
use Rattle.office_tables.specs.Standing.{Holds}

-- two databases with the same trees hold the same office
abbrev pub TreesTellOneOffice : Type 0
TreesTellOneOffice = (d e : Database) (t u : Tables) → Holds d t → Holds e u → d.trees ≡ e.trees → t ≡ u

-- no notice asks for a performance security, and none exists
pub record KnowsNoPerformances (t : Tables) : Type 0 where
  pub notices : AllByRecursion (λ n. n.performance ≡ 0) t.notices
  pub securities : t.performances ≡ []

-- in each office of an edition before 2, no notice asks for a performance security, and none exists
abbrev pub FirstKnowsNoPerformances : Type 0
FirstKnowsNoPerformances = (edition : ℕ) (db : Database) (t : Tables) → IsTrue (nat_lt edition 2) → HoldsEdition edition db t → KnowsNoPerformances t
