-- When a database holds an office. Its other tables, views and indexes may be anything.
use Rattle.std.specs.Prelude.{List}
use Rattle.sqlite_value.specs.Order.{Row}
use Rattle.sqlite.specs.Effect.{Database, IsDatabase}
use Rattle.office_base.specs.Tables.{Tables}
use Rattle.office_tables.specs.Known.{Places, HasTables}
use Rattle.office_tables.specs.Schema.{OfficeTable, StandFor}

-- the rows of each table hold its part of the content
abbrev pub Stands : (OfficeTable → List Row) → Tables → Type 0
Stands rows t = (k : OfficeTable) → StandFor k (rows k) t

-- the database is sound, has the tables of an office, and they hold this content
pub record Holds (db : Database) (t : Tables) : Type 0 where
  pub sound : IsDatabase db
  pub places : Places
  pub tables : HasTables db.schema places
  pub stands : Stands (λ k. db.trees (places k)) t
