-- The editions of an office's tables: which tables came with each, and the version that its row has.
use Rattle.std.specs.Prelude.{◌&&◌, ℕ, zero, suc, Bool, cond, not, List, [], filter, nat_lt, is_some}
use Rattle.std.specs.List.{list_any}
use Rattle.sqlite_schema.specs.declared.schema.Schema.{Schema}
use Rattle.sqlite_schema.specs.Names.{same_name, table_named}
use Rattle.office_tables.specs.Making.{onto}
use Rattle.office_tables.specs.Schema.{OfficeTable, table_of, create_of, all_tables}
use Rattle.office_tables.specs.Schema.OfficeTable.{Notices, LateRules, Performances}
use Rattle.office_tables.specs.Tables.LateRules.{late_rules}

-- The edition that a table came with. Tables of edition 0 existed from the beginning.
abbrev pub came_with : OfficeTable → ℕ
came_with LateRules = 1
came_with Notices = 2
came_with Performances = 2
came_with k = 0

-- an office of this edition doesn't have the table, because the table came later
abbrev pub lacks_table : ℕ → OfficeTable → Bool
lacks_table edition k = nat_lt edition (came_with k)

-- The version that offices of an edition have in their row. Editions 0 and 1 both have version 1: the table of edition 1 came without a new version.
abbrev pub version_of : ℕ → ℕ
version_of zero = 1
version_of (suc edition) = suc edition

-- The edition follows from the version and, in version 1, from whether the table `late_rules` exists.
abbrev pub edition_of : ℕ → Bool → ℕ
edition_of version has_late = cond (not has_late && nat_lt version 2) 0 version

-- the schema has a table of this name
abbrev pub has_table : Schema → List ℕ → Bool
has_table schema name = is_some (table_named schema name)

-- the schema has the table of late withdrawals
abbrev pub has_late : Schema → Bool
has_late schema = has_table schema late_rules.name

-- the tables that came after edition 0, in the order in which they are made
abbrev pub later_tables : List OfficeTable
later_tables = onto [] (filter (lacks_table 0) all_tables)

-- the line of the program's list for a table: its edition, its name, and the text that creates it
abbrev pub later_line : OfficeTable → ℕ × List ℕ × List ℕ
later_line k = (came_with k, (table_of k).name, create_of k)

-- the name is that of a table that came after this edition
abbrev pub came_later : ℕ → List ℕ → Bool
came_later edition name = list_any (λ k. lacks_table edition k && same_name (table_of k).name name) later_tables
