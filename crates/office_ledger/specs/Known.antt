-- When a schema has the four tables of the join, whatever other tables it has.
use Rattle.std.specs.Prelude.{◌≡◌, ◌^◌, ◌==◌, ℕ, Option, Some, None, false, List, codes, slice_get, nat_le, find}
use Rattle.sqlite_schema.specs.declared.schema.Column.{Column}
use Rattle.sqlite_schema.specs.declared.schema.Table.{Table}
use Rattle.sqlite_schema.specs.declared.schema.Schema.{Schema}
use Rattle.sqlite_schema.specs.Names.{table_named}
use Rattle.office_tables.specs.Tables.Lines.{lines}
use Rattle.office_tables.specs.Tables.Lots.{lots}
use Rattle.office_tables.specs.Tables.Contracts.{contracts}
use Rattle.office_tables.specs.Tables.Entries.{entries}
use Rattle.office_ledger.specs.Select.{Trees4}

-- the columns of the four tables
abbrev pub line_columns : List Column
line_columns = lines.columns

abbrev pub lot_columns : List Column
lot_columns = lots.columns

abbrev pub contract_columns : List Column
contract_columns = contracts.columns

abbrev pub entry_columns : List Column
entry_columns = entries.columns

-- the schema has a table of this name with these columns in this tree; its rowid is column `key`, if any
pub record Holds (schema : Schema) (name : List ℕ) (columns : List Column) (key : Option ℕ) (tree : ℕ) : Type 0 where
  pub place : ℕ
  pub table : Table
  pub named : table_named schema name ≡ Some place
  pub found : slice_get schema.tables place ≡ Some table
  pub columns_are : table.columns ≡ columns
  pub key_is : table.key ≡ key
  pub tree_is : table.tree ≡ tree
  -- no other table has this tree
  pub alone : find (λ t. t.tree == tree) schema.tables ≡ Some table
  -- the table is stored, and isn't one that a statement computes
  pub stored : nat_le (2 ^ 31) tree ≡ false

-- the schema has the four tables, with their columns, in these trees
pub record HoldsFour (schema : Schema) (at : Trees4) : Type 0 where
  pub lines : Holds schema (codes "lines") line_columns None at.lines
  pub lots : Holds schema (codes "lots") lot_columns None at.lots
  pub contracts : Holds schema (codes "contracts") contract_columns (Some 0) at.contracts
  pub entries : Holds schema (codes "entries") entry_columns None at.entries
