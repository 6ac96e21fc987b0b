-- When a schema has the tables of an office, whatever other tables it has.
use Rattle.std.specs.Prelude.{◌≡◌, ◌^◌, ℕ, List, Option, Some, None, false, [], ◌∷◌, slice_get, nat_le, filter}
use Rattle.sqlite_schema.specs.declared.schema.Table.{Table}
use Rattle.sqlite_schema.specs.declared.schema.Index.{Index}
use Rattle.sqlite_schema.specs.declared.schema.Schema.{Schema}
use Rattle.sqlite_schema.specs.Names.{table_named}
use Rattle.sqlite_schema.specs.Rules.{guards}
use Rattle.sqlite_rules.specs.Lists.{Has}
use Rattle.sqlite_catalog.specs.Listing.{automatic}
use Rattle.office_tables.specs.Schema.{OfficeTable, table_of}

-- the table, stored in this tree
abbrev pub at_tree : Table → ℕ → Table
at_tree table tree = record table { tree = tree }

-- the indexes that SQLite makes for a table's primary key: one, or none if the key is the rowid
abbrev pub key_indexes : Option ℕ → Table → ℕ → List Index
key_indexes None table index = automatic table 0 table.primary index ∷ []
key_indexes (Some key) table index = []

-- the schema has the table, and it is stored in this tree
pub record IsIn (schema : Schema) (table : Table) (tree : ℕ) : Type 0 where
  pub place : ℕ
  -- a search by its name finds it
  pub named : table_named schema table.name ≡ Some place
  pub found : slice_get schema.tables place ≡ Some (at_tree table tree)
  -- no other table has this tree
  pub alone : (other : Table) → Has schema.tables other → other.tree ≡ tree → other ≡ at_tree table tree
  -- the table is stored, and isn't one that a statement computes
  pub stored : nat_le (2 ^ 31) tree ≡ false
  -- rows must differ in their key and in nothing else: no index guards the table but that of its key
  pub index : ℕ
  pub guarded : filter (λ i. guards i (at_tree table tree)) schema.indexes ≡ key_indexes table.key (at_tree table tree) index

-- the tree of each table of the office
abbrev pub Places : Type 0
Places = OfficeTable → ℕ

-- the schema has the tables of an office at these trees
abbrev pub HasTables : Schema → Places → Type 0
HasTables schema places = (k : OfficeTable) → IsIn schema (table_of k) (places k)
