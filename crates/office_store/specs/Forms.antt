-- When the tables of an office in a database have the form in which this program makes them.
use Rattle.std.specs.Prelude.{◌≡◌, ◌⊎◌, ◌==◌, ℕ, false, IsTrue, Option, Some, None, [], length, filter, slice_get}
use Rattle.sqlite_schema.specs.declared.schema.Schema.{Schema}
use Rattle.sqlite_schema.specs.declared.schema.Table.{Table}
use Rattle.sqlite_schema.specs.Names.{table_named}
use Rattle.sqlite_schema.specs.Rules.{guards}
use Rattle.office_tables.specs.Editions.{came_later, has_table}
use Rattle.office_tables.specs.Known.{IsIn, at_tree}
use Rattle.office_tables.specs.Schema.{OfficeTable, table_of}

-- the schema has this table of the office in its form
abbrev pub HasForm : Schema → OfficeTable → Type 0
HasForm schema k = (n : ℕ) × IsIn schema (table_of k) n

-- each table of the office has its form; in an office of an earlier edition, tables that came later may be missing
abbrev pub HasForms : ℕ → Schema → Type 0
HasForms edition schema =
    (k : OfficeTable) → HasForm schema k ⊎ (IsTrue (came_later edition (table_of k).name) × (has_table schema (table_of k).name ≡ false))

-- the number of unique indexes of a table: one for its key, or none if the key is the rowid
abbrev pub index_count : Option ℕ → ℕ
index_count None = 1
index_count (Some key) = 0

-- the name finds a table of this form, no other table has its tree, and rows must differ in their key alone
pub record StandsAlike (schema : Schema) (form : Table) : Type 0 where
  pub place : ℕ
  pub tree : ℕ
  pub named : table_named schema form.name ≡ Some place
  pub found : slice_get schema.tables place ≡ Some (at_tree form tree)
  pub alone : length (filter (λ t. t.tree == tree) schema.tables) ≡ 1
  pub guarded : length (filter (λ i. guards i (at_tree form tree)) schema.indexes) ≡ index_count form.key

-- the table has its form; or it came after this edition, and no table has its name
abbrev pub StandsOrLacks : ℕ → Schema → Table → Type 0
StandsOrLacks edition schema form = StandsAlike schema form ⊎ (IsTrue (came_later edition form.name) × (table_named schema form.name ≡ None))

-- the schema has each table of an office in its form
abbrev pub ListsForms : Schema → Type 0
ListsForms forms = (k : OfficeTable) → HasForm forms k

-- the table has no rules but types, NOT NULL, CHECK and keys
abbrev pub HasPlainRules : Table → Type 0
HasPlainRules form = (form.references ≡ []) × (form.computed ≡ []) × (form.stamps ≡ record { places = []; terms = []; formats = [] })
