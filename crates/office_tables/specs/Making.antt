-- How the tables of an office are made, one after another, in a database that may have other tables.
use Rattle.std.specs.Prelude.{◌≡◌, ◌≢◌, ℕ, false, List, [], ◌∷◌, ◌++◌, None, Ok}
use Rattle.std.specs.List.{AllByRecursion}
use Rattle.sqlite_schema.specs.declared.schema.Schema.{Schema}
use Rattle.sqlite_schema.specs.declared.schema.Table.{Table}
use Rattle.sqlite_schema.specs.declared.schema.Index.{Index}
use Rattle.sqlite_rules.specs.Lists.{Has}
use Rattle.sqlite_schema.specs.declared.command.Command.{Command}
use Rattle.sqlite_schema.specs.declared.command.Command.TheVariants.{CreateTable, CreateIndex}
use Rattle.sqlite_resolve.specs.declared.compiled.Compiled.{Compiled}
use Rattle.sqlite_resolve.specs.Compile.{table_defined_by, index_defined_by}
use Rattle.sqlite.specs.Listing.{understood}
use Rattle.sqlite.specs.State.{State, text_of}
use Rattle.sqlite.specs.Effect.{Database, IsDatabase}
use Rattle.office_base.specs.Tables.{no_tables}
use Rattle.office_tables.specs.Apart.{AddsNoReference}
use Rattle.office_tables.specs.Schema.{OfficeTable, table_of, all_tables}
use Rattle.office_tables.specs.Known.{IsIn, at_tree}
use Rattle.office_tables.specs.Standing.{Holds}
use Rattle.office_tables.specs.Steps.{Goes}

-- The whole text is one command of this kind. It returns no rows and doesn't read the time.
pub record Says (text : List ℕ) (c : Compiled) (command : Command) : Type 0 where
  pub is : c.command ≡ command
  pub untold : c.returning ≡ None
  pub untimed : c.formats ≡ []
  pub whole : text_of text c ≡ text

-- Wherever the database understands the text, it creates this table.
pub record IsCreate (text : List ℕ) (table : Table) : Type 0 where
  pub means : (schema : Schema) (c : Compiled) → understood schema text ≡ Ok c → Says text c CreateTable
  pub defined : table_defined_by text ≡ Ok table

-- Wherever the table exists and the database understands the text, it creates this index on the table.
pub record IsIndexing (text : List ℕ) (table : Table) (index : Index) : Type 0 where
  pub means : (schema : Schema) (n : ℕ) (it : IsIn schema table n) (c : Compiled) → understood schema text ≡ Ok c → Says text c (CreateIndex it.place)
  pub defined : (n : ℕ) (made : Index) → index_defined_by (at_tree table n) text ≡ Ok made → made ≡ record index { table = n }

-- the database is sound and has these tables of the office, all of them empty
pub record AreMade (done : List OfficeTable) (db : Database) : Type 0 where
  pub sound : IsDatabase db
  pub each : AllByRecursion (λ k. (n : ℕ) × IsIn db.schema (table_of k) n × (db.trees n ≡ [])) done

-- each table of the old database still exists, with its rows
abbrev pub KeepsOthers : Database → Database → Type 0
KeepsOthers old new = (t : Table) → Has old.schema.tables t → Has new.schema.tables t × (new.trees t.tree ≡ old.trees t.tree)

-- each table of an office that existed still exists, with its rows
abbrev pub KeepsOffice : Database → Database → Type 0
KeepsOffice old new = (k : OfficeTable) (n : ℕ) → IsIn old.schema (table_of k) n → IsIn new.schema (table_of k) n × (new.trees n ≡ old.trees n)

-- no table of the database has one of these names
abbrev pub AreNew : Database → List OfficeTable → Type 0
AreNew db more = AllByRecursion (λ k. (t : Table) → Has db.schema.tables t → t.name ≢ (table_of k).name) more

-- The transaction continues and nothing is committed. It has made these tables beside the existing ones.
pub record Makes (old new : State) (more : List OfficeTable) : Type 0 where
  pub goes : Goes old new
  pub others : KeepsOthers old.now new.now
  pub fresh : AreNew old.now more
  pub added : AddsNoReference old.now.schema new.now.schema
  -- tables of the office that existed keep their rows
  pub stays : KeepsOffice old.now new.now
  pub made : (done : List OfficeTable) → AreMade done old.now → AreMade (more ++ done) new.now

-- puts the tables in front of those that are already made, one by one, so that the last comes first
abbrev pub onto : List OfficeTable → List OfficeTable → List OfficeTable
onto done [] = done
onto done (k ∷ ks) = onto (k ∷ done) ks

-- each text creates an index of a table of the office, and the index isn't unique
abbrev pub AreIndexings : List (List ℕ) → Type 0
AreIndexings texts = AllByRecursion (λ text. (k : OfficeTable) × (index : Index) × IsIndexing text (table_of k) index × (index.is_unique ≡ false)) texts

-- The transaction continues and nothing is committed. If all tables of an office were made and empty, they still are, and all tables keep their rows.
pub record Indexes (old new : State) : Type 0 where
  pub goes : Goes old new
  pub others : AreMade all_tables old.now → KeepsOthers old.now new.now
  pub made : AreMade all_tables old.now → AreMade all_tables new.now

-- The transaction continues and nothing is committed. The database now holds an empty office, and the tables that it had keep their rows.
pub record Founds (old new : State) : Type 0 where
  pub goes : Goes old new
  pub tables : IsDatabase old.now → Holds new.now no_tables
  pub others : IsDatabase old.now → KeepsOthers old.now new.now
