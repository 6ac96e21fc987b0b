-- INSERT .. ON CONFLICT (key) DO UPDATE of one row, in any schema that has its table.
use Rattle.office_tables.proofs.Names.{◌≡◌, [], ◌∷◌, ◌++◌, ◌+◌, ◌-◌, ◌==◌, List, Ok, None, Some, pos, negsuc, refl, ℕ, length, false, true, slice_get, map, range_with_len, Int, Null, Binary, Term, lit, col, op2, Query, inner, end, Compare, Eq, Schema, Table, Program, Upsert, InsertOr, Abort, table_named, Draft, chain, Inner, Rows, Parsed, accepts_program, places, upserts, upsert, update, do_update, key_meant, first, planned, meaning, returning, shows, command, insert_or_abort, insert_or, new_rows, small, IsIn, at_tree}
use Rattle.sqlite_schema.specs.declared.command.Source.{Source}
use Rattle.sqlite_ast.specs.declared.Upsert as written_clause
use Rattle.sqlite_ast.specs.declared.Conflict.TheVariants as conflict
use Rattle.sqlite_ast.specs.declared.Rows.TheVariants as rows_of
use Rattle.sqlite_ast.specs.declared.Statement.{Statement}
use Rattle.sqlite_ast.specs.declared.Statement.TheVariants as written
use Rattle.sqlite_resolve.specs.declared.compiled.Compiled.{Compiled}
use Rattle.sqlite_resolve.specs.Program as program
use Rattle.sqlite_resolve.specs.Compile.{compiled, timed}
use Rattle.office_tables.proofs.Keyed.{HasKey, key_at_is}
use Rattle.office_tables.proofs.Meanings.{StatementMeans, means_by, parsed_in}

-- ---- the command

-- An update of the row that has one rowid: it shows the rowid, and then the row at that rowid. The rowid is the parameter after the first `base`.
abbrev pub updating : ℕ → ℕ → List Term → Query
updating tree base cells = record {
  from = inner tree end;
  filter = op2 (Compare Eq Binary) (col 1 0) (col 0 base) ∷ [];
  group = None;
  project = col 1 0 ∷ col 1 0 ∷ cells;
  distinct = false;
  collations = [];
  order = [];
  limit = lit (Int (negsuc 0));
  offset = lit (Int (pos 0));
}

abbrev pub update_of : ℕ → ℕ → List Term → Program
update_of tree base cells = record { lets = []; body = updating tree base cells }

-- this update, on a conflict in the key
abbrev pub on_conflict : Table → ℕ → List Term → Upsert
on_conflict table base cells = record { target = Some table.primary; update = Some (update_of table.tree base cells) }

abbrev pub draft_of : ℕ → ℕ → List Term → Draft
draft_of tree base cells = record {
  from = chain (Inner tree ∷ []);
  filter = op2 (Compare Eq Binary) (col 1 0) (col 0 base) ∷ [];
  group = None;
  project = col 1 0 ∷ col 1 0 ∷ cells;
  distinct = false;
  collations = [];
  order = [];
  limit = lit (Int (negsuc 0));
  offset = lit (Int (pos 0));
}

-- the terms of a put: the number of its parameters, the row that it tries to insert, and the row that it sets
pub record Shape : Type 0 where
  pub base : ℕ
  pub terms : List Term
  pub cells : List Term

-- `n` parameters, from this one on
abbrev pub given_from : ℕ → ℕ → List Term
given_from at n = map (col 0) (range_with_len at n)

-- The put into a table whose rowids the database chooses. It has `n` columns; the first `keys` of them are the key, which an existing row keeps.
abbrev pub behind_rowid : ℕ → ℕ → Shape
behind_rowid n keys = record { base = n; terms = lit Null ∷ given_from 0 n; cells = map (col 1) (range_with_len 1 keys) ++ given_from keys (n - keys) }

-- the put into a table whose key is its rowid
abbrev pub at_rowid : ℕ → Shape
at_rowid n = record { base = n; terms = col 0 0 ∷ lit Null ∷ given_from 1 (n - 1); cells = lit Null ∷ given_from 1 (n - 1) }

-- ---- the parts of an INSERT

unfoldable pub columns_in : Statement → List (List ℕ)
columns_in (written.Insert how name columns rows clauses shown) = columns
columns_in _ = []

unfoldable pub rows_in : Statement → Rows
rows_in (written.Insert how name columns rows clauses shown) = rows
rows_in _ = rows_of.Defaults

unfoldable pub clause_in : Statement → written_clause.Upsert
clause_in (written.Insert how name columns rows (u ∷ more) shown) = u
clause_in _ = record { target = []; sets = []; filter = None }

-- the parts that the grammar finds in the text of a put
pub record IsUpsert (text name : List ℕ) : Type 0 where
  pub is : first text ≡ Ok (parsed_in (first text))
  pub statement : (parsed_in (first text)).statement
      ≡ written.Insert conflict.Abort name (columns_in (parsed_in (first text)).statement) (rows_in (parsed_in (first text)).statement) (clause_in (parsed_in (first text)).statement ∷ []) []
  pub formats : (parsed_in (first text)).formats ≡ []
  pub targeted : (length (clause_in (parsed_in (first text)).statement).target == 0) ≡ false
  pub changes : (length (clause_in (parsed_in (first text)).statement).sets == 0) ≡ false

module _ (schema : Schema) (text : List ℕ) (p : Parsed) (name : List ℕ) (columns : List (List ℕ)) (rows : Rows) (u : written_clause.Upsert) (at : ℕ) (table : Table) (s : Source) (base : ℕ) (cells : List Term)
    (first_is : first text ≡ Ok p) (statement_is : p.statement ≡ written.Insert conflict.Abort name columns rows (u ∷ []) []) (formats_are : p.formats ≡ [])
    (targeted : (length u.target == 0) ≡ false) (changes : (length u.sets == 0) ≡ false)
    (named : table_named schema name ≡ Some at) (found : slice_get schema.tables at ≡ Some table) (unstamped : table.stamps.formats ≡ [])
    (rows_are : new_rows schema table (small p.names + 0) columns rows ≡ Ok s)
    (key_is : key_meant schema table u.target ≡ Ok (Some table.primary))
    (update_is : do_update schema at table (small p.names + 0) u ≡ Ok (draft_of table.tree base cells))
    (accepted : accepts_program schema [] (updating table.tree base cells) [] ≡ true) where
  abbrev result : Compiled
  result = record { command = InsertOr at Abort s (on_conflict table base cells ∷ []); returning = None; names = p.names; formats = []; start = p.start; end = p.end; tail = p.tail }

  program_is : program.program schema [] (draft_of table.tree base cells) ≡ Ok (update_of table.tree base cells)
  unfolding program.program
  program_is = rw accepted

  updates : update schema at table (small p.names + 0) u ≡ Ok (Some (update_of table.tree base cells))
  unfolding update
  updates = rw (changes, update_is, program_is)

  clause_is : upsert schema at table (small p.names + 0) u ≡ Ok (on_conflict table base cells)
  unfolding upsert
  clause_is = rw (key_is, updates)

  clauses_are : upserts schema at table (small p.names + 0) (u ∷ []) ≡ Ok (on_conflict table base cells ∷ [])
  unfolding upserts
  clauses_are = rw (targeted, clause_is)

  commands : command schema [] (small p.names + 0) p.statement ≡ Ok (InsertOr at Abort s (on_conflict table base cells ∷ []))
  unfolding command insert_or_abort insert_or
  commands = rw (statement_is, named, found, rows_are, clauses_are)

  times : timed schema p.formats p.statement ≡ []
  unfolding timed
  times = rw (statement_is, formats_are, named, found, unstamped)

  shows_none : returning schema (small p.names + 0) p.statement ≡ Ok None
  unfolding returning shows
  shows_none = rw statement_is

  means : meaning schema p (small p.names + 0) ≡ Ok (InsertOr at Abort s (on_conflict table base cells ∷ []), None)
  unfolding meaning
  means = rw (shows_none, formats_are, commands)

  plans : planned schema p ≡ Ok ([], (InsertOr at Abort s (on_conflict table base cells ∷ []), None))
  unfolding planned
  plans = rw (times, means)

  compiles : compiled schema text ≡ Ok result
  unfolding compiled
  compiles = rw (first_is, plans)

  pub upsert_means : StatementMeans schema text (InsertOr at Abort s (on_conflict table base cells ∷ []))
  upsert_means = means_by schema text result (refl, refl) compiles

-- the values that an INSERT gives a table
abbrev pub InsertsRows : Schema → Table → List ℕ → Source → Type 0
InsertsRows schema table text s = new_rows schema table (small (parsed_in (first text)).names + 0) (columns_in (parsed_in (first text)).statement) (rows_in (parsed_in (first text)).statement) ≡ Ok s

-- the columns that ON CONFLICT names are those of the key
abbrev pub NamesKey : Table → List ℕ → Type 0
NamesKey table text = places table (clause_in (parsed_in (first text)).statement).target ≡ Ok table.primary

-- the update sets these cells
abbrev pub Updates : Schema → ℕ → Table → List ℕ → ℕ → List Term → Type 0
Updates schema at table text base cells = do_update schema at table (small (parsed_in (first text)).names + 0) (clause_in (parsed_in (first text)).statement) ≡ Ok (draft_of table.tree base cells)

module _ (schema : Schema) (text : List ℕ) (table : Table) (n : ℕ) (it : IsIn schema table n) (read : IsUpsert text table.name) where
  key_meant_is : HasKey table → NamesKey (at_tree table n) text → key_meant schema (at_tree table n) (clause_in (parsed_in (first text)).statement).target ≡ Ok (Some table.primary)
  unfolding key_meant
  key_meant_is keyed key = rw (read.targeted, key, key_at_is schema table n it keyed)

  pub upserts_mean : table.stamps.formats ≡ [] → HasKey table → (s : Source) → InsertsRows schema (at_tree table n) text s → NamesKey (at_tree table n) text
      → (base : ℕ) (cells : List Term) → Updates schema it.place (at_tree table n) text base cells → accepts_program schema [] (updating n base cells) [] ≡ true
      → StatementMeans schema text (InsertOr it.place Abort s (on_conflict (at_tree table n) base cells ∷ []))
  upserts_mean unstamped keyed s rows key base cells update_is accepted =
      upsert_means schema text (parsed_in (first text)) table.name _ _ (clause_in (parsed_in (first text)).statement) it.place (at_tree table n) s base cells
      read.is read.statement read.formats read.targeted read.changes it.named it.found unstamped rows (key_meant_is keyed key) update_is accepted
