-- DELETE of the rows of one key, under a schema of which only its table is known.
use Rattle.office_tables.proofs.Names.{◌≡◌, ◌∷◌, [], ◌+◌, List, Ok, None, Option, refl, ℕ, true, Schema, Table, Delete, Program, Expr, Parsed, Carried, max_budget, lower, first, planned, meaning, returning, shows, command, delete, small, accepts_program, IsIn, at_tree}
use Rattle.sqlite_ast.specs.declared.Statement.TheVariants as written
use Rattle.sqlite_resolve.specs.declared.compiled.Compiled.{Compiled}
use Rattle.sqlite_resolve.specs.Lowering.{nothing}
use Rattle.sqlite_resolve.specs.Body as body
use Rattle.sqlite_resolve.specs.Program as program
use Rattle.sqlite_resolve.specs.Write as write
use Rattle.sqlite_resolve.specs.Compile.{compiled, timed}
use Rattle.office_tables.proofs.Whole.{at_budget}
use Rattle.office_tables.proofs.Simple.{scope}
use Rattle.office_tables.proofs.Meanings.{StatementMeans, means_by}
use Rattle.office_tables.proofs.Selecting.{select}

-- the parts that the grammar finds in the text
pub record IsDelete (text name : List ℕ) (test : Option Expr) (p : Parsed) : Type 0 where
  pub is : first text ≡ Ok p
  pub statement : p.statement ≡ written.Delete name test []
  pub formats : p.formats ≡ []

module _ (schema : Schema) (table : Table) (n : ℕ) (it : IsIn schema table n) (unstamped : table.stamps.formats ≡ []) (text : List ℕ) (test : Option Expr) (p : Parsed) (read : IsDelete text table.name test p) (tests : List ℕ) (b : ℕ) (l : Carried)
    (tests_are : body.tests lower (scope schema it.place (at_tree table n) it.found table.name []) [] test (at_budget 2 max_budget nothing) ≡ Ok ((select n tests (0 ∷ []) []).filter, at_budget 2 b l))
    (accepted : accepts_program schema [] (select n tests (0 ∷ []) []) [] ≡ true) where
  abbrev found_rows : Program
  found_rows = record { lets = []; body = select n tests (0 ∷ []) [] }

  abbrev result : Compiled
  result = record { command = Delete it.place found_rows; returning = None; names = p.names; formats = []; start = p.start; end = p.end; tail = p.tail }

  deletes : delete schema table.name test ≡ Ok (Delete it.place found_rows)
  unfolding delete write.deleted write.picked program.program
  deletes = rw (it.named, it.found, tests_are, accepted)

  commands : command schema [] (small p.names + 0) p.statement ≡ Ok (Delete it.place found_rows)
  unfolding command
  commands = rw (read.statement, deletes)

  times : timed schema p.formats p.statement ≡ []
  unfolding timed
  times = rw (read.statement, read.formats)

  shows_none : returning schema (small p.names + 0) p.statement ≡ Ok None
  unfolding returning shows
  shows_none = rw read.statement

  means : meaning schema p (small p.names + 0) ≡ Ok (Delete it.place found_rows, None)
  unfolding meaning
  means = rw (shows_none, read.formats, commands)

  plans : planned schema p ≡ Ok ([], (Delete it.place found_rows, None))
  unfolding planned
  plans = rw (times, means)

  compiles : compiled schema text ≡ Ok result
  unfolding compiled
  compiles = rw (read.is, plans)

  pub delete_means : StatementMeans schema text (Delete it.place found_rows)
  delete_means = means_by schema text result (refl, refl) compiles
