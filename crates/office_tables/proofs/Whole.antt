-- A SELECT over known tables, one or several that are joined, in any schema that has them.
use Rattle.office_tables.proofs.Names.{◌≡◌, ◌∷◌, [], ◌++◌, ◌+◌, List, Ok, None, false, true, Bool, ℕ, negsuc, suc, map, Option, refl, Collation, Key, Int, Term, lit, Expr, Schema, Command, Program, Core, out-Core, out-Select, Sort, Parsed, Step, Draft, chain, Carried, Bound, Body, Clauses, Name, Context, number, fresh, max_budget, lower, first, planned, meaning, returning, read, small}
use Rattle.sqlite_schema.specs.declared.command.Command.TheVariants as command
use Rattle.sqlite_ast.specs.declared.Select.{Select}
use Rattle.sqlite_ast.specs.declared.Statement.TheVariants as written
use Rattle.sqlite_resolve.specs.declared.state.State.{State}
use Rattle.sqlite_resolve.specs.declared.scope.Output.{Output}
use Rattle.sqlite_resolve.specs.declared.compiled.Compiled.{Compiled}
use Rattle.sqlite_resolve.specs.Lowering.{nothing}
use Rattle.sqlite_resolve.specs.Body as body
use Rattle.sqlite_resolve.specs.Order as order
use Rattle.sqlite_resolve.specs.Select as select
use Rattle.sqlite_resolve.specs.Program as program
use Rattle.sqlite_resolve.specs.Compile.{compiled, timed}
use Rattle.sqlite_resolve.specs.Compile as compile

-- the state while a SELECT is read: the next slot, the budget that is left, and the collation of the last expression
abbrev pub at_budget : ℕ → ℕ → Carried → State
at_budget next budget last = record { next = next; steps = []; aggregates = []; budget = budget; written = None; last = last }

-- a scope of these tables
abbrev pub among : Schema → List Bound → List Output → Bool → Bool → Context
among schema bounds shown may_aggregate may_alias = record { schema = schema; levels = record { tables = bounds; shown = shown } ∷ []; may_aggregate = may_aggregate; may_alias = may_alias }

-- the draft of a SELECT over known tables
abbrev pub draft_of : List Step → List Term → List Output → List (Term × Key) → Term → Draft
draft_of steps filter shown keys limit = record {
  from = chain steps;
  filter = filter;
  group = None;
  project = map (λ (o : Output). o.term) shown;
  distinct = false;
  collations = [];
  order = keys;
  limit = limit;
  offset = number 0;
}

-- the compiled form of the text of such a SELECT
abbrev pub compiled_to : Program → List Output → Parsed → Compiled
compiled_to q shown p = record {
  command = command.Select q (map (λ (o : Output). o.name) shown);
  returning = None;
  names = p.names;
  formats = [];
  start = p.start;
  end = p.end;
  tail = p.tail;
}

no_offset : (schema : Schema) → select.constant_or schema (number 0) None ≡ Ok (number 0)
unfolding select.constant_or
no_offset schema = refl

pub pages_by : (schema : Schema) (s : Select) (cap : Option Expr) (limit : Term) → (out-Select s).limit ≡ cap → (out-Select s).offset ≡ None
    → select.constant_or schema (lit (Int (negsuc 0))) cap ≡ Ok limit → select.paging schema s ≡ Ok (limit, number 0)
unfolding select.paging
pages_by schema s cap limit capped unoffset counts = rw (capped, counts, unoffset, no_offset schema)

-- without a LIMIT
pub pages_whole : (schema : Schema) (s : Select) → (out-Select s).limit ≡ None → (out-Select s).offset ≡ None → select.paging schema s ≡ Ok (lit (Int (negsuc 0)), number 0)
unfolding select.paging select.constant_or
pages_whole schema s unlimited unoffset = rw (unlimited, unoffset)

module _ (schema : Schema) (core : Core) (bounds : List Bound) (n : ℕ) (steps : List Step) (shown : List Output) (filter : List Term) (by_order : List Sort) (keys : List (Term × Key)) (limit : Term) (b₁ b₂ b₃ b₄ : ℕ) (l₁ l₂ l₃ l₄ : Carried)
    (bounds_are : body.bounds schema (out-Core core).from (fresh 1 max_budget) ≡ Ok (bounds, at_budget n max_budget nothing))
    (outputs_are : body.outputs lower (among schema bounds [] true true) bounds (out-Core core).shown (at_budget n max_budget nothing) ≡ Ok (shown, at_budget n b₁ l₁))
    (joins_are : body.joins lower (among schema bounds shown false true) bounds (out-Core core).from (at_budget n b₁ l₁) ≡ Ok (record { steps = steps; filter = [] }, at_budget n b₂ l₂))
    (filter_is : body.tests lower (among schema bounds shown false true) [] (out-Core core).filter (at_budget n b₂ l₂) ≡ Ok (filter, at_budget n b₃ l₃))
    (sorts_are : order.sorts lower (among schema bounds shown false true) shown by_order (at_budget n b₃ l₃) ≡ Ok (keys, at_budget n b₄ l₄))
    (ungrouped : (out-Core core).group ≡ []) (unhaving : (out-Core core).having ≡ None) (undistinct : (out-Core core).distinct ≡ false) where
  abbrev whole_body : Body
  whole_body = record { level = record { tables = bounds; shown = shown }; steps = steps; filter = filter }

  matching_is : body.matching lower (select.outermost schema) (record { tables = bounds; shown = shown }) core (at_budget n b₁ l₁) ≡ Ok (record { steps = steps; filter = filter }, at_budget n b₃ l₃)
  unfolding body.matching
  matching_is = rw (joins_are, filter_is)

  body_is : body.body lower (select.outermost schema) core (fresh 1 max_budget) ≡ Ok (whole_body, at_budget n b₃ l₃)
  unfolding body.body body.result
  body_is = rw (bounds_are, outputs_are, matching_is)

  having_is : (s : State) → select.having (among schema bounds shown false true) (out-Core core).having s ≡ Ok ([], s)
  unfolding select.having body.tests
  having_is s = rw unhaving

  keys_are : (s : State) → order.keys lower (among schema bounds shown false true) shown (out-Core core).group s ≡ Ok (([], []), s)
  unfolding order.keys
  keys_are s = rw ungrouped

  abbrev clauses : Clauses
  clauses = record { body = whole_body; is_grouped = false; keys = []; collations = []; having = []; order = keys }

  parts_are : select.parts schema core by_order (fresh 1 max_budget) ≡ Ok (clauses, at_budget n b₄ l₄)
  unfolding select.parts
  parts_are = rw (body_is, keys_are (at_budget n b₃ l₃), ungrouped, having_is (at_budget n b₃ l₃), sorts_are)

  abbrev draft : Draft
  draft = draft_of (steps ++ []) filter shown keys limit

  abbrev answer : Draft × List Name × List (Option Collation)
  answer = (draft, map (λ (o : Output). o.name) shown, map (λ (o : Output). o.carried.collation) shown)

  named_is : select.named schema core by_order (limit, number 0) ≡ Ok answer
  unfolding select.named select.assembled select.ungrouped
  named_is = rw (parts_are, undistinct)

  -- the SELECT uses no view, no part of a compound and no table of WITH
  module _ (s : Select) (core_is : (out-Select s).first ≡ core) (order_is : (out-Select s).order ≡ by_order) (unlet : (out-Select s).with ≡ []) (uncompound : (out-Select s).others ≡ [])
      (pages : select.paging schema s ≡ Ok (limit, number 0))
      (sources_are : (query : Schema → Select → program.Building program.Shown) → program.sources query schema (out-Core core).from [] ≡ Ok (schema, [])) where
    viewed : (query : Schema → Select → program.Building program.Shown) (d : ℕ) → program.viewing query schema core by_order (limit, number 0) (suc d) schema [] ≡ Ok ((answer, schema), [])
    unfolding program.viewing
    viewed query d = rw named_is

    alone_is : (query : Schema → Select → program.Building program.Shown) → program.alone query schema core by_order (limit, number 0) [] ≡ Ok (answer, [])
    unfolding program.alone program.single
    alone_is query = rw (sources_are query, viewed query 63)

    whole_is : (query : Schema → Select → program.Building program.Shown) → program.whole query schema s [] ≡ Ok (answer, [])
    unfolding program.whole
    whole_is query = rw (pages, uncompound, core_is, order_is, alone_is query)

    level_is : (query : Schema → Select → program.Building program.Shown) → program.level query schema s [] ≡ Ok (answer, [])
    unfolding program.level program.with
    level_is query = rw (unlet, whole_is query)

    to_is : (d : ℕ) → program.query_to (suc d) schema s [] ≡ Ok (answer, [])
    unfolding program.query_to
    to_is d = level_is (program.query_to d)

    query_is : program.query schema s ≡ Ok (answer, [])
    unfolding program.query
    query_is = to_is 15

    module _ (text : List ℕ) (p : Parsed) (q : Program) (first_is : first text ≡ Ok p) (statement_is : p.statement ≡ written.Select s) (untimed : p.formats ≡ []) (program_is : program.program schema [] draft ≡ Ok q) where
      abbrev meant : Command
      meant = (compiled_to q shown p).command

      abbrev result : Compiled
      result = compiled_to q shown p

      reads : read schema s ≡ Ok meant
      unfolding read
      reads = rw (query_is, program_is)

      commands : compile.command schema [] (small p.names + 0) p.statement ≡ Ok meant
      unfolding compile.command
      commands = rw (statement_is, reads)

      times : timed schema p.formats p.statement ≡ []
      unfolding timed
      times = rw (statement_is, untimed)

      shows_none : returning schema (small p.names + 0) p.statement ≡ Ok None
      unfolding returning
      shows_none = rw statement_is

      means : meaning schema p (small p.names + 0) ≡ Ok (meant, None)
      unfolding meaning
      means = rw (shows_none, untimed, commands)

      plans : planned schema p ≡ Ok ([], (meant, None))
      unfolding planned
      plans = rw (times, means)

      pub compiles : compiled schema text ≡ Ok result
      unfolding compiled
      compiles = rw (first_is, plans)
