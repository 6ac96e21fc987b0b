-- The meaning of a SELECT of known tables that are joined one after another, in the order of columns, in any schema that has them.
use Rattle.office_ledger.proofs.Names.{◌≡◌, ◌+◌, nat_lt, length, negsuc, ◌∷◌, [], ◌++◌, List, Option, Some, None, Ok, true, false, ℕ, slice_get, refl, sym, ap, ◌∙◌, map, list_all, append_assoc, append-nil, Key, Int, Term, lit, reads_below, Query, Step, Inner, Left, Draft, query_of, Schema, Table, Column, table_named, Expr, Source, Core, out-Core, roll-Core, out-roll-Core, out-Select, roll-Select, out-roll-Select, Carried, Bound, Compiled, Name, Context, conjuncts, nothing, fresh, max_budget, lower, first, accepts_program, StatementMeans, parsed_in, means_by, Holds, at_budget, among, compiled_to, compiles, draft_of, pages_whole}
use Rattle.sqlite_schema.specs.declared.command.Command.TheVariants as command
use Rattle.sqlite_ast.specs.declared.Select.{Select}
use Rattle.sqlite_ast.specs.declared.Statement.TheVariants as written
use Rattle.sqlite_resolve.specs.declared.scope.Output.{Output}
use Rattle.sqlite_resolve.specs.Body as body
use Rattle.sqlite_resolve.specs.Order as order
use Rattle.sqlite_resolve.specs.Program as program
use Rattle.office_ledger.proofs.Qualified.{Pick, AllFound, AreLater, spent, left_by, shown_of, sort_of, outputs_are, sorts_are, outputs_of, keys_of}
use Rattle.office_ledger.proofs.Scoped.{bound_of}
use Rattle.office_ledger.proofs.Sources.{source_of, out_source, bound_is, source_is, left_joined, first_joined, joined_by}

-- ---- the parts of the text

abbrev pub core_of : List Source → List Pick → Option Expr → Core
core_of sources picks filter = roll-Core (record { distinct = false; shown = map shown_of picks; from = sources; filter = filter; group = []; having = None })

abbrev pub select_of : List Source → List Pick → List Pick → Option Expr → Select
select_of sources picks sorts filter = roll-Select (record { with = []; first = core_of sources picks filter; others = []; order = map sort_of sorts; limit = None; offset = None })

-- the grammar reads a text as this: columns of these tables, in the order of these columns
pub record IsWritten (text : List ℕ) (sources : List Source) (picks sorts : List Pick) (filter : Option Expr) : Type 0 where
  pub is : first text ≡ Ok (parsed_in (first text))
  pub statement : (parsed_in (first text)).statement ≡ written.Select (select_of sources picks sorts filter)
  pub formats : (parsed_in (first text)).formats ≡ []

-- ---- the tables of FROM

-- a table that the schema has under a name
pub record KnownTable (schema : Schema) : Type 0 where
  pub name : Name
  pub place : ℕ
  pub table : Table
  pub named : table_named schema name ≡ Some place
  pub found : slice_get schema.tables place ≡ Some table

abbrev pub known_by : {schema : Schema} {name : Name} {columns : List Column} {key : Option ℕ} {tree : ℕ} → Holds schema name columns key tree → KnownTable schema
known_by {schema} {name} h = record { name = name; place = h.place; table = h.table; named = h.named; found = h.found }

-- a table that is joined to those before it: its ON as text and as a compiled term, and the budget that is left after it
pub record Joint (schema : Schema) : Type 0 where
  pub known : KnownTable schema
  pub on : Expr
  pub test : Term
  pub left : ℕ

module _ (schema : Schema) where
  abbrev pub sources_of : List (Joint schema) → List Source
  sources_of [] = []
  sources_of (j ∷ js) = source_of true j.known.name (Some j.on) ∷ sources_of js

  abbrev pub bounds_at : ℕ → List (Joint schema) → List Bound
  bounds_at slot [] = []
  bounds_at slot (j ∷ js) = bound_of j.known.name j.known.place slot ∷ bounds_at (slot + 1) js

  -- the next slot after these tables
  abbrev pub slot_after : ℕ → List (Joint schema) → ℕ
  slot_after slot [] = slot
  slot_after slot (j ∷ js) = slot_after (slot + 1) js

  abbrev pub HaveRoom : ℕ → List (Joint schema) → Type 0
  HaveRoom slot [] = Unit {0}
  HaveRoom slot (j ∷ js) = (nat_lt slot 250 ≡ true) × HaveRoom (slot + 1) js

  abbrev pub steps_after : List Step → List (Joint schema) → List Step
  steps_after done [] = done
  steps_after done (j ∷ js) = steps_after (done ++ Left j.known.table.tree (conjuncts j.test) ∷ []) js

  -- the budget that is left after all ONs, and the collation of the last one
  abbrev pub budget_after : ℕ → List (Joint schema) → ℕ
  budget_after b [] = b
  budget_after b (j ∷ js) = budget_after j.left js

  abbrev pub carried_after : Carried → List (Joint schema) → Carried
  carried_after l [] = l
  carried_after l (j ∷ js) = carried_after nothing js

  bounds_follow : (js : List (Joint schema)) (done : List Bound) (n b : ℕ) (l : Carried) → HaveRoom n js
      → body.bounds_from schema done (sources_of js) (at_budget n b l) ≡ Ok (done ++ bounds_at n js, at_budget (slot_after n js) b l)
  bounds_follow [] done n b l h = ap (λ bs. Ok (bs, at_budget n b l)) (sym (append-nil done))
  bounds_follow (j ∷ js) done n b l h =
      let more = bounds_follow js (done ++ bound_of j.known.name j.known.place n ∷ []) (n + 1) b l h.1 in
      rw (bound_is schema (source_of true j.known.name (Some j.on)) j.known.name true (Some j.on) (out_source true j.known.name (Some j.on)) j.known.place n b l j.known.named h.0)
      (more ∙ ap (λ bs. Ok (bs, at_budget (slot_after (n + 1) js) b l)) (append_assoc done (bound_of j.known.name j.known.place n ∷ []) (bounds_at (n + 1) js)))

  sources_follow : (query : Schema → Select → program.Building program.Shown) (js : List (Joint schema)) (slot : ℕ) → program.sources_from query schema schema slot (sources_of js) [] ≡ Ok (schema, [])
  sources_follow query [] slot = refl
  sources_follow query (j ∷ js) slot =
      let more = sources_follow query js (slot + 1) in
      rw (source_is schema (source_of true j.known.name (Some j.on)) j.known.name true (Some j.on) (out_source true j.known.name (Some j.on)) query schema slot) more

  module _ (bounds : List Bound) (shown : List Output) (next : ℕ) where
    -- each ON is compiled in a scope in which a name is no alias, and it names no table after its own
    abbrev pub AreRead : ℕ → ℕ → Carried → List (Joint schema) → Type 0
    AreRead slot b l [] = Unit {0}
    AreRead slot b l (j ∷ js) =
        (lower (among schema bounds shown false false) j.on (at_budget next b l) ≡ Ok (j.test, at_budget next j.left nothing)) × (list_all (reads_below (slot + 1)) (conjuncts j.test) ≡ true) × AreRead (slot + 1) j.left nothing js

    joins_follow : (js : List (Joint schema)) (done : List Step) (slot b : ℕ) (l : Carried) → AreRead slot b l js
        → body.joins_from lower (among schema bounds shown false true) bounds (record { steps = done; filter = [] }) (bounds_at slot js) (sources_of js) (at_budget next b l)
        ≡ Ok (record { steps = steps_after done js; filter = [] }, at_budget next (budget_after b js) (carried_after l js))
    joins_follow [] done slot b l h = refl
    joins_follow (j ∷ js) done slot b l h =
        let more = joins_follow js (done ++ Left j.known.table.tree (conjuncts j.test) ∷ []) (slot + 1) j.left nothing h.2 in
        rw (joined_by schema bounds shown (record { steps = done; filter = [] }) j.known.name j.known.place slot j.on j.known.table (at_budget next b l) _ j.known.found
        (left_joined schema bounds shown (record { steps = done; filter = [] }) j.known.table.tree slot j.on j.test (at_budget next b l) (at_budget next j.left nothing) h.0 h.1)) more

  -- ---- the whole select: the first table, the joined tables, the columns that are shown, those that give the order, and the test of WHERE

  module _ (head : KnownTable schema) (js : List (Joint schema)) (picks sorts : List Pick) (filter : Option Expr) (tests : List Term) (b : ℕ) (l : Carried) where
    abbrev pub sources : List Source
    sources = source_of false head.name None ∷ sources_of js

    abbrev pub bounds : List Bound
    bounds = bound_of head.name head.place 1 ∷ bounds_at 2 js

    abbrev pub next : ℕ
    next = slot_after 2 js

    abbrev pub steps : List Step
    steps = steps_after (Inner head.table.tree ∷ []) js

    -- the scope of the columns of the result, and that of all other parts
    abbrev pub result_scope : Context
    result_scope = among schema bounds [] true true

    abbrev pub outs : List Output
    outs = outputs_of result_scope [] picks

    abbrev pub scope : Context
    scope = among schema bounds outs false true

    abbrev pub keys : List (Term × Key)
    keys = keys_of scope [] sorts

    -- the budget that is left after the columns of the result are read
    abbrev pub left : ℕ
    left = spent result_scope max_budget picks

    abbrev pub carried : Carried
    carried = left_by result_scope nothing picks

    abbrev pub names : List Name
    names = map (λ (o : Output). o.name) outs

    abbrev pub draft : Draft
    draft = draft_of (steps ++ []) tests outs keys (lit (Int (negsuc 0)))

    abbrev pub query : Query
    query = query_of draft

    abbrev meant_by : List ℕ → Compiled
    meant_by text = compiled_to (record { lets = []; body = query }) outs (parsed_in (first text))

    -- each column is found, each ON and the test of WHERE are compiled, and slots and budget suffice
    pub record IsRead : Type 0 where
      pub few : nat_lt 64 (length sources) ≡ false
      pub room : HaveRoom 2 js
      pub shown : AllFound result_scope max_budget picks
      pub joins : AreRead bounds outs next 2 left carried js
      pub tested : body.tests lower scope [] filter (at_budget next (budget_after left js) (carried_after carried js)) ≡ Ok (tests, at_budget next b l)
      pub sorted : AllFound scope b sorts
      pub later : AreLater scope sorts

    programs : accepts_program schema [] query [] ≡ true → program.program schema [] draft ≡ Ok (record { lets = []; body = query })
    unfolding program.program
    programs h = rw h

    sources_are : (query : Schema → Select → program.Building program.Shown) → program.sources query schema sources [] ≡ Ok (schema, [])
    unfolding program.sources
    sources_are query = rw (source_is schema (source_of false head.name None) head.name false None (out_source false head.name None) query schema 1) (sources_follow query js 2)

    core_is : out-Core (core_of sources picks filter) ≡ record { distinct = false; shown = map shown_of picks; from = sources; filter = filter; group = []; having = None }
    core_is = out-roll-Core (record { distinct = false; shown = map shown_of picks; from = sources; filter = filter; group = []; having = None })

    select_is : out-Select (select_of sources picks sorts filter) ≡ record { with = []; first = core_of sources picks filter; others = []; order = map sort_of sorts; limit = None; offset = None }
    select_is = out-roll-Select (record { with = []; first = core_of sources picks filter; others = []; order = map sort_of sorts; limit = None; offset = None })

    module _ (it : IsRead) where
      bounds_are : body.bounds schema sources (fresh 1 max_budget) ≡ Ok (bounds, at_budget next max_budget nothing)
      unfolding body.bounds
      bounds_are =
          rw (it.few, bound_is schema (source_of false head.name None) head.name false None (out_source false head.name None) head.place 1 max_budget nothing head.named refl)
          (bounds_follow js (bound_of head.name head.place 1 ∷ []) 2 max_budget nothing it.room)

      outputs_is : body.outputs lower result_scope bounds (map shown_of picks) (at_budget next max_budget nothing) ≡ Ok (outs, at_budget next left carried)
      unfolding body.outputs
      outputs_is = outputs_are result_scope bounds [] picks next max_budget nothing it.shown

      joins_are : body.joins lower scope bounds sources (at_budget next left carried) ≡ Ok (record { steps = steps; filter = [] }, at_budget next (budget_after left js) (carried_after carried js))
      unfolding body.joins
      joins_are =
          rw (out_source false head.name None, first_joined schema bounds outs head.name head.place 1 head.table (at_budget next left carried) head.found)
          (joins_follow bounds outs next js (Inner head.table.tree ∷ []) 2 left carried it.joins)

      sorts_is : order.sorts lower scope outs (map sort_of sorts) (at_budget next b l) ≡ Ok (keys, at_budget next (spent scope b sorts) (left_by scope l sorts))
      unfolding order.sorts
      sorts_is = sorts_are scope outs [] sorts next b l it.sorted it.later

      -- the text means its query, if the kinds of its columns are right
      pub means : (text : List ℕ) → IsWritten text sources picks sorts filter → accepts_program schema [] query [] ≡ true → StatementMeans schema text (command.Select (record { lets = []; body = query }) names)
      means text is accepted =
          means_by schema text (meant_by text) (refl, refl)
          (compiles schema (core_of sources picks filter) bounds next steps outs tests (map sort_of sorts) keys (lit (Int (negsuc 0))) left (budget_after left js) b (spent scope b sorts) carried (carried_after carried js) l (left_by scope l sorts)
          (ap (λ c. body.bounds schema c.from (fresh 1 max_budget)) core_is ∙ bounds_are)
          (ap (λ c. body.outputs lower result_scope bounds c.shown (at_budget next max_budget nothing)) core_is ∙ outputs_is)
          (ap (λ c. body.joins lower scope bounds c.from (at_budget next left carried)) core_is ∙ joins_are)
          (ap (λ c. body.tests lower scope [] c.filter (at_budget next (budget_after left js) (carried_after carried js))) core_is ∙ it.tested)
          sorts_is (ap (λ c. c.group) core_is) (ap (λ c. c.having) core_is) (ap (λ c. c.distinct) core_is)
          (select_of sources picks sorts filter) (ap (λ r. r.first) select_is) (ap (λ r. r.order) select_is) (ap (λ r. r.with) select_is) (ap (λ r. r.others) select_is) (pages_whole schema (select_of sources picks sorts filter) (ap (λ r. r.limit) select_is) (ap (λ r. r.offset) select_is))
          (λ query. ap (λ c. program.sources query schema c.from []) core_is ∙ sources_are query)
          text (parsed_in (first text)) (record { lets = []; body = query }) is.is is.statement is.formats (programs accepted))
