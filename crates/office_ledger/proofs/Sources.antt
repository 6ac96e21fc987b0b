-- The sources of a SELECT that joins known tables.
use Rattle.office_ledger.proofs.Names.{◌≡◌, ◌+◌, nat_lt, ◌∷◌, [], ◌++◌, List, Option, Some, None, Ok, Bool, true, false, ℕ, slice_get, list_all, Term, reads_below, Schema, Table, table_named, Expr, Source, out-Source, roll-Source, out-roll-Source, Inner, Left, Carried, Bound, Joined, Name, conjuncts, Checked, take_slot, lower, at_budget, among}
use Rattle.sqlite_ast.specs.declared.Origin.TheVariants as origin
use Rattle.sqlite_ast.specs.declared.Select.{Select}
use Rattle.sqlite_resolve.specs.declared.state.State.{State}
use Rattle.sqlite_resolve.specs.declared.scope.Output.{Output}
use Rattle.sqlite_resolve.specs.Body as body
use Rattle.sqlite_resolve.specs.Program as program
use Rattle.office_ledger.proofs.Scoped.{bound_of}

-- ---- the parts of the text

abbrev pub source_of : Bool → Name → Option Expr → Source
source_of is_left name on = roll-Source (record { is_left = is_left; origin = origin.Table name; alias = None; on = on; using = [] })

pub out_source : (is_left : Bool) (name : Name) (on : Option Expr) → out-Source (source_of is_left name on) ≡ record { is_left = is_left; origin = origin.Table name; alias = None; on = on; using = [] }
out_source is_left name on = out-roll-Source (record { is_left = is_left; origin = origin.Table name; alias = None; on = on; using = [] })

-- ---- the tables of FROM

module _ (schema : Schema) (s : Source) (name : Name) (is_left : Bool) (on : Option Expr) (is : out-Source s ≡ record { is_left = is_left; origin = origin.Table name; alias = None; on = on; using = [] }) where
  pub bound_is : (at : ℕ) (n b : ℕ) (l : Carried) → table_named schema name ≡ Some at → nat_lt n 250 ≡ true
      → body.bound schema s (at_budget n b l) ≡ Ok (record { name = name; table = at; slot = n; shared = [] }, at_budget (n + 1) b l)
  unfolding body.bound body.table_in take_slot
  bound_is at n b l named room = rw (room, is, named)

  pub source_is : (query : Schema → Select → program.Building program.Shown) (outer : Schema) (slot : ℕ) → program.source query outer schema slot (out-Source s).origin [] ≡ Ok (schema, [])
  unfolding program.source
  source_is query outer slot = rw is

-- ---- the joins, one after another

module _ (schema : Schema) (bounds : List Bound) (shown : List Output) where
  pub left_joined : (done : Joined) (tree slot : ℕ) (on : Expr) (t : Term) (s₁ s₂ : State) → lower (among schema bounds shown false false) on s₁ ≡ Ok (t, s₂) → list_all (reads_below (slot + 1)) (conjuncts t) ≡ true
      → body.left_join lower (among schema bounds shown false true) done tree slot [] (Some on) s₁ ≡ Ok (record done { steps = done.steps ++ Left tree (conjuncts t) ∷ [] }, s₂)
  unfolding body.left_join body.tests
  left_joined done tree slot on t s₁ s₂ low below = rw (low, below)

  pub first_joined : (name : Name) (place slot : ℕ) (table : Table) (s : State) → slice_get schema.tables place ≡ Some table
      → body.join lower (among schema bounds shown false true) bounds (record { steps = []; filter = [] }) (bound_of name place slot) (source_of false name None) s ≡ Ok (record { steps = Inner table.tree ∷ []; filter = [] }, s)
  unfolding body.join body.shared body.inner_join body.tests
  first_joined name place slot table s found = rw (found, out_source false name None)

  pub joined_by : (done : Joined) (name : Name) (place slot : ℕ) (on : Expr) (table : Table) (s₁ : State) (r : Checked (Joined × State)) → slice_get schema.tables place ≡ Some table
      → body.left_join lower (among schema bounds shown false true) done table.tree slot [] (Some on) s₁ ≡ r
      → body.join lower (among schema bounds shown false true) bounds done (bound_of name place slot) (source_of true name (Some on)) s₁ ≡ r
  unfolding body.join body.shared
  joined_by done name place slot on table s₁ r found left = rw (found, out_source true name (Some on)) left
