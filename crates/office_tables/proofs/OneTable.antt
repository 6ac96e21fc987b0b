-- The FROM of a SELECT over one known table, in any schema that has it.
use Rattle.office_tables.proofs.Names.{◌≡◌, ◌∷◌, [], List, Ok, None, Some, false, Bool, ℕ, slice_get, Schema, Table, table_named, out-Source, Core, out-Core, Inner, Bound, Name, Context, fresh, max_budget, take_slot, lower}
use Rattle.sqlite_ast.specs.declared.Origin.TheVariants as origin
use Rattle.sqlite_ast.specs.declared.Source.{Source}
use Rattle.sqlite_ast.specs.declared.Select.{Select}
use Rattle.sqlite_resolve.specs.declared.state.State.{State}
use Rattle.sqlite_resolve.specs.declared.scope.Output.{Output}
use Rattle.sqlite_resolve.specs.Lowering.{nothing}
use Rattle.sqlite_resolve.specs.Body as body
use Rattle.sqlite_resolve.specs.Program as program
use Rattle.office_tables.proofs.Whole.{at_budget}
use Rattle.office_tables.proofs.LoweredColumns.{here, among_one}

module _ (schema : Schema) (at : ℕ) (table : Table) (found : slice_get schema.tables at ≡ Some table) (name : Name) (named : table_named schema name ≡ Some at)
    (core : Core) (source : Source) (from_is : (out-Core core).from ≡ source ∷ []) (origin_is : (out-Source source).origin ≡ origin.Table name)
    (unaliased : (out-Source source).alias ≡ None) (unshared : (out-Source source).using ≡ []) (unjoined : (out-Source source).is_left ≡ false) (untested : (out-Source source).on ≡ None) where
  abbrev place : Bound
  place = here schema at table found name

  abbrev scope : List Output → Bool → Context
  scope = among_one schema at table found name

  pub bounds_are : body.bounds schema (out-Core core).from (fresh 1 max_budget) ≡ Ok (place ∷ [], at_budget 2 max_budget nothing)
  unfolding body.bounds body.bound body.table_in take_slot
  bounds_are = rw (from_is, origin_is, named, unaliased, unshared)

  pub joins_are : (shown : List Output) (s : State) → body.joins lower (scope shown false) (place ∷ []) (out-Core core).from s ≡ Ok (record { steps = Inner table.tree ∷ []; filter = [] }, s)
  unfolding body.joins body.join body.shared body.inner_join body.tests
  joins_are shown s = rw (from_is, untested, unshared, found, unjoined)

  pub sources_are : (query : Schema → Select → program.Building program.Shown) → program.sources query schema (out-Core core).from [] ≡ Ok (schema, [])
  unfolding program.sources program.source
  sources_are query = rw (from_is, origin_is)
