-- The select of the ledger means its query, in any schema that has the four tables.
use Rattle.office_ledger.proofs.Names.{◌≡◌, ◌∷◌, [], List, Some, None, Ok, Bool, true, false, ℕ, suc, codes, refl, sym, subst, col, Query, Schema, Column, Integer, same_name, Expr, Source, Name, Context, nothing, max_budget, lower, first, returning, accepts_program, everything, column_of, StatementMeans, parsed_in, Trees4, equals, list_joined, joined_query, HoldsFour, at_budget, among}
use Rattle.sqlite_schema.specs.declared.schema.Kind.TheVariants.{Text}
use Rattle.sqlite_schema.specs.declared.command.Command.TheVariants as command
use Rattle.sqlite_resolve.specs.declared.scope.Output.{Output}
use Rattle.sqlite_resolve.specs.Body as body
use Rattle.office_ledger.proofs.Qualified.{Pick, Finds, AllFound, plainly, equals_e, equal_is, outputs_of}
use Rattle.office_ledger.proofs.Scoped.{four_bounds, line_of_four, lot_of_four, contract_of_four, contract_key_of_four, entry_of_four}
use Rattle.office_ledger.proofs.Sources.{source_of}
use Rattle.office_ledger.proofs.JoinedSelect.{IsWritten, KnownTable, Joint, known_by, IsRead, query, means}
use Rattle.office_ledger.proofs.JoinedColumns.{lot_line, lot_picks, lot_sorts, on_lot, on_contract, lot_joints, FindsLots, finds_lots, lot_lowers, contract_lowers}

-- ---- the columns that the text names

abbrev pub line_pick : List ℕ → ℕ → Column → Pick
line_pick text k c = record { table = codes "lines"; text = text; slot = 1; place = k; row = suc k; column = c }

abbrev pub line_line : Pick
line_line = line_pick (codes "lines.line") 0 (column_of (codes "line") Text true)

abbrev pub line_appropriation : Pick
line_appropriation = line_pick (codes "lines.appropriation") 2 (column_of (codes "appropriation") Integer true)

abbrev pub line_free : Pick
line_free = line_pick (codes "lines.free") 3 (column_of (codes "free") Integer true)

abbrev pub picks : List Pick
picks = line_line ∷ line_appropriation ∷ line_free ∷ lot_picks 2

abbrev pub sorts : List Pick
sorts = line_line ∷ lot_sorts 2

-- ---- the parts of the text

abbrev pub on_line : Expr
on_line = equals_e (lot_line 2) line_line

abbrev pub sources : List Source
sources = source_of false (codes "lines") None ∷ source_of true (codes "lots") (Some on_line) ∷ source_of true (codes "contracts") (Some (on_lot 2)) ∷ source_of true (codes "entries") (Some (on_contract 2)) ∷ []

pub joined_written : IsWritten list_joined sources picks sorts None
unfolding everything parsed_in
joined_written = record { is = refl; statement = refl; formats = refl }

-- a SELECT has no RETURNING
pub returns_none : (schema : Schema) (base : ℕ) → returning schema base (parsed_in (first list_joined)).statement ≡ Ok None
unfolding returning
returns_none schema base = rw joined_written.statement

abbrev pub joined_names : List Name
joined_names =
    codes "line" ∷ codes "appropriation" ∷ codes "free" ∷ codes "notice" ∷ codes "lot" ∷ codes "reserved" ∷ codes "contract" ∷ codes "signed" ∷ codes "released" ∷ codes "entry" ∷ codes "kind" ∷ codes "amount" ∷ []

-- ---- in a schema that has the four tables

module _ (schema : Schema) (at : Trees4) (four : HoldsFour schema at) where
  abbrev scope : List Output → Bool → Bool → Context
  scope = among schema (four_bounds schema at four)

  -- ---- the columns, in each scope

  module _ (shown : List Output) (may alias : Bool) where
    abbrev cx : Context
    cx = scope shown may alias

    f_line_line : Finds cx line_line
    unfolding same_name
    f_line_line = line_of_four schema at four shown may alias (codes "lines.line") 0 (column_of (codes "line") Text true) (refl, refl, refl)

    f_line_appropriation : Finds cx line_appropriation
    unfolding same_name
    f_line_appropriation = line_of_four schema at four shown may alias (codes "lines.appropriation") 2 (column_of (codes "appropriation") Integer true) (refl, refl, refl)

    f_line_free : Finds cx line_free
    unfolding same_name
    f_line_free = line_of_four schema at four shown may alias (codes "lines.free") 3 (column_of (codes "free") Integer true) (refl, refl, refl)

    lots_found : FindsLots 2 cx
    lots_found = finds_lots 2 cx (lot_of_four schema at four shown may alias) (contract_of_four schema at four shown may alias) (contract_key_of_four schema at four shown may alias) (entry_of_four schema at four shown may alias)

    picks_found : AllFound cx max_budget picks
    picks_found = (f_line_line, refl, (f_line_appropriation, refl, (f_line_free, refl, (lots_found.notice, refl, (lots_found.lot, refl, (lots_found.reserved, refl, (lots_found.contract, refl, (lots_found.signed, refl, (lots_found.released, refl, (lots_found.entry, refl, (lots_found.kind, refl, (lots_found.amount, refl, tt))))))))))))

    sorts_found : AllFound cx 99975 sorts
    sorts_found = (f_line_line, refl, (lots_found.notice, refl, (lots_found.lot, refl, (lots_found.contract, refl, (lots_found.entry, refl, tt)))))

  abbrev outs : List Output
  outs = outputs_of (scope [] true true) [] picks

  -- ---- the lots of a line; in ON a name is no alias

  abbrev on_scope : Context
  on_scope = scope outs false false

  line_lowers : lower on_scope on_line (at_budget 5 99988 plainly) ≡ Ok (equals (col 2 4) (col 1 1), at_budget 5 99985 nothing)
  line_lowers = equal_is on_scope (lot_line 2) line_line (lots_found outs false false).line (f_line_line outs false false) refl 698 5 99988 plainly refl refl refl

  untested : body.tests lower (scope outs false true) [] None (at_budget 5 99975 nothing) ≡ Ok ([], at_budget 5 99975 nothing)
  unfolding body.tests
  untested = refl

  -- ---- the whole text

  abbrev head : KnownTable schema
  head = known_by four.lines

  abbrev joints : List (Joint schema)
  joints = record { known = known_by four.lots; on = on_line; test = equals (col 2 4) (col 1 1); left = 99985 } ∷ lot_joints 2 schema at four 99978 99975

  is_read : IsRead schema head joints picks sorts None [] 99975 nothing
  is_read = record {
    few = refl;
    room = (refl, (refl, (refl, tt)));
    shown = picks_found [] true true;
    joins = (
      line_lowers,
      refl,
      (
        lot_lowers 2 on_scope (lots_found outs false false) 5 99985 nothing refl refl refl refl refl refl refl,
        refl,
        (contract_lowers 2 on_scope (lots_found outs false false) 5 99978 nothing refl refl refl, refl, tt),
      ),
    );
    tested = untested;
    sorted = sorts_found outs false true;
    later = (refl, (refl, (refl, (refl, (refl, tt)))));
  }

  accepted : accepts_program schema [] (joined_query at) [] ≡ true
  accepted = rw (
    four.lines.stored,
    four.lines.alone,
    four.lines.columns_are,
    four.lots.stored,
    four.lots.alone,
    four.lots.columns_are,
    four.contracts.stored,
    four.contracts.alone,
    four.contracts.columns_are,
    four.entries.stored,
    four.entries.alone,
    four.entries.columns_are,
  )

  -- the trees are those of the four tables
  query_is : query schema head joints picks sorts None [] 99975 nothing ≡ joined_query at
  query_is = λ i. joined_query (record { lines = four.lines.tree_is i; lots = four.lots.tree_is i; contracts = four.contracts.tree_is i; entries = four.entries.tree_is i })

  pub joined_means : StatementMeans schema list_joined (command.Select (record { lets = []; body = joined_query at }) joined_names)
  joined_means =
      subst (λ (q : Query). StatementMeans schema list_joined (command.Select (record { lets = []; body = q }) joined_names)) query_is
      (means schema head joints picks sorts None [] 99975 nothing is_read list_joined joined_written (subst (λ (q : Query). accepts_program schema [] q [] ≡ true) (sym query_is) accepted))
