-- The select over the lots of a line means its query, in any schema that has the four tables.
use Rattle.office_ledger.proofs.Names.{◌≡◌, ◌∷◌, [], List, Some, None, Ok, Bool, true, false, codes, refl, sym, subst, col, Query, Schema, Expr, Source, Name, Context, nothing, max_budget, lower, accepts_program, everything, StatementMeans, parsed_in, Trees4, equals, list_joined_of_line, is_of_line, lots_query, HoldsFour, at_budget, among}
use Rattle.sqlite_schema.specs.declared.command.Command.TheVariants as command
use Rattle.sqlite_resolve.specs.declared.scope.Output.{Output}
use Rattle.sqlite_resolve.specs.Body as body
use Rattle.office_ledger.proofs.Qualified.{AllFound, plainly, given_e, given_is, outputs_of}
use Rattle.office_ledger.proofs.Scoped.{three_bounds, lot_of_three, contract_of_three, contract_key_of_three, entry_of_three}
use Rattle.office_ledger.proofs.Sources.{source_of}
use Rattle.office_ledger.proofs.JoinedSelect.{IsWritten, KnownTable, Joint, known_by, IsRead, query, means}
use Rattle.office_ledger.proofs.JoinedColumns.{lot_line, lot_picks, lot_sorts, on_lot, on_contract, lot_joints, FindsLots, finds_lots, lot_lowers, contract_lowers}

-- ---- the parts of the text

abbrev pub where_line : Expr
where_line = given_e (lot_line 1) 1

abbrev pub sources : List Source
sources = source_of false (codes "lots") None ∷ source_of true (codes "contracts") (Some (on_lot 1)) ∷ source_of true (codes "entries") (Some (on_contract 1)) ∷ []

lots_written : IsWritten list_joined_of_line sources (lot_picks 1) (lot_sorts 1) (Some where_line)
unfolding everything parsed_in
lots_written = record { is = refl; statement = refl; formats = refl }

abbrev pub lots_names : List Name
lots_names = codes "notice" ∷ codes "lot" ∷ codes "reserved" ∷ codes "contract" ∷ codes "signed" ∷ codes "released" ∷ codes "entry" ∷ codes "kind" ∷ codes "amount" ∷ []

-- ---- in a schema that has the tables

module _ (schema : Schema) (at : Trees4) (four : HoldsFour schema at) where
  abbrev scope : List Output → Bool → Bool → Context
  scope = among schema (three_bounds schema at four)

  -- ---- the columns, in each scope

  module _ (shown : List Output) (may alias : Bool) where
    abbrev cx : Context
    cx = scope shown may alias

    lots_found : FindsLots 1 cx
    lots_found = finds_lots 1 cx (lot_of_three schema at four shown may alias) (contract_of_three schema at four shown may alias) (contract_key_of_three schema at four shown may alias) (entry_of_three schema at four shown may alias)

    picks_found : AllFound cx max_budget (lot_picks 1)
    picks_found = (lots_found.notice, refl, (lots_found.lot, refl, (lots_found.reserved, refl, (lots_found.contract, refl, (lots_found.signed, refl, (lots_found.released, refl, (lots_found.entry, refl, (lots_found.kind, refl, (lots_found.amount, refl, tt)))))))))

    sorts_found : AllFound cx 99978 (lot_sorts 1)
    sorts_found = (lots_found.notice, refl, (lots_found.lot, refl, (lots_found.contract, refl, (lots_found.entry, refl, tt))))

  abbrev outs : List Output
  outs = outputs_of (scope [] true true) [] (lot_picks 1)

  -- ---- the test of WHERE

  line_lowers : lower (scope outs false true) where_line (at_budget 4 99981 nothing) ≡ Ok (equals (col 1 4) (col 0 0), at_budget 4 99978 nothing)
  line_lowers = given_is (scope outs false true) (lot_line 1) (lots_found outs false true).line refl 698 4 99981 nothing refl refl refl

  tests_are : body.tests lower (scope outs false true) [] (Some where_line) (at_budget 4 99981 nothing) ≡ Ok (is_of_line, at_budget 4 99978 nothing)
  unfolding body.tests
  tests_are = rw line_lowers

  -- ---- the whole text

  -- in ON a name is no alias
  abbrev on_scope : Context
  on_scope = scope outs false false

  abbrev head : KnownTable schema
  head = known_by four.lots

  abbrev joints : List (Joint schema)
  joints = lot_joints 1 schema at four 99984 99981

  is_read : IsRead schema head joints (lot_picks 1) (lot_sorts 1) (Some where_line) is_of_line 99978 nothing
  is_read = record {
    few = refl;
    room = (refl, (refl, tt));
    shown = picks_found [] true true;
    joins = (
      lot_lowers 1 on_scope (lots_found outs false false) 4 99991 plainly refl refl refl refl refl refl refl,
      refl,
      (contract_lowers 1 on_scope (lots_found outs false false) 4 99984 nothing refl refl refl, refl, tt),
    );
    tested = tests_are;
    sorted = sorts_found outs false true;
    later = (refl, (refl, (refl, (refl, tt))));
  }

  accepted : accepts_program schema [] (lots_query at) [] ≡ true
  accepted = rw (
    four.lots.stored,
    four.lots.alone,
    four.lots.columns_are,
    four.contracts.stored,
    four.contracts.alone,
    four.contracts.columns_are,
    four.entries.stored,
    four.entries.alone,
    four.entries.columns_are,
  )

  -- the trees are those of the four tables
  query_is : query schema head joints (lot_picks 1) (lot_sorts 1) (Some where_line) is_of_line 99978 nothing ≡ lots_query at
  query_is = λ i. lots_query (record { lines = four.lines.tree_is i; lots = four.lots.tree_is i; contracts = four.contracts.tree_is i; entries = four.entries.tree_is i })

  pub lots_mean : StatementMeans schema list_joined_of_line (command.Select (record { lets = []; body = lots_query at }) lots_names)
  lots_mean =
      subst (λ (q : Query). StatementMeans schema list_joined_of_line (command.Select (record { lets = []; body = q }) lots_names)) query_is
      (means schema head joints (lot_picks 1) (lot_sorts 1) (Some where_line) is_of_line 99978 nothing is_read list_joined_of_line lots_written (subst (λ (q : Query). accepts_program schema [] q [] ≡ true) (sym query_is) accepted))
