-- The select that joins the lots of one line with their contracts and entries, and shows them in the order of their keys.
use Rattle.std.specs.Prelude.{ℕ, List, [], ◌∷◌, codes, None, false, pos, negsuc}
use Rattle.sqlite_value.specs.declared.value.Value.TheVariants.{Int}
use Rattle.sqlite_value.specs.declared.keys.Collation.TheVariants.{Binary}
use Rattle.sqlite_value.specs.Keys.{ascending}
use Rattle.sqlite_sql.specs.Term.{Term, lit, col}
use Rattle.sqlite_sql.specs.Query.{Query, Join, inner, left, end}
use Rattle.office_ledger.specs.Select.{Trees4, equals}

abbrev pub list_joined_of_line : List ℕ
list_joined_of_line = codes "SELECT lots.notice, lots.lot, lots.reserved, contracts.contract, contracts.signed, contracts.released, entries.entry, entries.kind, entries.amount FROM lots LEFT JOIN contracts ON contracts.notice = lots.notice AND contracts.lot = lots.lot LEFT JOIN entries ON entries.contract = contracts.contract WHERE lots.line = ?1 ORDER BY lots.notice, lots.lot, contracts.contract, entries.entry"

-- the conditions: lots of the line, contracts of the lot, entries of the contract
abbrev pub is_of_line : List Term
is_of_line = equals (col 1 4) (col 0 0) ∷ []

abbrev pub of_its_lot : List Term
of_its_lot = equals (col 2 2) (col 1 1) ∷ equals (col 2 3) (col 1 2) ∷ []

abbrev pub of_its_contract : List Term
of_its_contract = equals (col 3 1) (col 2 0) ∷ []

-- the joins of FROM
abbrev pub lots_from : Trees4 → Join
lots_from at = inner at.lots (left at.contracts of_its_lot (left at.entries of_its_contract end))

-- the meaning of the text as a query
abbrev pub lots_query : Trees4 → Query
lots_query at = record {
  from = lots_from at;
  filter = is_of_line;
  group = None;
  project = col 1 1 ∷ col 1 2 ∷ col 1 9 ∷ col 2 0 ∷ col 2 5 ∷ col 2 9 ∷ col 3 2 ∷ col 3 3 ∷ col 3 4 ∷ [];
  distinct = false;
  collations = [];
  order = (col 1 1, ascending Binary) ∷ (col 1 2, ascending Binary) ∷ (col 2 0, ascending Binary) ∷ (col 3 2, ascending Binary) ∷ [];
  limit = lit (Int (negsuc 0));
  offset = lit (Int (pos 0));
}
