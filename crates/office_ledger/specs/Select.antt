-- The select that joins lines, lots, contracts and entries, and shows them in the order of their keys.
use Rattle.std.specs.Prelude.{ℕ, List, [], ◌∷◌, codes, None, false, pos, negsuc}
use Rattle.sqlite_value.specs.declared.value.Value.TheVariants.{Int}
use Rattle.sqlite_value.specs.declared.keys.Collation.TheVariants.{Binary}
use Rattle.sqlite_value.specs.Keys.{ascending}
use Rattle.sqlite_sql.specs.Term.{Term, lit, col, op2}
use Rattle.sqlite_sql.specs.Query.{Query, Join, inner, left, end}
use Rattle.sqlite_sql.specs.declared.ops.BinaryOp.TheVariants.{Compare}
use Rattle.sqlite_sql.specs.declared.ops.CompareOp.TheVariants.{Eq}

abbrev pub equals : Term → Term → Term
equals a b = op2 (Compare Eq Binary) a b

abbrev pub list_joined : List ℕ
list_joined = codes "SELECT lines.line, lines.appropriation, lines.free, lots.notice, lots.lot, lots.reserved, contracts.contract, contracts.signed, contracts.released, entries.entry, entries.kind, entries.amount FROM lines LEFT JOIN lots ON lots.line = lines.line LEFT JOIN contracts ON contracts.notice = lots.notice AND contracts.lot = lots.lot LEFT JOIN entries ON entries.contract = contracts.contract ORDER BY lines.line, lots.notice, lots.lot, contracts.contract, entries.entry"

-- the trees of the four tables
pub record Trees4 : Type 0 where
  pub lines : ℕ
  pub lots : ℕ
  pub contracts : ℕ
  pub entries : ℕ

-- the conditions of the joins: lots of the line, contracts of the lot, entries of the contract
abbrev pub of_the_line : List Term
of_the_line = equals (col 2 4) (col 1 1) ∷ []

abbrev pub of_the_lot : List Term
of_the_lot = equals (col 3 2) (col 2 1) ∷ equals (col 3 3) (col 2 2) ∷ []

abbrev pub of_the_contract : List Term
of_the_contract = equals (col 4 1) (col 3 0) ∷ []

-- the joins of FROM
abbrev pub joined_from : Trees4 → Join
joined_from at = inner at.lines (left at.lots of_the_line (left at.contracts of_the_lot (left at.entries of_the_contract end)))

-- the meaning of the text as a query
abbrev pub joined_query : Trees4 → Query
joined_query at = record {
  from = joined_from at;
  filter = [];
  group = None;
  project = col 1 1 ∷ col 1 3 ∷ col 1 4 ∷ col 2 1 ∷ col 2 2 ∷ col 2 9 ∷ col 3 0 ∷ col 3 5 ∷ col 3 9 ∷ col 4 2 ∷ col 4 3 ∷ col 4 4 ∷ [];
  distinct = false;
  collations = [];
  order = (col 1 1, ascending Binary) ∷ (col 2 1, ascending Binary) ∷ (col 2 2, ascending Binary) ∷ (col 3 0, ascending Binary) ∷ (col 4 2, ascending Binary) ∷ [];
  limit = lit (Int (negsuc 0));
  offset = lit (Int (pos 0));
}
