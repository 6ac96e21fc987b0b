-- The rows that the select's FROM matches are the choices of the join, in any order.
use Rattle.office_ledger.proofs.Names.{◌≡◌, ℕ, Bool, true, ◌&&◌, List, [], ◌∷◌, ◌++◌, map, flat_map, filter, Some, None, ap, ap₂, ◌∙◌, list_all, IsPermutation, IsPermutation-trans, IsPermutation-same, map-flat_map, Trees, Value, Null, Row, Binary, equal, Term, Env, holds, Join, matches_as, output, or_nulls, left, end, same_id, Tables, same_number, of_line, LineRow, LotRow, ContractRow, EntryRow, text_tested, number_tested, and_true, joined, JoinedRow, Trees4, of_the_line, of_the_lot, of_the_contract, joined_from, joined_query, LineCells, LotCells, ContractCells, EntryCells, Show, row_key, joined_cells}
use Rattle.sqlite_value.specs.Order.{column}
use Rattle.sqlite_sql.specs.Query.{Output}
use Rattle.office_ledger.proofs.Cells.{text_null, number_null}
use Rattle.office_ledger.proofs.Levels.{first_level, level, no_level}
use Rattle.office_ledger.proofs.Nested.{with_last, with_contracts, lot_out, with_lots, with_lines, choices}

-- a joined row as the select shows it, with the columns that give its order
abbrev pub out : JoinedRow → Output
out r = (row_key r, joined_cells r)

module _ (at : Trees4) (lost : Value) (db : Trees) (t : Tables) (params : Row)
    (lines : Show LineCells (db at.lines) t.lines) (lots : Show LotCells (db at.lots) t.lots) (contracts : Show ContractCells (db at.contracts) t.contracts) (entries : Show EntryCells (db at.entries) t.entries) where
  -- the rows that are shown for the matches of the rest of FROM
  abbrev puts_out : Join → Env → List Output
  puts_out from env = map (output (joined_query at)) (matches_as lost db [] from env)

  abbrev tests : List Term → Env → Row → Bool
  tests on env r = list_all (holds (env ++ r ∷ [])) on

  stepped : (n : ℕ) (on : List Term) (more : Join) (env : Env) → puts_out (left n on more) env ≡ flat_map (λ r. puts_out more (env ++ r ∷ [])) (or_nulls (filter (tests on env) (db n)))
  stepped n on more env = map-flat_map (output (joined_query at)) (λ r. matches_as lost db [] more (env ++ r ∷ [])) (or_nulls (filter (tests on env) (db n)))

  abbrev from4 : Join
  from4 = left at.entries of_the_contract end

  abbrev from3 : Join
  from3 = left at.contracts of_the_lot from4

  abbrev from2 : Join
  from2 = left at.lots of_the_line from3

  module _ (r1 : Row) (l : LineRow) (c1 : LineCells r1 l) where
    -- a line without lots
    alone : puts_out end (params ∷ r1 ∷ [] ∷ [] ∷ [] ∷ []) ≡ with_lots out t l None
    alone = λ i. ((c1.line i ∷ Null ∷ Null ∷ Null ∷ Null ∷ []), (c1.line i ∷ c1.appropriation i ∷ c1.free i ∷ Null ∷ Null ∷ Null ∷ Null ∷ Null ∷ Null ∷ Null ∷ Null ∷ Null ∷ [])) ∷ []

    no_lot : puts_out from3 (params ∷ r1 ∷ [] ∷ []) ≡ with_lots out t l None
    no_lot =
        stepped at.contracts of_the_lot from4 (params ∷ r1 ∷ [] ∷ [])
        ∙ no_level ContractCells (λ r. puts_out from4 (params ∷ r1 ∷ [] ∷ r ∷ [])) (tests of_the_lot (params ∷ r1 ∷ [] ∷ []))
        (λ r c h. ap (λ v. equal Binary v Null && (equal Binary (column r 3) Null && true)) h.notice ∙ ap (λ b. b && (equal Binary (column r 3) Null && true)) (text_null c.notice)) (db at.contracts) t.contracts contracts
        ∙ stepped at.entries of_the_contract end (params ∷ r1 ∷ [] ∷ [] ∷ [])
        ∙ no_level EntryCells (λ r. puts_out end (params ∷ r1 ∷ [] ∷ [] ∷ r ∷ [])) (tests of_the_contract (params ∷ r1 ∷ [] ∷ [] ∷ []))
        (λ r e h. ap (λ v. equal Binary v Null && true) h.contract ∙ ap (λ b. b && true) (number_null e.contract)) (db at.entries) t.entries entries
        ∙ alone

    module _ (r2 : Row) (x : LotRow) (c2 : LotCells r2 x) where
      -- a lot without contracts
      lot_alone : puts_out end (params ∷ r1 ∷ r2 ∷ [] ∷ [] ∷ []) ≡ with_contracts (lot_out out t l) t x None
      lot_alone = λ i. ((c1.line i ∷ c2.notice i ∷ c2.lot i ∷ Null ∷ Null ∷ []), (c1.line i ∷ c1.appropriation i ∷ c1.free i ∷ c2.notice i ∷ c2.lot i ∷ c2.reserved i ∷ Null ∷ Null ∷ Null ∷ Null ∷ Null ∷ Null ∷ [])) ∷ []

      no_contract : puts_out from4 (params ∷ r1 ∷ r2 ∷ [] ∷ []) ≡ with_contracts (lot_out out t l) t x None
      no_contract =
          stepped at.entries of_the_contract end (params ∷ r1 ∷ r2 ∷ [] ∷ [])
          ∙ no_level EntryCells (λ r. puts_out end (params ∷ r1 ∷ r2 ∷ [] ∷ r ∷ [])) (tests of_the_contract (params ∷ r1 ∷ r2 ∷ [] ∷ []))
          (λ r e h. ap (λ v. equal Binary v Null && true) h.contract ∙ ap (λ b. b && true) (number_null e.contract)) (db at.entries) t.entries entries
          ∙ lot_alone

      module _ (r3 : Row) (c : ContractRow) (c3 : ContractCells r3 c) where
        contract_alone : puts_out end (params ∷ r1 ∷ r2 ∷ r3 ∷ [] ∷ []) ≡ with_last (lot_out out t l) t x c None
        contract_alone = λ i. (
          (c1.line i ∷ c2.notice i ∷ c2.lot i ∷ c3.contract i ∷ Null ∷ []),
          (c1.line i ∷ c1.appropriation i ∷ c1.free i ∷ c2.notice i ∷ c2.lot i ∷ c2.reserved i ∷ c3.contract i ∷ c3.signed i ∷ c3.released i ∷ Null ∷ Null ∷ Null ∷ []),
        ) ∷ []

        one_entry : (r4 : Row) (e : EntryRow) → EntryCells r4 e → puts_out end (params ∷ r1 ∷ r2 ∷ r3 ∷ r4 ∷ []) ≡ with_last (lot_out out t l) t x c (Some e)
        one_entry r4 e c4 = λ i. (
          (c1.line i ∷ c2.notice i ∷ c2.lot i ∷ c3.contract i ∷ c4.entry i ∷ []),
          (c1.line i ∷ c1.appropriation i ∷ c1.free i ∷ c2.notice i ∷ c2.lot i ∷ c2.reserved i ∷ c3.contract i ∷ c3.signed i ∷ c3.released i ∷ c4.entry i ∷ c4.kind i ∷ c4.amount i ∷ []),
        ) ∷ []

        one_contract : IsPermutation (puts_out from4 (params ∷ r1 ∷ r2 ∷ r3 ∷ [])) (with_contracts (lot_out out t l) t x (Some c))
        one_contract = IsPermutation-trans _ _ _
            (IsPermutation-same _ _ (stepped at.entries of_the_contract end (params ∷ r1 ∷ r2 ∷ r3 ∷ [])))
            (level EntryCells (λ r. puts_out end (params ∷ r1 ∷ r2 ∷ r3 ∷ r ∷ [])) (tests of_the_contract (params ∷ r1 ∷ r2 ∷ r3 ∷ [])) (λ (e : EntryRow). same_number e.contract c.contract) (with_last (lot_out out t l) t x c)
            (λ r e h. and_true (equal Binary (column r 1) (column r3 0)) ∙ ap₂ (equal Binary) h.contract c3.contract ∙ number_tested e.contract c.contract)
            (λ r e h. IsPermutation-same _ _ (one_entry r e h)) (IsPermutation-same _ _ contract_alone) (db at.entries) t.entries entries)

      one_lot : IsPermutation (puts_out from3 (params ∷ r1 ∷ r2 ∷ [])) (with_lots out t l (Some x))
      one_lot = IsPermutation-trans _ _ _
          (IsPermutation-same _ _ (stepped at.contracts of_the_lot from4 (params ∷ r1 ∷ r2 ∷ [])))
          (level ContractCells (λ r. puts_out from4 (params ∷ r1 ∷ r2 ∷ r ∷ [])) (tests of_the_lot (params ∷ r1 ∷ r2 ∷ [])) (λ (c : ContractRow). same_id c.notice x.notice && same_id c.lot x.lot) (with_contracts (lot_out out t l) t x)
          (λ r c h. ap₂ ◌&&◌ (ap₂ (equal Binary) h.notice c2.notice ∙ text_tested c.notice x.notice) (and_true (equal Binary (column r 3) (column r2 2)) ∙ ap₂ (equal Binary) h.lot c2.lot ∙ text_tested c.lot x.lot))
          one_contract (IsPermutation-same _ _ no_contract) (db at.contracts) t.contracts contracts)

    one_line : IsPermutation (puts_out from2 (params ∷ r1 ∷ [])) (with_lines out t l)
    one_line = IsPermutation-trans _ _ _
        (IsPermutation-same _ _ (stepped at.lots of_the_line from3 (params ∷ r1 ∷ [])))
        (level LotCells (λ r. puts_out from3 (params ∷ r1 ∷ r ∷ [])) (tests of_the_line (params ∷ r1 ∷ [])) (of_line l.line) (with_lots out t l)
        (λ r x h. and_true (equal Binary (column r 4) (column r1 1)) ∙ ap₂ (equal Binary) h.line c1.line ∙ text_tested x.line l.line)
        one_lot (IsPermutation-same _ _ no_lot) (db at.lots) t.lots lots)

  -- all rows that the select shows are the join
  pub matched : IsPermutation (puts_out (joined_from at) (params ∷ [])) (map out (joined t))
  matched = IsPermutation-trans _ _ _
      (IsPermutation-same _ _ (map-flat_map (output (joined_query at)) (λ r. matches_as lost db [] from2 (params ∷ r ∷ [])) (db at.lines)))
      (IsPermutation-trans _ _ _
      (first_level LineCells (λ r. puts_out from2 (params ∷ r ∷ [])) (with_lines out t) one_line (db at.lines) t.lines lines)
      (IsPermutation-same _ _ (choices out t)))
