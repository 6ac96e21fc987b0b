-- The rows that the select over a line's lots matches are the choices of the join, in any order.
use Rattle.office_ledger.proofs.Names.{◌≡◌, ℕ, Bool, true, false, cond, ◌&&◌, List, [], ◌∷◌, ◌++◌, map, flat_map, filter, Some, None, refl, sym, ap, ap₂, ◌∙◌, list_all, IsPermutation, IsPermutation-trans, IsPermutation-same, map-flat_map, flat_map_none, flat_map_same_on, Trees, Value, Null, Row, Binary, equal, Term, Env, holds, Join, matches_as, output, or_nulls, left, end, same_id, Tables, same_number, of_line, lots_of_line, LotRow, ContractRow, EntryRow, text_tested, number_tested, and_true, joined_lot, joined_lots, JoinedLot, Trees4, is_of_line, of_its_lot, of_its_contract, lots_from, lots_query, LotCells, ContractCells, EntryCells, Show, lot_cells}
use Rattle.sqlite_value.specs.declared.value.Value.TheVariants.{Text}
use Rattle.sqlite_value.specs.Order.{column}
use Rattle.sqlite_sql.specs.Query.{Output}
use Rattle.office_ledger.specs.Cells as cells
use Rattle.office_ledger.proofs.Cells.{number_null}
use Rattle.office_ledger.proofs.Levels.{first_level, level, no_level}
use Rattle.office_ledger.proofs.Nested.{with_last, with_contracts, lot_choices, lot_is}

-- a joined lot as the select shows it, with the columns that give its order
abbrev pub out : JoinedLot → Output
out l = (cells.lot_key (Some l), lot_cells (Some l))

-- ---- the choices of the join

module _ (t : Tables) (line : List ℕ) where
  -- a lot is part of the answer if it is of the line
  abbrev if_of_line : LotRow → List Output
  if_of_line x = cond (of_line line x) (lot_choices out t x) []

  passing : (xs : List LotRow) → flat_map if_of_line xs ≡ flat_map (lot_choices out t) (filter (of_line line) xs)
  passing [] = refl
  passing (x ∷ xs) = by (of_line line x) (passing xs)
    where
      by : (b : Bool) → flat_map if_of_line xs ≡ flat_map (lot_choices out t) (filter (of_line line) xs)
          → cond b (lot_choices out t x) [] ++ flat_map if_of_line xs ≡ flat_map (lot_choices out t) (cond b (x ∷ filter (of_line line) xs) (filter (of_line line) xs))
      by true h = ap (λ l. lot_choices out t x ++ l) h
      by false h = h

  choices : flat_map if_of_line t.lots ≡ map out (joined_lots line t)
  choices = passing t.lots ∙ flat_map_same_on (lot_choices out t) (λ x. map out (joined_lot t x)) (lot_is out t) (lots_of_line line t) ∙ sym (map-flat_map out (joined_lot t) (lots_of_line line t))

module _ (at : Trees4) (lost : Value) (db : Trees) (t : Tables) (line : List ℕ)
    (lots : Show LotCells (db at.lots) t.lots) (contracts : Show ContractCells (db at.contracts) t.contracts) (entries : Show EntryCells (db at.entries) t.entries) where
  abbrev params : Row
  params = Text line ∷ []

  abbrev puts_out : Join → Env → List Output
  puts_out from env = map (output (lots_query at)) (matches_as lost db is_of_line from env)

  abbrev tests : List Term → Env → Row → Bool
  tests on env r = list_all (holds (env ++ r ∷ [])) on

  stepped : (n : ℕ) (on : List Term) (more : Join) (env : Env) → puts_out (left n on more) env ≡ flat_map (λ r. puts_out more (env ++ r ∷ [])) (or_nulls (filter (tests on env) (db n)))
  stepped n on more env = map-flat_map (output (lots_query at)) (λ r. matches_as lost db is_of_line more (env ++ r ∷ [])) (or_nulls (filter (tests on env) (db n)))

  abbrev from3 : Join
  from3 = left at.entries of_its_contract end

  abbrev from2 : Join
  from2 = left at.contracts of_its_lot from3

  module _ (r1 : Row) (x : LotRow) (c1 : LotCells r1 x) where
    line_tested : (equal Binary (column r1 4) (Text line) && true) ≡ of_line line x
    line_tested = and_true (equal Binary (column r1 4) (Text line)) ∙ ap (λ v. equal Binary v (Text line)) c1.line ∙ text_tested x.line line

    -- a lot of another line
    module _ (other : of_line line x ≡ false) where
      nothing_ends : (r2 r3 : Row) → puts_out end (params ∷ r1 ∷ r2 ∷ r3 ∷ []) ≡ []
      nothing_ends r2 r3 = ap (λ b. map (output (lots_query at)) (cond b ((params ∷ r1 ∷ r2 ∷ r3 ∷ []) ∷ []) [])) (line_tested ∙ other)

      nothing_follows : (r2 : Row) → puts_out from3 (params ∷ r1 ∷ r2 ∷ []) ≡ []
      nothing_follows r2 = stepped at.entries of_its_contract end (params ∷ r1 ∷ r2 ∷ []) ∙ flat_map_none (λ r. puts_out end (params ∷ r1 ∷ r2 ∷ r ∷ [])) (nothing_ends r2) _

      nothing : puts_out from2 (params ∷ r1 ∷ []) ≡ []
      nothing = stepped at.contracts of_its_lot from3 (params ∷ r1 ∷ []) ∙ flat_map_none (λ r. puts_out from3 (params ∷ r1 ∷ r ∷ [])) nothing_follows _

    -- a lot of this line
    module _ (own : of_line line x ≡ true) where
      ends : (r2 r3 : Row) → puts_out end (params ∷ r1 ∷ r2 ∷ r3 ∷ []) ≡ output (lots_query at) (params ∷ r1 ∷ r2 ∷ r3 ∷ []) ∷ []
      ends r2 r3 = ap (λ b. map (output (lots_query at)) (cond b ((params ∷ r1 ∷ r2 ∷ r3 ∷ []) ∷ []) [])) (line_tested ∙ own)

      alone : puts_out end (params ∷ r1 ∷ [] ∷ [] ∷ []) ≡ with_contracts out t x None
      alone = ends [] [] ∙ λ i. ((c1.notice i ∷ c1.lot i ∷ Null ∷ Null ∷ []), (c1.notice i ∷ c1.lot i ∷ c1.reserved i ∷ Null ∷ Null ∷ Null ∷ Null ∷ Null ∷ Null ∷ [])) ∷ []

      no_contract : puts_out from3 (params ∷ r1 ∷ [] ∷ []) ≡ with_contracts out t x None
      no_contract =
          stepped at.entries of_its_contract end (params ∷ r1 ∷ [] ∷ [])
          ∙ no_level EntryCells (λ r. puts_out end (params ∷ r1 ∷ [] ∷ r ∷ [])) (tests of_its_contract (params ∷ r1 ∷ [] ∷ []))
          (λ r e h. ap (λ v. equal Binary v Null && true) h.contract ∙ ap (λ b. b && true) (number_null e.contract)) (db at.entries) t.entries entries
          ∙ alone

      module _ (r2 : Row) (c : ContractRow) (c2 : ContractCells r2 c) where
        contract_alone : puts_out end (params ∷ r1 ∷ r2 ∷ [] ∷ []) ≡ with_last out t x c None
        contract_alone = ends r2 [] ∙ λ i. ((c1.notice i ∷ c1.lot i ∷ c2.contract i ∷ Null ∷ []), (c1.notice i ∷ c1.lot i ∷ c1.reserved i ∷ c2.contract i ∷ c2.signed i ∷ c2.released i ∷ Null ∷ Null ∷ Null ∷ [])) ∷ []

        one_entry : (r3 : Row) (e : EntryRow) → EntryCells r3 e → puts_out end (params ∷ r1 ∷ r2 ∷ r3 ∷ []) ≡ with_last out t x c (Some e)
        one_entry r3 e c3 = ends r2 r3 ∙ λ i. (
          (c1.notice i ∷ c1.lot i ∷ c2.contract i ∷ c3.entry i ∷ []),
          (c1.notice i ∷ c1.lot i ∷ c1.reserved i ∷ c2.contract i ∷ c2.signed i ∷ c2.released i ∷ c3.entry i ∷ c3.kind i ∷ c3.amount i ∷ []),
        ) ∷ []

        one_contract : IsPermutation (puts_out from3 (params ∷ r1 ∷ r2 ∷ [])) (with_contracts out t x (Some c))
        one_contract = IsPermutation-trans _ _ _
            (IsPermutation-same _ _ (stepped at.entries of_its_contract end (params ∷ r1 ∷ r2 ∷ [])))
            (level EntryCells (λ r. puts_out end (params ∷ r1 ∷ r2 ∷ r ∷ [])) (tests of_its_contract (params ∷ r1 ∷ r2 ∷ [])) (λ (e : EntryRow). same_number e.contract c.contract) (with_last out t x c)
            (λ r e h. and_true (equal Binary (column r 1) (column r2 0)) ∙ ap₂ (equal Binary) h.contract c2.contract ∙ number_tested e.contract c.contract)
            (λ r e h. IsPermutation-same _ _ (one_entry r e h)) (IsPermutation-same _ _ contract_alone) (db at.entries) t.entries entries)

      one_lot : IsPermutation (puts_out from2 (params ∷ r1 ∷ [])) (lot_choices out t x)
      one_lot = IsPermutation-trans _ _ _
          (IsPermutation-same _ _ (stepped at.contracts of_its_lot from3 (params ∷ r1 ∷ [])))
          (level ContractCells (λ r. puts_out from3 (params ∷ r1 ∷ r ∷ [])) (tests of_its_lot (params ∷ r1 ∷ [])) (λ (c : ContractRow). same_id c.notice x.notice && same_id c.lot x.lot) (with_contracts out t x)
          (λ r c h. ap₂ ◌&&◌ (ap₂ (equal Binary) h.notice c1.notice ∙ text_tested c.notice x.notice) (and_true (equal Binary (column r 3) (column r1 2)) ∙ ap₂ (equal Binary) h.lot c1.lot ∙ text_tested c.lot x.lot))
          one_contract (IsPermutation-same _ _ no_contract) (db at.contracts) t.contracts contracts)

    any_lot : IsPermutation (puts_out from2 (params ∷ r1 ∷ [])) (if_of_line t line x)
    any_lot = by (of_line line x) refl
      where
        by : (b : Bool) → of_line line x ≡ b → IsPermutation (puts_out from2 (params ∷ r1 ∷ [])) (cond b (lot_choices out t x) [])
        by true e = one_lot e
        by false e = IsPermutation-same _ _ (nothing e)

  -- all rows that the select shows are the join
  pub lots_matched : IsPermutation (puts_out (lots_from at) (params ∷ [])) (map out (joined_lots line t))
  lots_matched = IsPermutation-trans _ _ _
      (IsPermutation-same _ _ (map-flat_map (output (lots_query at)) (λ r. matches_as lost db is_of_line from2 (params ∷ r ∷ [])) (db at.lots)))
      (IsPermutation-trans _ _ _
      (first_level LotCells (λ r. puts_out from2 (params ∷ r ∷ [])) (if_of_line t line) any_lot (db at.lots) t.lots lots)
      (IsPermutation-same _ _ (choices t line)))
