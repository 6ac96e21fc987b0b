-- The rows that the selects show of a connection.
use Rattle.office_ledger.proofs.Names.{◌≡◌, ◌^◌, ℕ, List, [], ◌∷◌, ◌++◌, map, false, refl, subst, nat_le, Null, Row, Trees, overlay, Answers, ReadsFirst, Begins, reads_as, begins_as, Tables, joined, joined_lots, list_joined, joined_query, LineCells, LotCells, ContractCells, EntryCells, Show, joined_cells, list_joined_of_line, lots_query, HoldsJoined, joined_lot_cells}
use Rattle.sqlite_value.specs.declared.value.Value.TheVariants.{Text}
use Rattle.sqlite_schema.specs.declared.command.Command.TheVariants.{Select}
use Rattle.sqlite.specs.State.{State, Shown}
use Rattle.office_ledger.proofs.Joining.{joined_means, joined_names}
use Rattle.office_ledger.proofs.LotsJoining.{lots_mean, lots_names}
use Rattle.office_ledger.proofs.LotsShown.{shows_lots}
use Rattle.office_ledger.proofs.Shown.{shows_joined}

-- a stored table isn't hidden by a table that the statement computes
pub stored_is : (db : Trees) (tree : ℕ) → nat_le (2 ^ 31) tree ≡ false → db tree ≡ overlay db [] tree
stored_is db tree stored = rw stored refl

module _ (s : State) (t : Tables) (was : HoldsJoined s.now t) where
  abbrev db : Trees
  db = s.now.trees

  answered : (rows : List Row) → Answers s.now (record { lets = []; body = joined_query was.at }) [] rows → rows ≡ map joined_cells (joined t)
  answered rows a =
      shows_joined was.at Null (overlay db []) t was.sorted [] rows
      (subst (λ r. Show LineCells r t.lines) (stored_is db was.at.lines was.four.lines.stored) was.lines)
      (subst (λ r. Show LotCells r t.lots) (stored_is db was.at.lots was.four.lots.stored) was.lots)
      (subst (λ r. Show ContractCells r t.contracts) (stored_is db was.at.contracts was.four.contracts.stored) was.contracts)
      (subst (λ r. Show EntryCells r t.entries) (stored_is db was.at.entries was.four.entries.stored) was.entries)
      (a.answer Null)

  pub join_shown : (new : State) (rows : List Row) → Shown list_joined [] s new rows → rows ≡ map joined_cells (joined t)
  join_shown new rows h =
      let means = joined_means s.now.schema was.at was.four in
      answered rows (reads_as list_joined [] s new s.now.schema refl (Select (record { lets = []; body = joined_query was.at }) joined_names) means.is means.plain means.unlisted rows h)

  pub join_begun : (rows : List Row) → Begins list_joined [] s rows → (rest : List Row) × (rows ++ rest ≡ map joined_cells (joined t))
  join_begun rows h =
      let means = joined_means s.now.schema was.at was.four in
      let first : ReadsFirst (Select (record { lets = []; body = joined_query was.at }) joined_names) s.now [] rows =
      begins_as list_joined [] s s s.now.schema refl (Select (record { lets = []; body = joined_query was.at }) joined_names) means.is means.plain means.unlisted rows h in
      (first.1.0, answered (rows ++ first.1.0) (record { typed = first.0; answer = first.1.1 }))

  module _ (line : List ℕ) where
    lots_answered : (rows : List Row) → Answers s.now (record { lets = []; body = lots_query was.at }) (Text line ∷ []) rows → rows ≡ map joined_lot_cells (joined_lots line t)
    lots_answered rows a =
        shows_lots was.at Null (overlay db []) t was.sorted line rows
        (subst (λ r. Show LotCells r t.lots) (stored_is db was.at.lots was.four.lots.stored) was.lots)
        (subst (λ r. Show ContractCells r t.contracts) (stored_is db was.at.contracts was.four.contracts.stored) was.contracts)
        (subst (λ r. Show EntryCells r t.entries) (stored_is db was.at.entries was.four.entries.stored) was.entries)
        (a.answer Null)

    pub lots_shown : (new : State) (rows : List Row) → Shown list_joined_of_line (Text line ∷ []) s new rows → rows ≡ map joined_lot_cells (joined_lots line t)
    lots_shown new rows h =
        let means = lots_mean s.now.schema was.at was.four in
        lots_answered rows
        (reads_as list_joined_of_line (Text line ∷ []) s new s.now.schema refl (Select (record { lets = []; body = lots_query was.at }) lots_names) means.is means.plain means.unlisted rows h)

    pub lots_begun : (rows : List Row) → Begins list_joined_of_line (Text line ∷ []) s rows → (rest : List Row) × (rows ++ rest ≡ map joined_lot_cells (joined_lots line t))
    lots_begun rows h =
        let means = lots_mean s.now.schema was.at was.four in
        let first : ReadsFirst (Select (record { lets = []; body = lots_query was.at }) lots_names) s.now (Text line ∷ []) rows =
        begins_as list_joined_of_line (Text line ∷ []) s s s.now.schema refl (Select (record { lets = []; body = lots_query was.at }) lots_names) means.is means.plain means.unlisted rows h in
        (first.1.0, lots_answered (rows ++ first.1.0) (record { typed = first.0; answer = first.1.1 }))
