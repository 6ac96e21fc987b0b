-- Each line that a move names is one that is tested.
use Rattle.office_desk.proofs.Names.{◌≡◌, ℕ, ◌-◌, Bool, true, false, cond, ◌&&◌, List, [], ◌∷◌, map, filter, Option, Some, None, nat_le, AllByRecursion, list_all, refl, ap, ◌∙◌, BudgetRow, ChangeKind, NewLot, line_of_lot, lot_of_award, lot_of_contract, Tables, award_at, contract_at, envelopes_of_lot, line_at, lot_at, lots_of_notice, notice_at, EnvelopeRow, LotRow, is_open_lot, price_of, winner, Free, Move, Reserved, line_in, move_back, move_of_award, move_of_change, move_of_lot, move_of_row, reserved_for, NoMoveIsLeftOut, line_adds_up, may_move}
use Rattle.office_commands.specs.declared.commands.Command.TheVariants as commands
use Rattle.office_commands.specs.declared.contract.ChangeKind.TheVariants as change_kinds

both : (a b : Bool) → (a && b) ≡ true → (a ≡ true) × (b ≡ true)
both true b e = (refl, e)
both false b e = cc

module _ (s : Tables) where
  -- the line exists and adds up
  abbrev Adds : List ℕ → Type 0
  Adds line = line_adds_up false s (line_at line s) ≡ true

  rows_tested : (batch : List ℕ) (all rows : List BudgetRow) → list_all (λ (row : BudgetRow). line_adds_up true s (line_at row.line s)) rows ≡ true
      → AllByRecursion (λ (m : Move). may_move (commands.Import batch all) s m ≡ true) (map move_of_row rows)
  rows_tested batch all [] e = tt
  rows_tested batch all (row ∷ rows) e = let each = both _ _ e in (each.0, rows_tested batch all rows each.1)

  new_lots_tested : (lots : List NewLot) → list_all (λ (lot : NewLot). line_adds_up false s (line_at lot.line s)) lots ≡ true → AllByRecursion (λ (m : Move). Adds m.line) (map move_of_lot lots)
  new_lots_tested [] e = tt
  new_lots_tested (lot ∷ lots) e = let each = both _ _ e in (each.0, new_lots_tested lots each.1)

  lots_tested : (held : List ℕ × List ℕ → ℕ) (lots : List LotRow) → list_all (λ (lot : LotRow). line_adds_up false s (line_at lot.line s)) lots ≡ true
      → AllByRecursion (λ (m : Move). Adds m.line) (map (move_back held) (filter is_open_lot lots))
  lots_tested held [] e = tt
  lots_tested held (lot ∷ lots) e =
      let each = both _ _ e in
      elim (is_open_lot lot) as (λ b. AllByRecursion (λ (m : Move). Adds m.line) (map (move_back held) (cond b (lot ∷ filter is_open_lot lots) (filter is_open_lot lots)))) [
        | true ↦ (each.0, lots_tested held lots each.1)
        | false ↦ lots_tested held lots each.1
      ]

  -- the line of a lot that exists
  lot_tested : (lot : Option LotRow) → line_adds_up false s (line_of_lot lot s) ≡ true → Adds (line_in lot)
  lot_tested None e = cc
  lot_tested (Some l) e = e

  on_line : (k line : List ℕ) → k ≡ line → Adds line → Adds k
  on_line k line is e = ap (λ q. line_adds_up false s (line_at q s)) is ∙ e

abbrev IsOn : List ℕ → Move → Type 0
IsOn line m = m.line ≡ line

award_line : (line : List ℕ) (held : ℕ) (best : Option EnvelopeRow) → (move_of_award line held best).line ≡ line
award_line line held None = refl
award_line line held (Some e) = by (nat_le (price_of e) held)
  where
    by : (b : Bool)
        → IsOn line (cond b (record { line = line; from = Reserved; to = Free; amount = held - price_of e }) (record { line = line; from = Free; to = Reserved; amount = price_of e - held }))
    by true = refl
    by false = refl

change_line : (kind : ChangeKind) (line : List ℕ) (amount : ℕ) → (move_of_change kind line amount).line ≡ line
change_line change_kinds.Raise line amount = refl
change_line change_kinds.Cut line amount = refl

pub no_move_is_left_out : NoMoveIsLeftOut
no_move_is_left_out (commands.Import batch rows) s all = (refl, λ earlier. rows_tested s batch rows rows all)
no_move_is_left_out (commands.Publish notice content) s all = (refl, λ earlier. new_lots_tested s content.lots all)
no_move_is_left_out (commands.Cancel notice rationale) s all = (refl, λ earlier. lots_tested s (reserved_for earlier) (lots_of_notice notice s) all)
no_move_is_left_out (commands.Award notice lot) s all = (
  refl,
  λ earlier.
      (on_line s _ _ (award_line (line_in (lot_at (notice, lot) s)) (reserved_for earlier (notice, lot)) (winner (notice_at notice s) (envelopes_of_lot notice lot s))) (lot_tested s (lot_at (notice, lot) s) all), tt),
)
no_move_is_left_out (commands.Fail award) s all = (all, λ earlier. tt)
no_move_is_left_out (commands.Sign award named) s all = (refl, λ earlier. (lot_tested s (lot_of_award (award_at award s) s) all, tt))
no_move_is_left_out (commands.AmendContract contract entry kind amount rationale) s all = (
  refl,
  λ earlier.
      (on_line s _ _ (change_line kind (line_in (lot_of_contract (contract_at contract s) s)) amount) (lot_tested s (lot_of_contract (contract_at contract s) s) all), tt),
)
no_move_is_left_out (commands.Pay contract entry amount) s all = (refl, λ earlier. (lot_tested s (lot_of_contract (contract_at contract s) s) all, tt))
no_move_is_left_out (commands.End contract how) s all = (refl, λ earlier. (lot_tested s (lot_of_contract (contract_at contract s) s) all, tt))
no_move_is_left_out _ s all = (refl, λ earlier. tt)
