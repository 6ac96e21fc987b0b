-- The budget lines whose money a command moves.
use Rattle.std.specs.Prelude.{◌≡◌, ◌⊎◌, ℕ, Bool, true, false, List, Option, Result, Ok, Err}
use Rattle.std.specs.List.{AllByRecursion, list_all}
use Rattle.std.specs.Option.{option_map_or}
use Rattle.office_commands.specs.declared.budget.BudgetRow.{BudgetRow}
use Rattle.office_commands.specs.declared.commands.Command.{Command}
use Rattle.office_commands.specs.declared.commands.Command.TheVariants as commands
use Rattle.office_commands.specs.declared.lot.NewLot.{NewLot}
use Rattle.office_base.specs.Faults.{HasRisen}
use Rattle.office_base.specs.Joined.{pots_of}
use Rattle.office_base.specs.Parents.{line_of_lot, lot_of_award, lot_of_contract}
use Rattle.office_base.specs.PotsAnswers.{IsUnfit}
use Rattle.office_base.specs.Tables.{Tables, award_at, contract_at, line_at, lot_at, lots_of_notice}
use Rattle.office_base.specs.declared.records.LineRow.{LineRow}
use Rattle.office_base.specs.declared.records.LotRow.{LotRow}
use Rattle.office_base.specs.declared.shelf.ShelfFault.{ShelfFault}
use Rattle.office_machine.specs.Machine.{Given}
use Rattle.office_machine.specs.Moves.{Move, moves_for}
use Rattle.office_desk.specs.Balances.{pots_add_up}

-- The balances of the line with this row add up; `missing` if there is no such line.
abbrev pub line_adds_up : Bool → Tables → Option LineRow → Bool
line_adds_up missing s line = option_map_or (λ (row : LineRow). pots_add_up (pots_of row s)) line missing

-- Money may be moved of this line: it adds up. Only an import may name a line that doesn't exist, because it makes the line.
abbrev pub may_move : Command → Tables → Move → Bool
may_move (commands.Import batch rows) s m = line_adds_up true s (line_at m.line s)
may_move command s m = line_adds_up false s (line_at m.line s)

-- A failed award moves no money, but opens its lot again: the lot's line exists, and adds up.
abbrev pub reopened_adds_up : Command → Tables → Bool
reopened_adds_up (commands.Fail award) s = line_adds_up false s (line_of_lot (lot_of_award (award_at award s) s) s)
reopened_adds_up command s = true

-- Money may be moved of each line of which the specification moves any, whatever was accepted before the command.
abbrev pub MovesAddUp : Command → Tables → Type 0
MovesAddUp command s = (reopened_adds_up command s ≡ true) × ((earlier : List Given) → AllByRecursion (λ (m : Move). may_move command s m ≡ true) (moves_for s command earlier))

-- The test that the desk makes: the lines of a budget file, of the lots that are published, or of the stored lots.
abbrev pub moved_lines_add_up : Command → Tables → Bool
moved_lines_add_up (commands.Import batch rows) s = list_all (λ (row : BudgetRow). line_adds_up true s (line_at row.line s)) rows
moved_lines_add_up (commands.Publish notice content) s = list_all (λ (lot : NewLot). line_adds_up false s (line_at lot.line s)) content.lots
moved_lines_add_up (commands.Cancel notice rationale) s = list_all (λ (lot : LotRow). line_adds_up false s (line_at lot.line s)) (lots_of_notice notice s)
moved_lines_add_up (commands.Award notice lot) s = line_adds_up false s (line_of_lot (lot_at (notice, lot) s) s)
moved_lines_add_up (commands.Fail award) s = line_adds_up false s (line_of_lot (lot_of_award (award_at award s) s) s)
moved_lines_add_up (commands.Sign award security) s = line_adds_up false s (line_of_lot (lot_of_award (award_at award s) s) s)
moved_lines_add_up (commands.AmendContract contract entry kind amount rationale) s = line_adds_up false s (line_of_lot (lot_of_contract (contract_at contract s) s) s)
moved_lines_add_up (commands.Pay contract entry amount) s = line_adds_up false s (line_of_lot (lot_of_contract (contract_at contract s) s) s)
moved_lines_add_up (commands.End contract how) s = line_adds_up false s (line_of_lot (lot_of_contract (contract_at contract s) s) s)
moved_lines_add_up command s = true

-- The law: it tests each line of which the specification moves money.
abbrev pub NoMoveIsLeftOut : Type 0
NoMoveIsLeftOut = (command : Command) (s : Tables) → moved_lines_add_up command s ≡ true → MovesAddUp command s

-- Either the test counts no fault. Then it succeeds only if they add up, and fails only if one doesn't or if a sum of some line is outside its range. (At the
-- highest count of faults it may fail for a fault.) Or the store has counted a fault.
abbrev pub IsTested : ℕ → ℕ → Tables → Bool → Result Bool ShelfFault → Type 0
IsTested old new s right (Ok adds) = (new ≡ old) × (adds ≡ true → right ≡ true) × (adds ≡ false → ((line : List ℕ) → IsUnfit line s → ⊥) → (right ≡ false) ⊎ HasRisen old new)
IsTested old new s right (Err fault) = HasRisen old new
