-- The money that accepted commands move between the balances of budget lines.
use Rattle.std.specs.Prelude.{◌≡◌, ℕ, ◌+◌, ◌-◌, Bool, true, false, cond, ◌&&◌, List, [], ◌∷◌, ◌++◌, map, filter, Option, Some, None, nat_le}
use Rattle.std.specs.Option.{option_map_or}
use Rattle.office_values.specs.Ids.{same_id}
use Rattle.office_base.specs.Tables.{same_number, Tables, notice_at, lot_at, award_at, contract_at, lots_of_notice, envelopes_of_lot}
use Rattle.office_commands.specs.declared.budget.BudgetRow.{BudgetRow}
use Rattle.office_commands.specs.declared.lot.NewLot.{NewLot}
use Rattle.office_commands.specs.declared.commands.Command.{Command}
use Rattle.office_commands.specs.declared.commands.Command.TheVariants.{Import, Publish, Cancel, Award, Sign, AmendContract, Pay, End}
use Rattle.office_commands.specs.declared.contract.ChangeKind.{ChangeKind}
use Rattle.office_commands.specs.declared.contract.ChangeKind.TheVariants as change_kinds
use Rattle.office_base.specs.Sums.{sum_over}
use Rattle.office_base.specs.declared.records.LotRow.{LotRow}
use Rattle.office_base.specs.declared.records.EnvelopeRow.{EnvelopeRow}
use Rattle.office_base.specs.declared.records.AwardRow.{AwardRow}
use Rattle.tender_core.specs.Rules.Import.{is_cut}
use Rattle.tender_core.specs.Rules.Cancel.{is_open_lot}
use Rattle.award_core.specs.Rules.Award.{price_of, winner}
use Rattle.office_base.specs.Parents.{lot_of_award, lot_of_contract}
use Rattle.office_machine.specs.Machine.{Given}

-- The places of money: the four balances of a line, and the outside, from which appropriations come.
pub data Pot : Type 0 where
  Outside : Pot
  Free : Pot
  Reserved : Pot
  Contracted : Pot
  Paid : Pot

-- The two places are the same.
abbrev pub same_pot : Pot → Pot → Bool
same_pot Outside Outside = true
same_pot Free Free = true
same_pot Reserved Reserved = true
same_pot Contracted Contracted = true
same_pot Paid Paid = true
same_pot p q = false

-- An amount that moves from one place of a line to another.
pub record Move : Type 0 where
  pub line : List ℕ
  pub from : Pot
  pub to : Pot
  pub amount : ℕ

-- The two pairs (notice, lot) name the same lot.
abbrev pub same_lot : List ℕ × List ℕ → List ℕ × List ℕ → Bool
same_lot a b = same_id a.0 b.0 && same_id a.1 b.1

-- The estimate of the published lot with this identifier; the earlier amount if no such lot is published.
abbrev pub estimate_in : List NewLot → List ℕ → ℕ → ℕ
estimate_in [] id before = before
estimate_in (lot ∷ lots) id before = cond (same_id lot.id id) lot.estimate (estimate_in lots id before)

-- The amount that is held for a lot after a command: a new lot's estimate, or the price of the tender that wins. `before` is the amount held before it.
abbrev pub holding_after : Tables → Command → List ℕ × List ℕ → ℕ → ℕ
holding_after s (Publish notice content) lot before = cond (same_id notice lot.0) (estimate_in content.lots lot.1 before) before
holding_after s (Award notice id) lot before =
    cond (same_lot (notice, id) lot) (option_map_or price_of (winner (notice_at notice s) (envelopes_of_lot notice id s)) before) before
holding_after s command lot before = before

-- The price of the lot's last award that had a winner; its published estimate if there was none.
abbrev pub reserved_for : List Given → List ℕ × List ℕ → ℕ
reserved_for [] lot = 0
reserved_for (x ∷ xs) lot = holding_after x.before x.command lot (reserved_for xs lot)

-- The budget line of a lot; empty if the lot doesn't exist.
abbrev pub line_in : Option LotRow → List ℕ
line_in None = []
line_in (Some l) = l.line

-- The lot of an award, as (notice, lot); both are empty if the award doesn't exist.
abbrev pub lot_in_award : Option AwardRow → List ℕ × List ℕ
lot_in_award None = ([], [])
lot_in_award (Some a) = (a.notice, a.lot)

-- The amount that a change adds to a contract: 0 for a cut.
abbrev pub raised_by : ChangeKind → ℕ → ℕ
raised_by change_kinds.Raise amount = amount
raised_by change_kinds.Cut amount = 0

-- The amount that a change takes off a contract: 0 for a raise.
abbrev pub cut_by : ChangeKind → ℕ → ℕ
cut_by change_kinds.Raise amount = 0
cut_by change_kinds.Cut amount = amount

-- The amount that a command brings into contracted for a contract. `held` is the amount held for each lot before it.
abbrev pub brought_by : Tables → Command → (List ℕ × List ℕ → ℕ) → ℕ → ℕ
brought_by s (Sign award named) held contract = cond (same_number award contract) (held (lot_in_award (award_at award s))) 0
brought_by s (AmendContract changed entry kind amount rationale) held contract = cond (same_number changed contract) (raised_by kind amount) 0
brought_by s command held contract = 0

-- The amount that a command takes out of contracted for a contract. `owed` is the amount owed under it before.
abbrev pub taken_by : Command → ℕ → ℕ → ℕ
taken_by (AmendContract changed entry kind amount rationale) owed contract = cond (same_number changed contract) (cut_by kind amount) 0
taken_by (Pay paying entry amount) owed contract = cond (same_number paying contract) amount 0
taken_by (End ending how) owed contract = cond (same_number ending contract) owed 0
taken_by command owed contract = 0

-- The amount that accepted commands brought into contracted for a contract.
abbrev pub brought : List Given → ℕ → ℕ
brought [] contract = 0
brought (x ∷ xs) contract = brought_by x.before x.command (reserved_for xs) contract + brought xs contract

-- The amount that accepted commands took out of contracted for a contract.
abbrev pub taken : List Given → ℕ → ℕ
taken [] contract = 0
taken (x ∷ xs) contract = taken_by x.command (brought xs contract - taken xs contract) contract + taken xs contract

-- The amount that is still owed under a contract.
abbrev pub owed : List Given → ℕ → ℕ
owed xs contract = brought xs contract - taken xs contract

-- A row that adds moves money from outside into free; a row that cuts moves it back.
abbrev pub move_of_row : BudgetRow → Move
move_of_row row = record { line = row.line; from = cond (is_cut row.kind) Free Outside; to = cond (is_cut row.kind) Outside Free; amount = row.amount }

-- A published lot reserves its estimate.
abbrev pub move_of_lot : NewLot → Move
move_of_lot lot = record { line = lot.line; from = Free; to = Reserved; amount = lot.estimate }

-- The amount that is held for a lot is free again.
abbrev pub move_back : (List ℕ × List ℕ → ℕ) → LotRow → Move
move_back held lot = record { line = lot.line; from = Reserved; to = Free; amount = held (lot.notice, lot.lot) }

-- An award reserves its price in place of the amount held for the lot, so the difference moves. Without a winner, the whole amount is free again.
abbrev pub move_of_award : List ℕ → ℕ → Option EnvelopeRow → Move
move_of_award line held None = record { line = line; from = Reserved; to = Free; amount = held }
move_of_award line held (Some e) =
    cond (nat_le (price_of e) held)
    (record { line = line; from = Reserved; to = Free; amount = held - price_of e })
    (record { line = line; from = Free; to = Reserved; amount = price_of e - held })

-- A raise moves free money into contracted; a cut moves it back.
abbrev pub move_of_change : ChangeKind → List ℕ → ℕ → Move
move_of_change change_kinds.Raise line amount = record { line = line; from = Free; to = Contracted; amount = amount }
move_of_change change_kinds.Cut line amount = record { line = line; from = Contracted; to = Free; amount = amount }

-- The moves of a command. `earlier` are the commands accepted before it, the last one first.
abbrev pub moves_for : Tables → Command → List Given → List Move
moves_for s (Import batch rows) earlier = map move_of_row rows
moves_for s (Publish notice content) earlier = map move_of_lot content.lots
moves_for s (Cancel notice rationale) earlier = map (move_back (reserved_for earlier)) (filter is_open_lot (lots_of_notice notice s))
moves_for s (Award notice id) earlier =
    move_of_award (line_in (lot_at (notice, id) s)) (reserved_for earlier (notice, id)) (winner (notice_at notice s) (envelopes_of_lot notice id s)) ∷ []
moves_for s (Sign award named) earlier =
    record { line = line_in (lot_of_award (award_at award s) s); from = Reserved; to = Contracted; amount = reserved_for earlier (lot_in_award (award_at award s)) } ∷ []
moves_for s (AmendContract contract entry kind amount rationale) earlier = move_of_change kind (line_in (lot_of_contract (contract_at contract s) s)) amount ∷ []
moves_for s (Pay contract entry amount) earlier =
    record { line = line_in (lot_of_contract (contract_at contract s) s); from = Contracted; to = Paid; amount = amount } ∷ []
moves_for s (End contract how) earlier =
    record { line = line_in (lot_of_contract (contract_at contract s) s); from = Contracted; to = Free; amount = owed earlier contract } ∷ []
moves_for s command earlier = []

-- The moves of a given command.
abbrev pub moves_by : Given → List Given → List Move
moves_by x earlier = moves_for x.before x.command earlier

-- The moves of all accepted commands, the last command first.
abbrev pub moves : List Given → List Move
moves [] = []
moves (x ∷ xs) = moves_by x xs ++ moves xs

-- The amount that moves brought into a place of a line.
abbrev pub inflow : List Move → List ℕ → Pot → ℕ
inflow ms line pot = sum_over (λ (m : Move). cond (same_pot m.to pot && same_id m.line line) m.amount 0) ms

-- The amount that moves took out of a place of a line.
abbrev pub outflow : List Move → List ℕ → Pot → ℕ
outflow ms line pot = sum_over (λ (m : Move). cond (same_pot m.from pot && same_id m.line line) m.amount 0) ms

-- This amount is the money that came into the place, less the money that left it. For the outside, it is the money that left, less the money that came back.
abbrev pub IsBalance : List Move → List ℕ → Pot → ℕ → Type 0
IsBalance ms line Outside n = n + inflow ms line Outside ≡ outflow ms line Outside
IsBalance ms line pot n = n + outflow ms line pot ≡ inflow ms line pot
