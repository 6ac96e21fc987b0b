-- The accounts: in every reached office, each balance of each budget line is the money that accepted commands moved into it, less what they moved out.
use Rattle.std.specs.Prelude.{◌≡◌, ℕ, ◌+◌, ◌≤◌, List, Some}
use Rattle.office_base.specs.Tables.{Tables, IsSorted, line_at, contract_at}
use Rattle.office_base.specs.declared.records.ContractRow.{ContractRow}
use Rattle.office_base.specs.Joined.{appropriation_in, free_in, plus, minus, reserved, contracted, paid}
use Rattle.office_machine.specs.Machine.{Means, Given, Reaches}
use Rattle.office_machine.specs.Moves.{Outside, Free, Reserved, Contracted, Paid, IsBalance, moves}

-- The appropriation of a budget line; 0 if the line doesn't exist.
abbrev pub appropriation : List ℕ → Tables → ℕ
appropriation line t = appropriation_in (line_at line t)

-- The free money of a budget line; 0 if the line doesn't exist.
abbrev pub free : List ℕ → Tables → ℕ
free line t = free_in (line_at line t)

-- The appropriation and the four balances of a line equal the money that commands moved, and the balances add up to the appropriation. The reserved, contracted
-- and paid money is summed from rows.
pub record IsBalanced (line : List ℕ) (xs : List Given) (t : Tables) : Type 0 where
  pub appropriation_is : IsBalance (moves xs) line Outside (appropriation line t)
  pub free_is : IsBalance (moves xs) line Free (free line t)
  pub reserved_is : IsBalance (moves xs) line Reserved (reserved line t)
  pub contracted_is : IsBalance (moves xs) line Contracted (contracted line t)
  pub paid_is : IsBalance (moves xs) line Paid (paid line t)
  pub adds_up : appropriation line t ≡ free line t + reserved line t + contracted line t + paid line t

-- The law: in every reached office, the rows of each table are in the order of their keys, and no key occurs twice.
abbrev pub TablesAreInOrder : Type 0
TablesAreInOrder = (means : Means) (xs : List Given) (t : Tables) → Reaches means xs t → IsSorted t

-- Every line is balanced.
abbrev pub AreBalanced : List Given → Tables → Type 0
AreBalanced xs t = (line : List ℕ) → IsBalanced line xs t

-- The accounts of an office are right: every line is balanced, and no row counts twice, since rows are in the order of their keys, each key once. No contract
-- gave more than it got, so no difference of sums hides a debt.
pub record AccountsHold (xs : List Given) (t : Tables) : Type 0 where
  pub balanced : AreBalanced xs t
  pub within : (number : ℕ) (c : ContractRow) → contract_at number t ≡ Some c → minus t.entries c ≤ plus t.entries c
  pub in_order : IsSorted t

-- The law: the accounts are right in every reached office.
abbrev pub AccountsAreKept : Type 0
AccountsAreKept = (means : Means) (xs : List Given) (t : Tables) → Reaches means xs t → AccountsHold xs t
