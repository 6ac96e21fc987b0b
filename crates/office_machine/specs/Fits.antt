-- In every reached office, each sum over rows is within the bound of sums.
use Rattle.std.specs.Prelude.{◌≡◌, ℕ, ◌≤◌, List, Some}
use Rattle.office_values.specs.Money.{total_limit}
use Rattle.office_base.specs.declared.records.LotRow.{LotRow}
use Rattle.office_base.specs.declared.records.ContractRow.{ContractRow}
use Rattle.office_base.specs.Tables.{Tables, lot_at, contract_at}
use Rattle.office_base.specs.Joined.{plus, minus, outstanding, paid_under, reserved, contracted, paid}
use Rattle.office_machine.specs.Accounts.{appropriation, free}
use Rattle.office_machine.specs.Machine.{Means, Given, Reaches}

-- The appropriation and the four balances of the line are within the bound of sums.
pub record LineInRange (line : List ℕ) (t : Tables) : Type 0 where
  pub appropriation_fits : appropriation line t ≤ total_limit
  pub free_fits : free line t ≤ total_limit
  pub reserved_fits : reserved line t ≤ total_limit
  pub contracted_fits : contracted line t ≤ total_limit
  pub paid_fits : paid line t ≤ total_limit

-- No more was cut, paid and released under the contract than was signed and raised, and its sums are within the bound.
pub record ContractFits (t : Tables) (c : ContractRow) : Type 0 where
  pub within : minus t.entries c ≤ plus t.entries c
  pub outstanding_fits : outstanding t.entries c ≤ total_limit
  pub paid_fits : paid_under t.entries c ≤ total_limit

-- The sums of every line and every contract are within the bound, and so is the reserved amount of every lot.
pub record AllFit (t : Tables) : Type 0 where
  pub lines : (line : List ℕ) → LineInRange line t
  pub lots : (key : List ℕ × List ℕ) (lot : LotRow) → lot_at key t ≡ Some lot → lot.reserved ≤ total_limit
  pub contracts : (number : ℕ) (c : ContractRow) → contract_at number t ≡ Some c → ContractFits t c

-- The law: this is true of every reached office.
abbrev pub SumsInRange : Type 0
SumsInRange = (means : Means) (xs : List Given) (t : Tables) → Reaches means xs t → AllFit t
