-- The balances of a budget line, added up from the amounts that a store returns: one for each lot, and three sums for each contract.
use Rattle.std.specs.Prelude.{◌≡◌, ℕ, ◌-◌, ◌≤◌, ◌↔◌, Bool, List, nat_le}
use Rattle.std.specs.List.{AllByRecursion}
use Rattle.office_values.specs.Money.{total_limit}
use Rattle.office_base.specs.Sums.{sum_over}
use Rattle.office_base.specs.Tables.{Tables, IsSorted}
use Rattle.office_base.specs.Joined.{pots_of, reservations, sums_of_line, LineFits}
use Rattle.office_base.specs.declared.records.LineRow.{LineRow}
use Rattle.office_base.specs.declared.ledger.Pots.{Pots}
use Rattle.office_base.specs.declared.ledger.ContractSums.{ContractSums}

-- whether a contract lost at most as much as it gained
abbrev pub is_within : ContractSums → Bool
is_within sums = nat_le sums.lost sums.gained

-- the outstanding amount of a contract with these sums
abbrev pub outstanding_in : ContractSums → ℕ
outstanding_in sums = sums.gained - sums.lost

-- the amount paid under a contract with these sums
abbrev pub paid_in : ContractSums → ℕ
paid_in sums = sums.paid

-- the balances of the budget line with this row, these reserved amounts and these contracts
abbrev pub pots_with : LineRow → List ℕ → List ContractSums → Pots
pots_with row reserved contracts = record {
  appropriation = row.appropriation;
  free = row.free;
  reserved = sum_over (λ amount. amount) reserved;
  contracted = sum_over outstanding_in contracts;
  paid = sum_over paid_in contracts;
}

-- no contract lost more than it gained, and each sum is within the bound of sums
pub record SumsFit (reserved : List ℕ) (contracts : List ContractSums) : Type 0 where
  pub within : AllByRecursion (λ (sums : ContractSums). sums.lost ≤ sums.gained) contracts
  pub reserved_fits : sum_over (λ amount. amount) reserved ≤ total_limit
  pub contracted_fits : sum_over outstanding_in contracts ≤ total_limit
  pub paid_fits : sum_over paid_in contracts ≤ total_limit

-- the sums of a line's contracts, collected lot by lot, give the balances of the joined rows, and they fit their bounds exactly if the line does
pub record AreJoined (row : LineRow) (t : Tables) : Type 0 where
  pub pots : pots_with row (reservations row.line t) (sums_of_line row.line t) ≡ pots_of row t
  pub fits : SumsFit (reservations row.line t) (sums_of_line row.line t) ↔ LineFits row.line t

-- the sums collected lot by lot agree with the joined rows, on every budget line of tables in order
abbrev pub JoinedSums : Type 0
JoinedSums = (t : Tables) → IsSorted t → (row : LineRow) → AreJoined row t
