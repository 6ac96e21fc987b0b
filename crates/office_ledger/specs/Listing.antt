-- The rows that a list of amounts has taken so far.
use Rattle.std.specs.Prelude.{◌≡◌, ◌+◌, ◌-◌, ◌^◌, List, length}
use Rattle.office_ledger.specs.Inside.Listing.{listed, ContractListing, LotListing, all_reserved}
use Rattle.office_ledger.specs.declared.joined.JoinedLot.{JoinedLot}

-- a list of amounts: the reserved amounts of lots, and the sums of contracts
pub record Listing : Type 0 where
  pub reserved : LotListing
  pub contracts : ContractListing

-- the list has taken exactly these rows, and counted them
pub record HasListed (rows : List JoinedLot) (s : Listing) : Type 0 where
  pub reserved : s.reserved ≡ all_reserved rows
  pub sums : s.contracts.listed ≡ listed rows
  pub counted : length rows + s.contracts.left ≡ 2 ^ 64 - 1
