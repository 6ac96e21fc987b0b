-- The sums of a line stay below 2^128: each row adds at most three amounts.
use Rattle.office_ledger.proofs.Names.{◌≡◌, ℕ, ◌+◌, ◌^◌, ◌≤◌, Some, ap, arith, sums_with_entry, ContractSums, EntryKind, Raise, Cut, Payment, open_sums, HasRoom, OpenContract, LineSums}

record IsWithin (x y : ContractSums) : Type 0 where
  gained : y.gained ≤ x.gained + 2 ^ 50
  lost : y.lost ≤ x.lost + 2 ^ 50
  paid : y.paid ≤ x.paid + 2 ^ 50

kind_within : (k : EntryKind) (amount : ℕ) (x : ContractSums) → amount ≤ 2 ^ 50 → IsWithin x (sums_with_entry k amount x)
kind_within Raise amount x h = record { gained = omega (arith, h); lost = omega arith; paid = omega arith }
kind_within Cut amount x h = record { gained = omega arith; lost = omega (arith, h); paid = omega arith }
kind_within Payment amount x h = record { gained = omega arith; lost = omega (arith, h); paid = omega (arith, h) }

-- an entry adds one amount
pub entry_room : (k : EntryKind) (amount number : ℕ) (s : LineSums) (current : OpenContract) (sums : ContractSums) → s.contract ≡ Some current → sums ≡ sums_with_entry k amount current.sums → amount ≤ 2 ^ 50
    → (n : ℕ) → HasRoom (n + 1) s → HasRoom n (record s { contract = Some (record { contract = number; sums = sums }) })
entry_room k amount number s current sums is are bound n h =
    let w = kind_within k amount current.sums bound in
    let g : (open_sums s.contract).gained ≡ current.sums.gained = ap (λ o. (open_sums o).gained) is in
    let l : (open_sums s.contract).lost ≡ current.sums.lost = ap (λ o. (open_sums o).lost) is in
    let p : (open_sums s.contract).paid ≡ current.sums.paid = ap (λ o. (open_sums o).paid) is in
    record {
      reserved = omega (arith, h.reserved);
      gained = omega (arith, h.gained, w.gained, g, ap (λ (x : ContractSums). x.gained) are);
      lost = omega (arith, h.lost, w.lost, l, ap (λ (x : ContractSums). x.lost) are);
      paid = omega (arith, h.paid, w.paid, p, ap (λ (x : ContractSums). x.paid) are);
    }

-- if more amounts can be added, fewer can
pub less_room : (s : LineSums) (m n : ℕ) → n ≤ m → HasRoom m s → HasRoom n s
less_room s m n less h = record {
  reserved = omega (arith, h.reserved, less);
  gained = omega (arith, h.gained, less);
  lost = omega (arith, h.lost, less);
  paid = omega (arith, h.paid, less);
}
