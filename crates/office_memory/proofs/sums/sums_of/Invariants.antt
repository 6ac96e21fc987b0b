use Rattle.office_memory.proofs.Names.{◌≡◌, filter, length, values_of, same_number, EntryRow, bare_sums, sums_with_entries, HasRoom}
use Rattle.office_memory.proofs.sums.sums_of.Given as goal

-- adding the remaining entries gives the sums of the contract, and doesn't overflow
abbrev pub invariant-loop-kept : goal.invariant-loop-kept
invariant-loop-kept l =
    (sums_with_entries l.sums (values_of l.kept-iterator) ≡ sums_with_entries (bare_sums l.contract) (filter (λ (e : EntryRow). same_number e.contract l.contract.contract) l.entries))
    × HasRoom (length l.kept-iterator) l.sums
