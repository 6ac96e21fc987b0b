use Rattle.office_publications.proofs.Names.{◌≡◌, ◌+◌, ◌*◌, ◌≤◌, ◌^◌, drop, entry_sum, is_contract_cut}
use Rattle.office_publications.proofs.worth.cut.Given as goal

-- the sum so far and the sum of the rest add up to the whole; each entry adds at most the greatest amount
abbrev pub invariant-loop-entry : goal.invariant-loop-entry
invariant-loop-entry l =
    (l.sum + entry_sum is_contract_cut (drop l.entry-index l.entries) l.contract ≡ entry_sum is_contract_cut l.entries l.contract) × (l.sum ≤ l.entry-index * 10 ^ 12)
