use Rattle.office_memory.proofs.Names.{◌≡◌, ◌++◌, filter, map, same_id, sums_of, contracts_of_lot, lot_key, ContractRow, tables_of}
use Rattle.office_memory.proofs.sums.push_sums.Given as goal

-- the sums that were appended and those of the remaining contracts are all sums of the lot
abbrev pub invariant-loop-contract : goal.invariant-loop-contract
invariant-loop-contract l =
    l.sums.items ++ map (sums_of (tables_of l.tables).entries) (filter (λ (c : ContractRow). same_id c.lot l.lot.lot) (map (λ r. r.now) l.contract-iterator.rest.items))
    ≡ l.fn.sums.items ++ map (sums_of (tables_of l.tables).entries) (contracts_of_lot (lot_key l.lot) (tables_of l.tables))
