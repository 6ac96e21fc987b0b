use Rattle.office_memory.proofs.Names.{◌++◌, map, filter, ap, ◌∙◌, same_id, sums_of, ContractRow, tables_of, filter_filter}
use Rattle.office_memory.proofs.sums.push_sums.Goals as goal

pub loop-contract-init : goal.loop-contract-init
loop-contract-init c =
    ap (λ cs. c.args.sums.now.items ++ map (sums_of (tables_of c.args.tables.now).entries) (filter (λ (r : ContractRow). same_id r.lot c.args.lot.now.lot) cs))
    (ap (map (λ r. r.now)) c.into_iter-contract-iterator.ensures.into_iter_gives.0 ∙ c.in_ok-contract-items.ensures)
    ∙ ap (λ cs. c.args.sums.now.items ++ map (sums_of (tables_of c.args.tables.now).entries) cs)
    (filter_filter (λ (r : ContractRow). same_id r.lot c.args.lot.now.lot) (λ (r : ContractRow). same_id r.notice c.args.lot.now.notice) (tables_of c.args.tables.now).contracts)
