use Rattle.office_memory.proofs.Names.{refl, nat_cmp_total, same_number}
use Rattle.office_memory.proofs.KeyBounds.{between_ids, ids_in_order}
use Rattle.office_memory.proofs.belonging.EntryRowChild.key_range.Goals as goal

pub returns-clause-in_order : goal.returns-clause-in_order
returns-clause-in_order c = rw (c.least_id.ensures, c.greatest_id.ensures) (ids_in_order nat_cmp_total c.args.contract.now)

pub returns-clause-between : goal.returns-clause-between
returns-clause-between c r known =
    rw (c.least_id.ensures, c.greatest_id.ensures) (between_ids nat_cmp_total {same = same_number} (λ _ _. refl) c.args.contract.now r.contract r.entry known.1)
