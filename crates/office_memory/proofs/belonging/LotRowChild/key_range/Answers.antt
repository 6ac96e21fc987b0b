use Rattle.office_memory.proofs.Names.{nat_list_cmp_total, texts_ties}
use Rattle.office_memory.proofs.KeyBounds.{between_ids, ids_in_order}
use Rattle.office_memory.proofs.belonging.LotRowChild.key_range.Goals as goal

pub returns-clause-in_order : goal.returns-clause-in_order
returns-clause-in_order c = rw (c.least_id.ensures, c.greatest_id.ensures) (ids_in_order nat_list_cmp_total c.args.notice.now)

pub returns-clause-between : goal.returns-clause-between
returns-clause-between c r known =
    rw (c.least_id.ensures, c.greatest_id.ensures) (between_ids nat_list_cmp_total texts_ties c.args.notice.now r.notice r.lot known.1)
