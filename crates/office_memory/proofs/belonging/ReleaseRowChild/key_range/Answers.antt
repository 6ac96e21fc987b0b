use Rattle.office_memory.proofs.Names.{nat_list_cmp_total, texts_ties}
use Rattle.office_memory.proofs.KeyBounds.{between_numbers, numbers_in_order}
use Rattle.office_memory.proofs.belonging.ReleaseRowChild.key_range.Goals as goal

pub returns-clause-in_order : goal.returns-clause-in_order
returns-clause-in_order c = numbers_in_order nat_list_cmp_total c.args.notice.now

pub returns-clause-between : goal.returns-clause-between
returns-clause-between c r known = between_numbers nat_list_cmp_total texts_ties c.args.notice.now r.notice r.seq known.1
