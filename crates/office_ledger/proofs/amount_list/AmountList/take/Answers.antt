use Rattle.office_ledger.proofs.Listed.{listed_next}
use Rattle.office_ledger.proofs.amount_list.AmountList.take.Goals as goal

pub returns-clause-taken : goal.returns-clause-taken
returns-clause-taken c rows h = listed_next rows c.args.lot c.args.self.now c.add.new.self c.add.result h c.add.ensures.added c.add.ensures.counted
