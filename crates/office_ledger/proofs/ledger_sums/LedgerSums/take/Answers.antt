use Rattle.office_ledger.proofs.Following.{taken_next, fault_next}
use Rattle.office_ledger.proofs.ledger_sums.LedgerSums.take.Goals as goal

pub returns-clause-taken : goal.returns-clause-taken
returns-clause-taken c rows h = taken_next rows c.args.row c.args.self.now c.add.new.self c.add.result h c.add.ensures.added c.add.ensures.counted

pub returns-clause-fault : goal.returns-clause-fault
returns-clause-fault c rows h = fault_next rows c.args.row c.args.self.now c.joined_sums.ensures c.add.result h c.add.ensures.fault
