use Rattle.office_ledger.proofs.Names.{◌+◌, arith}
use Rattle.office_ledger.proofs.Rooms.{less_room}
use Rattle.office_ledger.proofs.line_sums.LineSums.take_contract.Goals as goal

pub take_entry-requires : goal.take_entry-requires
take_entry-requires c = c.enter_contract.ensures.room 1 c.requires

pub returns-in-Some-clause-room : goal.returns-in-Some-clause-room
returns-in-Some-clause-room c n h =
    c.take_entry.ensures.room n (c.enter_contract.ensures.room (n + 1) (less_room c.args.self.now (n + 2) (n + 1 + 1) (omega arith) h))

pub returns-in_default-clause-room : goal.returns-in_default-clause-room
returns-in_default-clause-room c n h = c.enter_contract.ensures.room n (less_room c.args.self.now (n + 2) (n + 1) (omega arith) h)
