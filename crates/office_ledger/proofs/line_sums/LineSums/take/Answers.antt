use Rattle.office_ledger.proofs.Names.{◌+◌, arith}
use Rattle.office_ledger.proofs.Rooms.{less_room}
use Rattle.office_ledger.proofs.line_sums.LineSums.take.Goals as goal

pub take_contract-requires : goal.take_contract-requires
take_contract-requires c = c.enter_lot.ensures.room 2 c.requires

pub returns-in-Some-clause-room : goal.returns-in-Some-clause-room
returns-in-Some-clause-room c n h =
    c.take_contract.ensures.room n (c.enter_lot.ensures.room (n + 2) (less_room c.args.self.now (n + 3) (n + 2 + 1) (omega arith) h))

pub returns-in_default-clause-room : goal.returns-in_default-clause-room
returns-in_default-clause-room c n h = c.enter_lot.ensures.room n (less_room c.args.self.now (n + 3) (n + 1) (omega arith) h)
