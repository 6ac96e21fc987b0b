use Rattle.office_ledger.proofs.Names.{map, take, HasTaken, joined_read}
use Rattle.office_ledger.proofs.adding.ledger_of_rows.Given as goal

abbrev pub invariant-rows : goal.invariant-rows
invariant-rows l = HasTaken (map joined_read (take l.row-index l.rows)) l.sums
