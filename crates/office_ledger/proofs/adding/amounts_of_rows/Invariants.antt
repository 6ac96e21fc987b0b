use Rattle.office_ledger.proofs.Names.{map, take, HasListed, joined_lot_read}
use Rattle.office_ledger.proofs.adding.amounts_of_rows.Given as goal

abbrev pub invariant-rows : goal.invariant-rows
invariant-rows l = HasListed (map joined_lot_read (take l.row-index l.rows)) l.amounts
