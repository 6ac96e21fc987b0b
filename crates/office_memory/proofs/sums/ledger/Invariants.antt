use Rattle.office_memory.proofs.Names.{IsSorted, IsLedgerTo, tables_of}
use Rattle.office_memory.proofs.sums.ledger.Given as goal

abbrev pub invariant-loop-line : goal.invariant-loop-line
invariant-loop-line l = IsSorted (tables_of l.tables) → IsLedgerTo (tables_of l.tables) l.rows.items l.line-iterator
