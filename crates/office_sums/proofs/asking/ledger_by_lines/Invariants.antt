use Rattle.office_sums.proofs.Names.{◌≡◌, drop, Keeps, Tables, Remembers}
use Rattle.office_sums.proofs.LedgerSoFar.{IsLedgerSoFar}
use Rattle.office_sums.proofs.asking.ledger_by_lines.Given as goal

-- the rows so far and those of the rest of the lines are the ledger
abbrev pub invariant-loop-line : goal.invariant-loop-line
invariant-loop-line g l =
    Keeps g.H.Lookups.meaning l.fn.shelf l.shelf
    × (g.H.Lookups.meaning.honest l.shelf → (t : Tables) → g.H.Lookups.meaning.holds l.fn.shelf t → Remembers l.fn.known t → Remembers l.known t)
    × (g.H.Lookups.meaning.honest l.shelf → (t : Tables) → g.H.Lookups.meaning.holds l.fn.shelf t → l.lines ≡ t.lines → Remembers l.fn.known t
    → IsLedgerSoFar (drop l.line-index l.lines) l.rows.items t)
