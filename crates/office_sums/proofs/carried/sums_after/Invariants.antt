use Rattle.office_sums.proofs.Names.{◌≡◌, drop, sums_with_entries}
use Rattle.office_sums.proofs.carried.sums_after.Given as goal

-- adding the remaining entries gives the sums after all of them
abbrev pub invariant-loop-entry : goal.invariant-loop-entry
invariant-loop-entry l = sums_with_entries l.sums (drop l.entry-index l.entries) ≡ sums_with_entries l.fn.before l.entries
