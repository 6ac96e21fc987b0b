use Rattle.std.proofs.Common.{◌≡◌, ◌+◌, ◌*◌, ◌≤◌, ◌^◌, drop}
use Rattle.office_base.specs.EntryKinds.{is_raise}
use Rattle.office_base.specs.Joined.{entry_sum}
use Rattle.award_core.proofs.entries.raised.Given as goal

-- the sum so far and that of the remaining entries are the whole sum, and each entry added at most 10^12
abbrev pub invariant-loop-entry : goal.invariant-loop-entry
invariant-loop-entry l =
    (l.sum + entry_sum is_raise (drop l.entry-index l.entries) l.contract ≡ entry_sum is_raise l.entries l.contract) × (l.sum ≤ l.entry-index * 10 ^ 12)
