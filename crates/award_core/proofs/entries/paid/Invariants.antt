use Rattle.std.proofs.Common.{◌≡◌, ◌+◌, ◌*◌, ◌≤◌, ◌^◌, drop}
use Rattle.office_base.specs.EntryKinds.{is_payment}
use Rattle.office_base.specs.Joined.{entry_sum}
use Rattle.award_core.proofs.entries.paid.Given as goal

-- the sum so far and that of the remaining entries are the whole sum, and each entry added at most 10^12
abbrev pub invariant-loop-entry : goal.invariant-loop-entry
invariant-loop-entry l =
    (l.sum + entry_sum is_payment (drop l.entry-index l.entries) l.contract.contract ≡ entry_sum is_payment l.entries l.contract.contract)
    × (l.sum ≤ l.entry-index * 10 ^ 12)
