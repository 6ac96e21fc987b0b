use Rattle.office_wire.proofs.Names.{length, ◌-◌, ◌≡◌, ◌≤◌, drop, skip_empty}
use Rattle.office_wire.proofs.lines.after_empty_lines.Given as goal

abbrev pub invariant-loop-at : goal.invariant-loop-at
invariant-loop-at l = record { within : l.at ≤ length l.bytes; same : skip_empty (drop l.at l.bytes) ≡ skip_empty l.bytes }

abbrev pub decreases-loop-at : goal.decreases-loop-at
decreases-loop-at l = length l.bytes - l.at
