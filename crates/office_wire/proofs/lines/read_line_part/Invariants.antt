use Rattle.office_wire.proofs.Names.{◌≤◌, ◌≡◌, Keeps}
use Rattle.office_wire.proofs.lines.read_line_part.Given as goal

abbrev pub invariant-tries : goal.invariant-tries
invariant-tries g l = record {
  kept : Keeps l.fn.reader.remaining l.reader.remaining;
  left : l.reader.left ≤ l.fn.reader.left;
  whole : l.reader.has_failed ≡ l.fn.reader.has_failed;
  same : l.line.items ≡ l.fn.line.items;
}

abbrev pub decreases-tries : goal.decreases-tries
decreases-tries g l = l.reader.left
