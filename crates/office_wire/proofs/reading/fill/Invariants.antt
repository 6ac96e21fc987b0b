use Rattle.office_wire.proofs.Names.{◌≤◌, ◌-◌, ◌≡◌, length, take, Consumes}
use Rattle.office_wire.proofs.reading.fill.Given as goal

abbrev pub invariant-parts : goal.invariant-parts
invariant-parts g l = record {
  within : l.at ≤ length l.buf;
  left : l.reader.left ≤ l.fn.reader.left;
  whole : l.reader.has_failed ≡ l.fn.reader.has_failed;
  given : Consumes l.fn.reader.remaining l.reader.remaining (take l.at l.buf);
}

abbrev pub decreases-parts : goal.decreases-parts
decreases-parts g l = length l.buf - l.at
