use Rattle.office_wire.proofs.Names.{◌≡◌, ◌≤◌, ◌-◌, length, take, Appends}
use Rattle.office_wire.proofs.sending.send.Given as goal

abbrev pub invariant-parts : goal.invariant-parts
invariant-parts g l = record {
  within : l.at ≤ length l.bytes;
  sent : Appends l.fn.writer.contents l.writer.contents (take l.at l.bytes);
  sound : l.writer.has_failed ≡ l.fn.writer.has_failed;
}

abbrev pub decreases-parts : goal.decreases-parts
decreases-parts g l = length l.bytes - l.at
