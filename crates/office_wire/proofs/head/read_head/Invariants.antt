use Rattle.office_wire.proofs.Names.{◌≡◌, ◌≤◌, ◌-◌, ℕ, List, ◌++◌, length, Some, HasNoRequest}
use Rattle.office_wire.proofs.head.read_head.Given as goal

abbrev pub invariant-bytes : goal.invariant-bytes
invariant-bytes g l = record {
  short : length l.lines ≤ 8192;
  none : HasNoRequest l.lines;
  left : l.reader.left ≤ l.fn.reader.left;
  sound : l.reader.has_failed ≡ l.fn.reader.has_failed;
  read : (input : List ℕ) → l.fn.reader.remaining ≡ Some input → (rest : List ℕ) × (l.reader.remaining ≡ Some rest) × (input ≡ l.lines ++ rest);
}

abbrev pub decreases-bytes : goal.decreases-bytes
decreases-bytes g l = 8192 - length l.lines
