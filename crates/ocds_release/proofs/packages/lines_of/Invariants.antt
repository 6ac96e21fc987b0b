use Rattle.ocds_release.proofs.Names.{◌≡◌, map, take, view, text}
use Rattle.ocds_release.proofs.packages.lines_of.Given as goal

abbrev pub invariant-loop-line : goal.invariant-loop-line
invariant-loop-line l = map view l.list.items ≡ map text (take l.line-index l.lines)
