use Rattle.ocds_release.proofs.Names.{◌≡◌, map, take, view, tenderer_shown, tenderer_reference_of}
use Rattle.ocds_release.proofs.events.open.references_of.Given as goal

abbrev pub invariant-loop-row : goal.invariant-loop-row
invariant-loop-row l = map view l.list.items ≡ map tenderer_reference_of (map tenderer_shown (take l.row-index l.rows))
