use Rattle.ocds_release.proofs.Names.{◌≡◌, map, take, view, tenderer_shown, opened_party}
use Rattle.ocds_release.proofs.events.open.parties_of.Given as goal

abbrev pub invariant-loop-row : goal.invariant-loop-row
invariant-loop-row l = map view l.list.items ≡ map opened_party (map tenderer_shown (take l.row-index l.rows))
