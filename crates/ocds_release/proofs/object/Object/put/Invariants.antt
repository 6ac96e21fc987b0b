use Rattle.ocds_release.proofs.Names.{◌≡◌, map, drop, with_entries, entry_of, members_in}
use Rattle.ocds_release.proofs.object.Object.put.Given as goal

abbrev pub invariant-loop-name : goal.invariant-loop-name
invariant-loop-name l = with_entries (map entry_of (drop l.name-index l.members)) (members_in l.self) ≡ with_entries (map entry_of l.members) (members_in l.fn.self)
