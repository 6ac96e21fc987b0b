use Rattle.ocds_merge.proofs.Names.{◌≡◌, map, take, option_map, view, merge_of}
use Rattle.ocds_merge.proofs.merging.merge_all.Given as goal

abbrev pub invariant-loop-value : goal.invariant-loop-value
invariant-loop-value l = option_map view l.merge ≡ merge_of (map view (take l.value-index l.values))
