use Rattle.ocds_merge.proofs.Names.{◌≡◌, map, take, option_map, view, merge_of}
use Rattle.ocds_merge.proofs.compiling.merge_in_order.Given as goal

abbrev pub invariant-loop-release : goal.invariant-loop-release
invariant-loop-release l = option_map view l.merge ≡ merge_of (map (λ r. view r.now) (take l.release-index l.order))
