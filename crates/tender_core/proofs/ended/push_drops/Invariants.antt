use Rattle.tender_core.proofs.Names.{◌≡◌, ◌++◌, map, filter, drop, is_ended_envelope, drop_put}
use Rattle.tender_core.proofs.ended.push_drops.Given as goal

abbrev pub invariant-loop-row : goal.invariant-loop-row
invariant-loop-row l =
    l.made.items ++ map drop_put (filter (is_ended_envelope l.lots) (drop l.row-index l.envelopes))
    ≡ l.fn.made.items ++ map drop_put (filter (is_ended_envelope l.lots) l.envelopes)
