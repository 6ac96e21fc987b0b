use Rattle.tender_core.proofs.Names.{◌≡◌, ◌++◌, map, filter, drop, security_returned, is_ended_security}
use Rattle.tender_core.proofs.ended.push_securities.Given as goal

abbrev pub invariant-loop-row : goal.invariant-loop-row
invariant-loop-row l =
    l.made.items ++ map security_returned (filter (is_ended_security l.lots) (drop l.row-index l.securities))
    ≡ l.fn.made.items ++ map security_returned (filter (is_ended_security l.lots) l.securities)
