use Rattle.tender_core.proofs.Names.{◌≡◌, ◌+◌, ◌*◌, ◌≤◌, ◌^◌, drop, wanted}
use Rattle.tender_core.proofs.publish.wanted.Given as goal

-- the sum so far and that of the remaining lots are the whole sum, and each lot added at most 10^12
abbrev pub invariant-loop-lot : goal.invariant-loop-lot
invariant-loop-lot l = (l.sum + wanted l.line (drop l.lot-index l.lots) ≡ wanted l.line l.lots) × (l.sum ≤ l.lot-index * 10 ^ 12)
