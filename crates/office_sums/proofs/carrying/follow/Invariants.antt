use Rattle.office_sums.proofs.Names.{◌≡◌, take, Looks, Follows, KnowsEntries}
use Rattle.office_sums.proofs.carrying.follow.Given as goal

-- the sums are right after the changes that were passed
abbrev pub invariant-loop-at : goal.invariant-loop-at
invariant-loop-at g l =
    Looks g.H.Lookups.meaning l.fn.shelf l.shelf (λ t. KnowsEntries l.listed t → Follows l.fn.known l.known (take l.at l.puts) t)
    × (g.H.Lookups.meaning.fault_count l.shelf ≡ g.H.Lookups.meaning.fault_count l.fn.shelf)
