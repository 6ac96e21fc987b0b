use Rattle.std.proofs.Common.{◌≡◌, ◌+◌, ◌≤◌, ◌++◌, drop, vec_len, vec_capacity}
use Rattle.office_base.specs.Transitions.{securities_returned}
use Rattle.award_core.proofs.securities.push_returned.Given as goal

-- The changes so far and those of the remaining securities are all changes. Each security so far took at most one place.
abbrev pub invariant-loop-security : goal.invariant-loop-security
invariant-loop-security l =
    (l.made.items ++ securities_returned (drop l.security-index l.securities) ≡ l.fn.made.items ++ securities_returned l.securities)
    × (vec_len l.made ≤ vec_len l.fn.made + l.security-index)
    × (vec_capacity l.made ≡ vec_capacity l.fn.made)
