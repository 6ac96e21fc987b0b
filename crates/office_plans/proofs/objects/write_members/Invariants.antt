use Rattle.office_plans.proofs.Names.{◌≡◌, ◌++◌, map, take, flat_map, entry_of, member_tokens}
use Rattle.office_plans.proofs.objects.write_members.Given as goal

abbrev pub invariant-loop-name : goal.invariant-loop-name
invariant-loop-name l = (l.out.before ≡ l.fn.out.before) × (l.out.tokens ≡ l.fn.out.tokens ++ flat_map member_tokens (map entry_of (take l.name-index l.members)))
