use Rattle.office_memory.proofs.Names.{◌≡◌, true, false, refl, IsSome, ap, ◌∙◌, subst, list_any, is_at, keys_in}
use Rattle.office_memory.proofs.GroupIndex.{more_keys, is_only}
use Rattle.office_memory.proofs.group_index.GroupIndex.add.Goals as goal

pub returns-in-Some-clause-kept : goal.returns-in-Some-clause-kept
returns-in-Some-clause-kept g c =
    more_keys g.met.N.Group.Ord.total g.met.R.Key.Ord.total c.args.group c.args.self.now.keys (c.get_mut.follows.lender c.add_to.new.keys) c.add_to.new.keys
    ((c.get_mut.follows.holds c.add_to.new.keys).3 (subst IsSome c.in-Some.ensures.value refl)).0
    (λ k h. c.add_to.ensures.kept k (ap (λ found. list_any (is_at (g.R.Key.Ord.cmp k)) (keys_in found)) c.in-Some.ensures.value ∙ h))

pub returns-clause-has : goal.returns-clause-has
returns-clause-has g c =
    ap (λ found. list_any (is_at (g.R.Key.Ord.cmp c.args.key)) (keys_in found)) c.in_ok-insert.ensures.updates.1
    ∙ ap (λ keys. list_any (is_at (g.R.Key.Ord.cmp c.args.key)) keys) c.in_ok-only.ensures
    ∙ is_only g.met.R.Key.Ord.total c.args.key

pub returns-clause-kept : goal.returns-clause-kept
returns-clause-kept g c =
    more_keys g.met.N.Group.Ord.total g.met.R.Key.Ord.total c.args.group c.args.self.now.keys c.insert.new.self c.in_ok-only.field-0 (rw c.get_mut.follows.holds-at-none at c.in_ok-insert.ensures.updates.0)
    (λ k h. let none : false ≡ true = ap (λ found. list_any (is_at (g.R.Key.Ord.cmp k)) (keys_in found)) c.in_default.ensures.value ∙ h in cc)
