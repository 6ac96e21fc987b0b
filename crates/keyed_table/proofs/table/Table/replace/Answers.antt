use Rattle.keyed_table.proofs.Names.{List, IsSome, ap, sym, ◌∙◌, subst, row_at, row_put}
use Rattle.keyed_table.proofs.KeyedTrees.{replaced, not_missed}
use Rattle.keyed_table.proofs.table.Table.replace.Goals as goal
use Rattle.keyed_table.proofs.table.Table.replace.Goals.{in-Some, in_default}

pub invariant_of-self : goal.invariant_of-self
invariant_of-self g c =
    let key = g.R.Row.key_of in
    let family : List g.row.R.Denot → Type 0 = λ rows. IsSome (row_at g.R.Key.Ord.cmp key rows (key c.args.row)) in
    let there = subst family (sym c.self.view_is) c.requires in
    elim c.match-get_mut.branch [
      | in-Some w ↦
          rw (w.self-inside-is, w.set.ensures)
          (replaced g.met.R.Key.Ord.total key g.R.Key.Known.is_known c.args.row c.self.inside.rows.entries _ c.self.invariant (rw c.key-key.ensures at c.look.ensures) there
          (rw (c.key-key.ensures, w.set.ensures) at (c.get_mut.follows.holds w.set.new.self).0)).0
      | in_default w ↦
          not_missed g.met.R.Key.Ord.total key g.R.Key.Known.is_known (key c.args.row) c.self.inside.rows.entries c.self.invariant there (rw c.key-key.ensures at w.in_default.ensures.value)
    ]

pub returns : goal.returns
returns g c =
    let key = g.R.Row.key_of in
    let family : List g.row.R.Denot → Type 0 = λ rows. IsSome (row_at g.R.Key.Ord.cmp key rows (key c.args.row)) in
    let there = subst family (sym c.self.view_is) c.requires in
    elim c.match-get_mut.branch [
      | in-Some w ↦
          rw (w.self-inside-is, w.set.ensures)
          ((replaced g.met.R.Key.Ord.total key g.R.Key.Known.is_known c.args.row c.self.inside.rows.entries _ c.self.invariant (rw c.key-key.ensures at c.look.ensures) there
          (rw (c.key-key.ensures, w.set.ensures) at (c.get_mut.follows.holds w.set.new.self).0)).1
          ∙ ap (λ rows. row_put g.R.Key.Ord.cmp key rows c.args.row) c.self.view_is)
      | in_default w ↦
          not_missed g.met.R.Key.Ord.total key g.R.Key.Known.is_known (key c.args.row) c.self.inside.rows.entries c.self.invariant there (rw c.key-key.ensures at w.in_default.ensures.value)
    ]
