use Rattle.keyed_table.proofs.Names.{ap, ◌∙◌, is_at, values_of, row_drop}
use Rattle.keyed_table.proofs.KeyedTrees.{values-remove_entry, own-remove_entry, known-drop}
use Rattle.keyed_table.proofs.table.Table.remove.Goals as goal

pub invariant_of-self : goal.invariant_of-self
invariant_of-self g c = record {
  rising = c.remove.ensures.ordered;
  own = rw c.remove.ensures.entries (own-remove_entry g.met.R.Key.Ord.total g.R.Row.key_of (is_at (g.R.Key.Ord.cmp c.args.key.now)) c.self.inside.rows.entries c.self.invariant.own);
  known = known-drop g.met.R.Key.Ord.total g.R.Row.key_of g.R.Key.Known.is_known c.args.key.now c.self.inside.rows.entries _ c.self.invariant c.remove.ensures.entries;
}

pub returns : goal.returns
returns g c =
    ap values_of c.remove.ensures.entries
    ∙ values-remove_entry g.met.R.Key.Ord.total g.R.Row.key_of c.args.key.now c.self.inside.rows.entries c.self.invariant.rising c.self.invariant.own
    ∙ ap (λ rows. row_drop g.R.Key.Ord.cmp g.R.Row.key_of rows c.args.key.now) c.self.view_is
