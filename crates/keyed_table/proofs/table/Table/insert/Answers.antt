use Rattle.keyed_table.proofs.Names.{ap, sym, ◌∙◌, get, insert_entry, values_of, row_at, row_put}
use Rattle.keyed_table.proofs.KeyedTrees.{lookup-row_at, values-insert_entry, own-insert_entry, known-put}
use Rattle.keyed_table.proofs.table.Table.insert.Goals as goal

pub invariant_of-self : goal.invariant_of-self
invariant_of-self g c = record {
  rising = c.insert.ensures.ordered;
  own = rw (c.in-Ok.ensures.entries, c.key-key.ensures, c.get.ensures) (own-insert_entry g.met.R.Key.Ord.total g.R.Row.key_of c.args.row c.self.inside.rows.entries c.self.invariant.own);
  known = known-put g.met.R.Key.Ord.total g.R.Row.key_of g.R.Key.Known.is_known c.args.row c.self.inside.rows.entries _ c.self.invariant (rw (c.key-key.ensures, c.get.ensures) at c.look.ensures) (rw (c.key-key.ensures, c.get.ensures) at c.in-Ok.ensures.entries);
}

pub returns-in-Ok-clause-rows : goal.returns-in-Ok-clause-rows
returns-in-Ok-clause-rows g c =
    ap values_of c.in-Ok.ensures.entries
    ∙ ap (λ k. values_of (insert_entry g.R.Key.Ord.cmp c.self.inside.rows.entries k c.args.row)) (c.key-key.ensures ∙ ap g.R.Row.key_of c.get.ensures)
    ∙ values-insert_entry g.met.R.Key.Ord.total g.R.Row.key_of c.args.row c.self.inside.rows.entries c.self.invariant.own
    ∙ ap (λ rows. row_put g.R.Key.Ord.cmp g.R.Row.key_of rows c.args.row) c.self.view_is

pub returns-in-Ok-clause-old : goal.returns-in-Ok-clause-old
returns-in-Ok-clause-old g c =
    c.in-Ok.ensures.old
    ∙ ap (λ k. get g.R.Key.Ord.cmp c.self.inside.rows k) (c.key-key.ensures ∙ ap g.R.Row.key_of c.get.ensures)
    ∙ lookup-row_at g.met.R.Key.Ord.total g.R.Row.key_of (g.R.Row.key_of c.args.row) c.self.inside.rows.entries c.self.invariant.rising c.self.invariant.own
    ∙ ap (λ rows. row_at g.R.Key.Ord.cmp g.R.Row.key_of rows (g.R.Row.key_of c.args.row)) c.self.view_is

pub returns-clause-fresh : goal.returns-clause-fresh
returns-clause-fresh g c =
    sym (ap (λ k. get g.R.Key.Ord.cmp c.self.inside.rows k) (c.key-key.ensures ∙ ap g.R.Row.key_of c.get.ensures)
    ∙ lookup-row_at g.met.R.Key.Ord.total g.R.Row.key_of (g.R.Row.key_of c.args.row) c.self.inside.rows.entries c.self.invariant.rising c.self.invariant.own
    ∙ ap (λ rows. row_at g.R.Key.Ord.cmp g.R.Row.key_of rows (g.R.Row.key_of c.args.row)) c.self.view_is)
    ∙ c.in-Err.ensures.absent
