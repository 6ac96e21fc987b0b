use Rattle.keyed_table.proofs.Names.{ap, ◌∙◌, values_of, rows_after}
use Rattle.keyed_table.proofs.RowRanges.{values-after}
use Rattle.keyed_table.proofs.table.Table.after.Goals as goal

pub returns-clause-rows : goal.returns-clause-rows
returns-clause-rows g c =
    ap values_of (rw c.start_of.ensures at (c.range.ensures.between tt))
    ∙ values-after g.met.R.Key.Ord.total g.R.Row.key_of c.args.key c.self.inside.rows.entries c.self.invariant.own
    ∙ ap (λ rows. rows_after g.R.Key.Ord.cmp g.R.Row.key_of c.args.key rows) c.self.view_is
