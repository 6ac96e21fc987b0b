use Rattle.keyed_table.proofs.Names.{ap, ◌∙◌, subst, List, AllByRecursion, values_of, rows_between}
use Rattle.keyed_table.proofs.RowRanges.{values-between}
use Rattle.keyed_table.proofs.table.Table.range.Goals as goal

pub returns-clause-rows : goal.returns-clause-rows
returns-clause-rows g c =
    ap values_of (rw (c.new.ensures.start, c.new.ensures.end) at (c.range.ensures.between tt))
    ∙ values-between g.met.R.Key.Ord.total g.R.Row.key_of c.args.first.now c.args.last.now c.self.inside.rows.entries c.self.invariant.own
    ∙ ap (λ rows. rows_between g.R.Key.Ord.cmp g.R.Row.key_of c.args.first.now c.args.last.now rows) c.self.view_is

pub returns-clause-known : goal.returns-clause-known
returns-clause-known g c =
    let family : List g.row.R.Denot → Type 0 = λ rows. AllByRecursion (λ r. g.R.Key.Known.is_known (g.R.Row.key_of r)) rows in
    subst family c.self.view_is c.self.invariant.known
