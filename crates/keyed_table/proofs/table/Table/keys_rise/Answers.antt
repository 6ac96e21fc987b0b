use Rattle.keyed_table.proofs.Names.{subst, List, IsInOrder}
use Rattle.keyed_table.proofs.RowRanges.{in_order-values}
use Rattle.keyed_table.proofs.table.Table.keys_rise.Goals as goal

pub returns : goal.returns
returns g c =
    let family : List g.row.R.Denot → Type 0 = λ rows. IsInOrder g.R.Key.Ord.cmp g.R.Row.key_of rows in
    subst family c.self.view_is (in_order-values g.met.R.Key.Ord.total g.R.Row.key_of c.self.inside.rows.entries c.self.invariant.rising c.self.invariant.own)
