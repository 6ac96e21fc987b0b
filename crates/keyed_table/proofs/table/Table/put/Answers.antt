use Rattle.keyed_table.proofs.Names.{ap, sym, ◌∙◌, List, subst, with_old, IsThere}
use Rattle.keyed_table.proofs.Undone.{back, there}
use Rattle.keyed_table.proofs.table.Table.put.Goals as goal

pub returns-clause-back : goal.returns-clause-back
returns-clause-back g c =
    ap (λ k. with_old g.R.Key.Ord.cmp g.R.Row.key_of k c.in_ok-old.old c.insert.new.self) c.key-key.ensures
    ∙ ap (λ rows. with_old g.R.Key.Ord.cmp g.R.Row.key_of (g.R.Row.key_of c.args.row) c.in_ok-old.old rows) (rw c.in_ok-new.ensures at c.in_ok-old.ensures.rows)
    ∙ back g.met.R.Key.Ord.total g.R.Row.key_of c.rows_are_kept.ensures c.args.row c.args.self.now c.in_ok-old.old (rw c.in_ok-new.ensures at c.in_ok-old.ensures.old)

pub returns-clause-can : goal.returns-clause-can
returns-clause-can g c =
    let family : List g.row.R.Denot → Type 0 = λ rows. IsThere g.R.Key.Ord.cmp g.R.Row.key_of c.in_ok-old.old rows in
    subst family (sym (rw c.in_ok-new.ensures at c.in_ok-old.ensures.rows)) (there g.met.R.Key.Ord.total g.R.Row.key_of c.rows_are_kept.ensures c.args.row c.args.self.now c.in_ok-old.old (rw c.in_ok-new.ensures at c.in_ok-old.ensures.old))
