use Rattle.keyed_table.proofs.Names.{ap, ◌∙◌, Some, row_at}
use Rattle.keyed_table.proofs.KeyedTrees.{lookup-row_at}
use Rattle.keyed_table.proofs.table.Table.get.Goals as goal

pub returns-in-Some : goal.returns-in-Some
returns-in-Some g c =
    ap Some c.get-in-Some.ensures
    ∙ c.in-Some.ensures.value
    ∙ lookup-row_at g.met.R.Key.Ord.total g.R.Row.key_of c.args.key.now c.self.inside.rows.entries c.self.invariant.rising c.self.invariant.own
    ∙ ap (λ rows. row_at g.R.Key.Ord.cmp g.R.Row.key_of rows c.args.key.now) c.self.view_is

pub returns-in-None : goal.returns-in-None
returns-in-None g c =
    c.in-None.ensures.value
    ∙ lookup-row_at g.met.R.Key.Ord.total g.R.Row.key_of c.args.key.now c.self.inside.rows.entries c.self.invariant.rising c.self.invariant.own
    ∙ ap (λ rows. row_at g.R.Key.Ord.cmp g.R.Row.key_of rows c.args.key.now) c.self.view_is
