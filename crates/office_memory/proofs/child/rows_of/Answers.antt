use Rattle.office_memory.proofs.Names.{◌∙◌, between_is}
use Rattle.office_memory.proofs.child.rows_of.Goals as goal

pub returns-clause-rows : goal.returns-clause-rows
returns-clause-rows g c =
    c.range.ensures.rows
    ∙ between_is g.R.Key.Ord.cmp g.R.Row.key_of g.R.Key.Known.is_known c.key_range-first.result.0 c.key_range-first.result.1
    (g.R.Child.is_of c.args.parent.now) c.args.table.now c.range.ensures.known c.key_range-first.ensures.between
