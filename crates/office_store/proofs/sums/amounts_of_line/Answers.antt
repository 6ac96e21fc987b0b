use Rattle.office_store.proofs.Names.{[], ◌∷◌, Text, IsAsked, list_joined_of_line}
use Rattle.office_store.proofs.Joined.{asked_lots}
use Rattle.office_store.proofs.sums.amounts_of_line.Goals as goal

pub returns-in-Ok-clause-got : goal.returns-in-Ok-clause-got
returns-in-Ok-clause-got g c clean t sorted shows =
    let asked : IsAsked g.S.Store list_joined_of_line (Text c.args.line.now ∷ []) c.args.conn.now c.in-Ok.rows.items = rw (c.list_joined_of_line.ensures, c.as_bytes.ensures.value) at (c.in-Ok.ensures.asked clean) in
    c.amounts_of_rows.ensures t c.args.line.now sorted (rw c.as_slice.ensures.value (asked_lots g.S.Store c.stored_rows_show.ensures c.args.conn.now c.in-Ok.rows.items t sorted shows c.lots_are_shown.ensures c.args.line.now asked))
