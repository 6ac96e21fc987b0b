use Rattle.office_memory.proofs.Names.{ap, sym, ◌∙◌, List, nat_cmp, seal_key, after_put, SealRow, rows_drop, without_seals, tables_of}
use Rattle.office_memory.proofs.RowsDropped.{rows_drop-push}
use Rattle.office_memory.proofs.tables.put_one.Goals as goal

pub returns-in_ok-push-in-DropSeal-clause-after : goal.returns-in_ok-push-in-DropSeal-clause-after
returns-in_ok-push-in-DropSeal-clause-after c =
    let old = c.args.tables.now.seals in
    ap (λ (seals : List SealRow). record (tables_of c.args.tables.now) { seals = seals })
    (ap (rows_drop nat_cmp seal_key old) (rw c.get.ensures.value at c.in_ok-push-in-DropSeal.ensures.items)
    ∙ rows_drop-push nat_cmp seal_key old c.args.drops.now.items c.in-DropSeal.receipt)
    ∙ sym (ap (λ put. after_put put (without_seals c.args.drops.now.items (tables_of c.args.tables.now))) c.in-DropSeal.is)
