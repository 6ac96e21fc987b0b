use Rattle.office_memory.proofs.Names.{ap, ◌∙◌, List, nat_cmp, seal_key, put_seal, SealRow, rows_drop, tables_of}
use Rattle.office_memory.proofs.SealsDropped.{seal_put}
use Rattle.office_memory.proofs.tables.put_seal.Goals as goal

pub returns-clause-after : goal.returns-clause-after
returns-clause-after c =
    let old = c.args.tables.now.seals in
    ap (λ (seals : List SealRow). record (tables_of c.args.tables.now) { seals = seals })
    (ap (λ rows. rows_drop nat_cmp seal_key rows c.forget.new.drops.items) c.in_ok-replaced.ensures.rows
    ∙ ap (rows_drop nat_cmp seal_key (put_seal old c.args.row)) (rw c.key-receipt.ensures at c.forget.ensures)
    ∙ seal_put c.rows_are_kept.ensures old c.args.drops.now.items c.args.row c.keys_rise.ensures)
