use Rattle.office_memory.proofs.Names.{◌≡◌, ap, ◌∙◌, reservations, sums_under, sums_of_line, lots_of_line, tables_of}
use Rattle.office_memory.proofs.Reserved.{reserved_is}
use Rattle.office_memory.proofs.sums.amounts_of_line.Goals as goal

pub returns : goal.returns
returns c =
    let reserved : c.in_ok-reserved.reserved.items ≡ reservations c.args.line.now (tables_of c.args.tables.now) =
    rw c.deref.ensures.value at c.in_ok-reserved.ensures ∙ reserved_is c.in_ok-lots.lots.items (lots_of_line c.args.line.now (tables_of c.args.tables.now)) c.in_ok-lots.ensures in
    let contracts : c.in_ok-contracts.contracts.items ≡ sums_of_line c.args.line.now (tables_of c.args.tables.now) =
    c.in_ok-contracts.ensures ∙ ap (sums_under (tables_of c.args.tables.now)) c.in_ok-lots.ensures in
    c.from_vecs.ensures ∙ (λ i. record { reserved = reserved i; contracts = contracts i })
