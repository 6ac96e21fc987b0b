use Rattle.office_memory.proofs.Names.{ap, ◌∙◌, LineAmounts, tables_of}
use Rattle.office_memory.proofs.AddedUp.{row_found, no_row}
use Rattle.office_memory.proofs.sums.ledger_row.Goals as goal

pub returns-in-Some : goal.returns-in-Some
returns-in-Some c sorted =
    row_found c.joined_sums.ensures (tables_of c.args.tables.now) sorted c.args.row.now c.as_slice.result.now c.as_slice-2.result.now
    (c.as_slice.ensures ∙ ap (λ (a : LineAmounts). a.reserved) c.in_ok-amounts.ensures) (c.as_slice-2.ensures ∙ ap (λ (a : LineAmounts). a.contracts) c.in_ok-amounts.ensures)
    c.in-Some.pots c.in-Some.ensures.pots c.in-Some.ensures.fit

pub returns : goal.returns
returns c sorted =
    no_row c.joined_sums.ensures (tables_of c.args.tables.now) sorted c.args.row.now c.as_slice.result.now c.as_slice-2.result.now
    (c.as_slice.ensures ∙ ap (λ (a : LineAmounts). a.reserved) c.in_ok-amounts.ensures) (c.as_slice-2.ensures ∙ ap (λ (a : LineAmounts). a.contracts) c.in_ok-amounts.ensures)
    c.in-None.ensures.unfit
