use Rattle.office_ledger.proofs.Names.{ap, sym, ◌∙◌, ◌∷◌, joined_read, columns_are}
use Rattle.office_ledger.proofs.BackAgain.{row_back}
use Rattle.office_ledger.proofs.reading.joined_row.Goals as goal

exact : goal.returns-clause-exact
exact c =
    (λ i. c.in_ok-id_at.ensures.exact i ∷ c.in_ok-total_at.ensures.exact i ∷ c.in_ok-total_at-2.ensures.exact i ∷ c.in_ok-lot_from.ensures.exact i) ∙ columns_are c.args.row.now 12 c.in_ok-has_columns.ensures.exact

pub returns-clause-exact : goal.returns-clause-exact
returns-clause-exact = exact

pub returns-clause-read : goal.returns-clause-read
returns-clause-read c = sym (row_back _) ∙ ap joined_read (exact c)
