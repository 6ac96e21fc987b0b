use Rattle.office_tables.proofs.Names.{[], ◌∷◌, ◌∙◌}
use Rattle.office_tables.proofs.Exactly.{columns_are}
use Rattle.office_tables.proofs.tables.securities.SecurityRowStored.from_row.Goals as goal

pub returns-clause-exact : goal.returns-clause-exact
returns-clause-exact c =
    (λ i. c.in_ok-bounded_at.ensures.exact i ∷ c.in_ok-id_at.ensures.exact i ∷ c.in_ok-id_at-2.ensures.exact i ∷ c.in_ok-id_at-3.ensures.exact i ∷ c.in_ok-id_at-4.ensures.exact i ∷ c.in_ok-bounded_at-2.ensures.exact i ∷ c.in_ok-security_state_at.ensures.exact i ∷ [])
    ∙ columns_are c.args.row.now 7 c.in_ok-has_columns.ensures.exact
