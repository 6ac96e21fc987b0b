use Rattle.office_tables.proofs.Names.{[], ◌∷◌, ◌∙◌}
use Rattle.office_tables.proofs.Exactly.{columns_are}
use Rattle.office_tables.proofs.tables.tenderers.TendererRowStored.from_row.Goals as goal

pub returns-clause-exact : goal.returns-clause-exact
returns-clause-exact c =
    (λ i. c.in_ok-id_at.ensures.exact i ∷ c.in_ok-line_at.ensures.exact i ∷ c.in_ok-line_at-2.ensures.exact i ∷ c.in_ok-digest_at.ensures.exact i ∷ [])
    ∙ columns_are c.args.row.now 4 c.in_ok-has_columns.ensures.exact
