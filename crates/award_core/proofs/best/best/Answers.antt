use Rattle.std.proofs.Common.{Some, None, option_map, sym, ap, ◌∙◌}
use Rattle.award_core.proofs.BestFound.{receipt_found}
use Rattle.award_core.proofs.best.best.Goals as goal

pub returns-in-Some-clause-best : goal.returns-in-Some-clause-best
returns-in-Some-clause-best c =
    receipt_found c.args.weight c.args.rows.now (Some c.in-Some.row.now) (sym (ap (option_map (λ row. row.now)) c.in-Some.is) ∙ c.best_row.ensures)

pub returns-in-None-clause-best : goal.returns-in-None-clause-best
returns-in-None-clause-best c =
    receipt_found c.args.weight c.args.rows.now None (sym (ap (option_map (λ row. row.now)) c.in-None.is) ∙ c.best_row.ensures)
