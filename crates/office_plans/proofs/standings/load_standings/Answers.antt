use Rattle.office_plans.proofs.Names.{◌≡◌, ◌+◌, ◌∷◌, List, suc, add-one, drop, map, sym, ap, ◌∙◌, arith, drop-cons, common_steps, BudgetRow, Standing, line_of_row, with_standings}
use Rattle.office_plans.proofs.standings.load_standings.Goals as goal

pub loop-row-preserved : goal.loop-row-preserved
loop-row-preserved g c =
    let rows : List BudgetRow = c.args.rows.now in
    let i = c.loop-row.row-index in
    let split : drop i rows ≡ c.row-item.result ∷ drop (i + 1) rows =
    rw add-one (drop-cons rows i c.row-item.result c.loop-row-test.true ∙ ap (λ r. r ∷ drop (suc i) rows) (sym c.row-item.is)) in
    let before = c.loop-row.invariant in
    let step = c.in_ok-load_standing.ensures in
    let kept = step.kept in
    let there = step.there in
    let named = before.1 in
    let item = c.row-item.is in
    let within = c.loop-row-test.true in (
      (
        c.looks_follow.ensures _ _ _ before.0.0 step.looks.0,
        λ honest s held.
            let mid = step.looks.0.before honest in
            ap (λ (m : List Standing). with_standings s m (map line_of_row (drop (i + 1) rows))) (step.looks.1 honest s (before.0.0.same mid s held))
            ∙ ap (λ (rest : List BudgetRow). with_standings s c.loop-row.lines (map line_of_row rest)) (sym split)
            ∙ before.0.1 mid s held,
      ),
      λ k d below. grind (arith, common_steps, kept, there, named, item, within),
      step.fit before.2,
    )
