use Rattle.office_plans.proofs.Names.{◌≡◌, ◌∷◌, [], ◌++◌, take, begin_array}
use Rattle.office_plans.proofs.Printed.{row_tokens}
use Rattle.office_plans.proofs.objects.write_rows.Given as goal

abbrev pub invariant-loop-row : goal.invariant-loop-row
invariant-loop-row g l =
    (l.out.before ≡ l.fn.out.before)
    × (l.out.tokens ≡ (l.fn.out.tokens ++ begin_array ∷ []) ++ row_tokens (g.O.RowObject.members_of l.shown) (take l.row-index l.rows))
