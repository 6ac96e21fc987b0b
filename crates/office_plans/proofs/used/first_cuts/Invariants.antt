use Rattle.office_plans.proofs.Names.{◌≡◌, drop, first_cuts}
use Rattle.office_plans.proofs.used.first_cuts.Given as goal

abbrev pub invariant-loop-row : goal.invariant-loop-row
invariant-loop-row l = first_cuts (drop l.row-index l.rows) l.line ≡ first_cuts l.rows l.line
