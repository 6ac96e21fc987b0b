-- Worked examples of budgets, computed.
use Rattle.office_machine.proofs.Names.{refl, row_at, row_put, row_drop, BudgetsWorked}

pub budgets_worked : BudgetsWorked
unfolding row_at row_put row_drop
budgets_worked = record {
  money_comes = refl;
  line_is_seen = refl;
  no_line_is_seen = refl;
  empty_file_once = refl;
  one_cut_too_much = refl;
  all_is_kept = refl;
  all_is_cut = refl;
  reserved_is_kept = refl;
  unknown_line_is_cut = refl;
  new_line_is_cut = refl;
  bound_is_reached = refl;
  rows_are_bounded = refl;
  ledger_is_seen = refl;
}
