-- Worked examples of contracts, computed.
use Rattle.office_machine.proofs.Names.{refl, row_at, row_put, row_drop, ContractsWorked}

pub contracts_worked : ContractsWorked
unfolding row_at row_put row_drop
contracts_worked = record {
  is_contracted = refl;
  raised_and_paid = refl;
  pots_then = refl;
  owed_then = refl;
  entries_then = refl;
  no_more_than_outstanding = refl;
  not_twice = refl;
  paid_once = refl;
  other_contract = refl;
  both_are_paid = refl;
  cut_and_raise_are_bounded = refl;
  cut_is_free = refl;
  raised_by_all = refl;
  is_ended = refl;
  rest_is_free = refl;
  nothing_is_owed = refl;
  contract_is = refl;
  after_end = refl;
  last_entry = refl;
  full_and_ended = refl;
  ledger_before = refl;
  ledger_after = refl;
  no_such_contract = refl;
}
