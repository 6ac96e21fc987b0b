-- Worked examples of late withdrawals, computed.
use Rattle.office_machine.proofs.Names.{refl, row_at, row_put, row_drop, WithdrawingWorked}

pub withdrawing_worked : WithdrawingWorked
unfolding row_at row_put row_drop
withdrawing_worked = record {
  at_the_deadline = refl;
  forfeited = refl;
  kept_shut = refl;
  nobody_wins = refl;
  opened_too = refl;
  listed = refl;
  all_is_free = refl;
  stays_forfeited = refl;
  after_the_opening = refl;
  after_the_examination = refl;
  next_best_is_reserved = refl;
  reserved_unexamined = refl;
  winner_stays = refl;
  in_time = refl;
  goes_back = refl;
  at_last_second = refl;
  cancelled = refl;
  not_given_back = refl;
  isnt_there = refl;
  says_nothing = refl;
  row_is = refl;
  no_row = refl;
  security_fate = refl;
  tender_fate = refl;
}
