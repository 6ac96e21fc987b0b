-- Worked examples of cancelling, computed.
use Rattle.office_machine.proofs.Names.{refl, row_at, row_put, row_drop, CancellingWorked}

pub cancelling_worked : CancellingWorked
unfolding row_at row_put row_drop
cancelling_worked = record {
  is_cancelled = refl;
  money_goes_back = refl;
  tenders_go_back = refl;
  bytes_go_back = refl;
  securities_go_back = refl;
  releases_are = refl;
  lot_is_cancelled = refl;
  notice_is_cancelled = refl;
  nothing_is_left = refl;
  won_pots = refl;
  award_is_cancelled = refl;
  reserved_goes_back = refl;
  award_state = refl;
  security_goes_back = refl;
  notice_stays_opened = refl;
  tender_stays_opened = refl;
  stays_forfeited = refl;
  failed_goes_back = refl;
  failed_award_stays = refl;
  other_lot_ends = refl;
  contract_stays = refl;
  nothing_but_contracts = refl;
  both_go_back = refl;
  other_money_stays = refl;
  other_tender_stays = refl;
  other_security_stays = refl;
  no_such_notice = refl;
}
