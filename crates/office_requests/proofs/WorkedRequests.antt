-- Worked examples of requests, computed.
use Rattle.office_requests.proofs.Names.{refl, RoutesAreTaken, PathsAreRefused, BodiesAreRefused, PublicationsAreRefused, TendersAreRefused, LooksAreRefused}
use Rattle.office_requests.proofs.OnLiterals.{requests_on_literals}

pub routes : RoutesAreTaken
unfolding requests_on_literals
routes = record {
  imports = refl;
  registers = refl;
  publishes_with_late_withdrawals = refl;
  publishes_with_performance = refl;
  publishes = refl;
  amends = refl;
  cancels = refl;
  opens = refl;
  presents = refl;
  presents_alone = refl;
  modifies = refl;
  withdraws = refl;
  examines = refl;
  awards = refl;
  fails = refl;
  signs = refl;
  signs_with_nothing = refl;
  signs_with_a_security = refl;
  amends_contracts = refl;
  pays = refl;
  ends = refl;
  sees_lines = refl;
  sees_the_ledger = refl;
  sees_minutes = refl;
  sees_registers = refl;
  sees_releases = refl;
  sees_records = refl;
  sees_tenders = refl;
  sees_securities = refl;
  sees_performance_securities = refl;
  sees_notices = refl;
  sees_notices_behind = refl;
  sees_notices_decoded = refl;
  sees_terms = refl;
  sees_own_tenders = refl;
  sees_evaluations = refl;
  sees_securities_of_a_notice = refl;
  sees_tenderers = refl;
  sees_tenderers_behind = refl;
  sees_contracts = refl;
}

pub paths : PathsAreRefused
unfolding requests_on_literals
paths = record {
  no_path = refl;
  no_notice = refl;
  slash_behind = refl;
  no_records = refl;
  no_percent = refl;
  leading_zero = refl;
  zero_number = refl;
  eleven_digits = refl;
  not_posted = refl;
  not_got = refl;
  no_list_posted = refl;
  rights_first = refl;
  rights_before_queries = refl;
}

pub bodies : BodiesAreRefused
unfolding requests_on_literals
bodies = record {
  bad_row = refl;
  empty_body = refl;
  no_object = refl;
  no_text = refl;
  no_title = refl;
  no_day = refl;
  last_stays = refl;
  short_key = refl;
  null_quality = refl;
  too_much_quality = refl;
  no_change = refl;
  nothing_paid = refl;
  with_a_point = refl;
  no_amount_of_a_security = refl;
  no_security_of_an_amount = refl;
  wrong_amount_alone = refl;
  null_security = refl;
  one_space = refl;
  no_ending = refl;
}

pub publications : PublicationsAreRefused
unfolding requests_on_literals
publications = record {
  weight_missing = refl;
  weight_with_price = refl;
  another_word = refl;
  no_word = refl;
  performance_above = refl;
  no_lots = refl;
  no_items = refl;
  wrong_item = refl;
  same_items = refl;
  same_lots = refl;
}

pub tenders : TendersAreRefused
unfolding requests_on_literals
tenders = record {
  no_amount = refl;
  no_security = refl;
  wrong_alone = refl;
  two_securities = refl;
  two_amounts = refl;
  nothing_sealed = refl;
}

pub looks : LooksAreRefused
unfolding requests_on_literals
looks = record {
  no_identifier = refl;
  nothing = refl;
  no_value = refl;
  two = refl;
  no_tenderer = refl;
}
