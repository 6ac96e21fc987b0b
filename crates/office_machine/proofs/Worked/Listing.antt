-- Worked examples of lists, computed.
use Rattle.office_machine.proofs.Names.{refl, row_at, row_put, row_drop, ListingWorked}

pub listing_worked : ListingWorked
unfolding row_at row_put row_drop
listing_worked = record {
  nothing_yet = refl;
  one_notice = refl;
  first_page = refl;
  last_page = refl;
  only_page = refl;
  terms = refl;
  strict_terms = refl;
  amended = refl;
  opened = refl;
  own_tenders = refl;
  tenderers_alone = refl;
  securities_are_held = refl;
  then_named = refl;
  securities_are_the_clerks = refl;
  registered = refl;
  nobody_yet = refl;
  tenderers_are_the_clerks = refl;
  contract_runs = refl;
  contract_ended = refl;
  contract_is_theirs = refl;
}
