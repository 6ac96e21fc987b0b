use Rattle.ocds_merge.proofs.OrderLaw.{ordered, stable, order_stays, kept_tree_compiles}
use Rattle.ocds_merge.proofs.laws.dates_order_releases.Goals as goal

pub returns-clause-ordered : goal.returns-clause-ordered
returns-clause-ordered c = ordered

pub returns-clause-same_dates_stay : goal.returns-clause-same_dates_stay
returns-clause-same_dates_stay c = stable

pub returns-clause-ordered_stays : goal.returns-clause-ordered_stays
returns-clause-ordered_stays c = order_stays

pub returns-clause-kept_tree_compiles : goal.returns-clause-kept_tree_compiles
returns-clause-kept_tree_compiles c = kept_tree_compiles
