use Rattle.tender_papers.proofs.Names.{refl, csv_on_literals, but_last, last_of, paper_below_head}
use Rattle.tender_papers.proofs.examples.worked_tenders.Goals as goal

pub returns-clause-corrected_sums : goal.returns-clause-corrected_sums
unfolding csv_on_literals paper_below_head but_last last_of
returns-clause-corrected_sums c = refl

pub returns-clause-with_mark_and_returns : goal.returns-clause-with_mark_and_returns
unfolding csv_on_literals paper_below_head but_last last_of
returns-clause-with_mark_and_returns c = refl

pub returns-clause-leading_zeros : goal.returns-clause-leading_zeros
unfolding csv_on_literals paper_below_head but_last last_of
returns-clause-leading_zeros c = refl

pub returns-clause-right_sums : goal.returns-clause-right_sums
unfolding csv_on_literals paper_below_head but_last last_of
returns-clause-right_sums c = refl

pub returns-clause-wrong_total : goal.returns-clause-wrong_total
unfolding csv_on_literals paper_below_head but_last last_of
returns-clause-wrong_total c = refl

pub returns-clause-other_quantity : goal.returns-clause-other_quantity
unfolding csv_on_literals paper_below_head but_last last_of
returns-clause-other_quantity c = refl

pub returns-clause-no_items : goal.returns-clause-no_items
unfolding csv_on_literals paper_below_head but_last last_of
returns-clause-no_items c = refl

pub returns-clause-dear_unit : goal.returns-clause-dear_unit
unfolding csv_on_literals paper_below_head but_last last_of
returns-clause-dear_unit c = refl

pub returns-clause-no_head : goal.returns-clause-no_head
unfolding csv_on_literals paper_below_head but_last last_of
returns-clause-no_head c = refl

pub returns-clause-head_alone : goal.returns-clause-head_alone
unfolding csv_on_literals paper_below_head but_last last_of
returns-clause-head_alone c = refl

pub returns-clause-closed_twice : goal.returns-clause-closed_twice
unfolding csv_on_literals paper_below_head but_last last_of
returns-clause-closed_twice c = refl

pub returns-clause-other_order : goal.returns-clause-other_order
unfolding csv_on_literals paper_below_head but_last last_of
returns-clause-other_order c = refl
