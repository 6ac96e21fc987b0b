use Rattle.ocds_merge.proofs.Names.{refl, digits, serde_json_on_literals}
use Rattle.ocds_merge.proofs.examples.worked_columns.Goals as goal

pub returns-clause-id_list : goal.returns-clause-id_list
unfolding serde_json_on_literals digits
returns-clause-id_list c = refl

pub returns-clause-empty_array_is_none : goal.returns-clause-empty_array_is_none
unfolding serde_json_on_literals digits
returns-clause-empty_array_is_none c = refl

pub returns-clause-number_ids_make_none : goal.returns-clause-number_ids_make_none
unfolding serde_json_on_literals digits
returns-clause-number_ids_make_none c = refl

pub returns-clause-texts_make_none : goal.returns-clause-texts_make_none
unfolding serde_json_on_literals digits
returns-clause-texts_make_none c = refl

pub returns-clause-run_of_objects : goal.returns-clause-run_of_objects
unfolding serde_json_on_literals digits
returns-clause-run_of_objects c = refl

pub returns-clause-column_of_a_name : goal.returns-clause-column_of_a_name
unfolding serde_json_on_literals digits
returns-clause-column_of_a_name c = refl

pub returns-clause-run_of_id_lists : goal.returns-clause-run_of_id_lists
unfolding serde_json_on_literals digits
returns-clause-run_of_id_lists c = refl

pub returns-clause-items_of_a_run : goal.returns-clause-items_of_a_run
unfolding serde_json_on_literals digits
returns-clause-items_of_a_run c = refl

pub returns-clause-ids_by_first_appearance : goal.returns-clause-ids_by_first_appearance
unfolding serde_json_on_literals digits
returns-clause-ids_by_first_appearance c = refl
