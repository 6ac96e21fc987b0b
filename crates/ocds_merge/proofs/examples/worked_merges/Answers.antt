use Rattle.ocds_merge.proofs.Names.{refl, digits, serde_json_on_literals}
use Rattle.ocds_merge.proofs.examples.worked_merges.Goals as goal

pub returns-clause-no_values : goal.returns-clause-no_values
unfolding serde_json_on_literals digits
returns-clause-no_values c = refl

pub returns-clause-last_literal : goal.returns-clause-last_literal
unfolding serde_json_on_literals digits
returns-clause-last_literal c = refl

pub returns-clause-last_plain_array : goal.returns-clause-last_plain_array
unfolding serde_json_on_literals digits
returns-clause-last_plain_array c = refl

pub returns-clause-null_member : goal.returns-clause-null_member
unfolding serde_json_on_literals digits
returns-clause-null_member c = refl

pub returns-clause-by_name : goal.returns-clause-by_name
unfolding serde_json_on_literals digits
returns-clause-by_name c = refl

pub returns-clause-by_id : goal.returns-clause-by_id
unfolding serde_json_on_literals digits
returns-clause-by_id c = refl

pub returns-clause-by_id_after_null : goal.returns-clause-by_id_after_null
unfolding serde_json_on_literals digits
returns-clause-by_id_after_null c = refl

pub returns-clause-by_id_after_another_kind : goal.returns-clause-by_id_after_another_kind
unfolding serde_json_on_literals digits
returns-clause-by_id_after_another_kind c = refl

pub returns-clause-same_id_twice : goal.returns-clause-same_id_twice
unfolding serde_json_on_literals digits
returns-clause-same_id_twice c = refl
