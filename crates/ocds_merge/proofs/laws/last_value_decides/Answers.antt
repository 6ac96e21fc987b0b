use Rattle.ocds_merge.proofs.Names.{null, boolean, number, string}
use Rattle.ocds_merge.proofs.KindLaw.{newest, plain_array, at_name, id_list}
use Rattle.ocds_merge.proofs.laws.last_value_decides.Goals as goal

pub returns-clause-null_is_absent : goal.returns-clause-null_is_absent
returns-clause-null_is_absent c vs = newest vs null

pub returns-clause-boolean_stands : goal.returns-clause-boolean_stands
returns-clause-boolean_stands c vs b = newest vs (boolean b)

pub returns-clause-number_stands : goal.returns-clause-number_stands
returns-clause-number_stands c vs n = newest vs (number n)

pub returns-clause-text_stands : goal.returns-clause-text_stands
returns-clause-text_stands c vs s = newest vs (string s)

pub returns-clause-plain_array_stands : goal.returns-clause-plain_array_stands
returns-clause-plain_array_stands c = plain_array

pub returns-clause-objects_merge_by_name : goal.returns-clause-objects_merge_by_name
returns-clause-objects_merge_by_name c = at_name

pub returns-clause-id_lists_merge_by_id : goal.returns-clause-id_lists_merge_by_id
returns-clause-id_lists_merge_by_id c = id_list
