use Rattle.tender_papers.proofs.Names.{refl, is_utf8, chars, encode, csv_on_literals, is_id, is_text_line, rows_from}
use Rattle.tender_papers.proofs.examples.worked_budgets.Goals as goal

pub returns-clause-two_rows : goal.returns-clause-two_rows
unfolding csv_on_literals is_id is_text_line rows_from is_utf8 chars encode
returns-clause-two_rows c = refl

pub returns-clause-third_row_faulty : goal.returns-clause-third_row_faulty
unfolding csv_on_literals is_id is_text_line rows_from is_utf8 chars encode
returns-clause-third_row_faulty c = refl

pub returns-clause-no_head : goal.returns-clause-no_head
unfolding csv_on_literals is_id is_text_line rows_from is_utf8 chars encode
returns-clause-no_head c = refl
