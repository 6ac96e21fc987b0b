-- The definitions that a proof unfolds to compute the meaning of a literal request.
use Rattle.office_requests.proofs.Names.{⊤, is_utf8, chars, encode, csv_on_literals, form_urlencoded_on_literals, hex_on_literals, matchit_on_literals, serde_json_on_literals, is_id, is_text_line, moment_text, year_after, month_after, rows_from, segment, moment_of, second_named, days_to_year, days_to_month, identifier_of, line_of, number_between, amount_of, digest_of, change_of, ending_of, basis_of, lateness_of, text_at, flag_at, number_at, field_or_refusal, perhaps_number_in, absent_in, object_in_body, registration_in, notice_amendment_in, cancellation_in, examination_in, contract_amendment_in, named_in, performance_of, payment_in, ending_in, sealed_in, each_of, array_at, elements_at, new_item_of, items_of, new_lot_of, lots_in, criteria_with, criteria_in, late_in, performance_in, new_notice_in, given_from, security_in, after_in, command_at, query_at, asked_by}

-- reading texts and numbers
unfoldable pub forms_on_literals : ⊤
unfolding hex_on_literals is_utf8 chars encode is_id is_text_line identifier_of line_of number_between amount_of digest_of change_of ending_of basis_of lateness_of
forms_on_literals = tt

-- reading moments
unfoldable pub moments_on_literals : ⊤
unfolding moment_text year_after month_after moment_of second_named days_to_year days_to_month
moments_on_literals = tt

-- reading paths
unfoldable pub paths_on_literals : ⊤
unfolding forms_on_literals matchit_on_literals segment
paths_on_literals = tt

-- reading the fields of a body
unfoldable pub fields_on_literals : ⊤
unfolding forms_on_literals moments_on_literals serde_json_on_literals text_at flag_at number_at field_or_refusal perhaps_number_in absent_in object_in_body
fields_on_literals = tt

-- reading publications
unfoldable pub publications_on_literals : ⊤
unfolding fields_on_literals each_of array_at elements_at new_item_of items_of new_lot_of lots_in criteria_with criteria_in late_in performance_in new_notice_in
publications_on_literals = tt

-- reading other bodies
unfoldable pub bodies_on_literals : ⊤
unfolding fields_on_literals csv_on_literals rows_from registration_in notice_amendment_in cancellation_in examination_in named_in performance_of contract_amendment_in payment_in ending_in
bodies_on_literals = tt

-- reading query strings
unfoldable pub queries_on_literals : ⊤
unfolding form_urlencoded_on_literals given_from security_in after_in
queries_on_literals = tt

-- reading requests
unfoldable pub requests_on_literals : ⊤
unfolding paths_on_literals publications_on_literals bodies_on_literals queries_on_literals sealed_in command_at query_at asked_by
requests_on_literals = tt
