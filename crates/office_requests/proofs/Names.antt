-- The names of other crates, and of this one's definitions, that the proofs of this crate use. A file takes them by one import.
unfoldable pub use Rattle.csv.proofs.OnLiterals.{csv_on_literals}
pub use Rattle.form_urlencoded.proofs.FormLemmas.{decode_plain, raw_pairs-nil, raw_pairs_first, split_once_after_at, split_once_after_none, split_once_before_at, split_once_before_none}
unfoldable pub use Rattle.form_urlencoded.proofs.OnLiterals.{form_urlencoded_on_literals}
pub use Rattle.form_urlencoded.specs.Form.{IsPlain, raw_pairs, split_once, split_pair, decode}
pub use Rattle.form_urlencoded.specs.Parse.{pairs_left}
unfoldable pub use Rattle.hex.proofs.OnLiterals.{hex_on_literals}
pub use Rattle.jiff_core.specs.Calendar.{days_in_year, days_in_month}
pub use Rattle.json.specs.Lex.{Lexeme, token, comma, colon, quote, backslash, operator, space, other, between, lex_byte, string_token, fresh, begins_colon, place_token, tokens}
unfoldable pub use Rattle.json.specs.Lex.{lex, punctuate}
pub use Rattle.json.specs.Text.{content, plain}
pub use Rattle.json.specs.Token.{Token, begin_object, end_object, begin_array, end_array, key, string, number, boolean, null, bad}
pub use Rattle.json.specs.Word.{is_operator, is_space, head, ends_word, after_number, number_before}
unfoldable pub use Rattle.json.specs.Word.{word}
unfoldable pub use Rattle.matchit.proofs.OnLiterals.{matchit_on_literals}
pub use Rattle.office_commands.specs.Commands.{IsCommand}
pub use Rattle.office_commands.specs.Identified.{repeats_id}
pub use Rattle.office_commands.specs.Lots.{lot_id}
pub use Rattle.office_commands.specs.declared.budget.BudgetRow.{BudgetRow}
pub use Rattle.office_commands.specs.declared.command.Caller.{Caller}
pub use Rattle.office_commands.specs.declared.command.CommandKind.{CommandKind}
pub use Rattle.office_commands.specs.declared.lot.NewLot.{NewLot}
pub use Rattle.office_commands.specs.declared.notice.Criteria.{Criteria}
pub use Rattle.office_commands.specs.declared.notice.LateWithdrawal.{LateWithdrawal}
pub use Rattle.office_commands.specs.declared.notice.NewNotice.{NewNotice}
pub use Rattle.office_requests.specs.AfterAsked.{AfterAsksForId}
pub use Rattle.office_requests.specs.Asking.{CanBeAsked, WhatIsAskedCanBeGiven, asked_by_route, may_ask}
unfoldable pub use Rattle.office_requests.specs.Asking.{asked_by, command_at, query_at}
pub use Rattle.office_requests.specs.Bodies.{import_of, begins_object, object_if}
unfoldable pub use Rattle.office_requests.specs.Bodies.{registration_in, notice_amendment_in, cancellation_in, examination_in, contract_amendment_in, payment_in, ending_in, sealed_in, object_in_body, named_in, performance_of}
pub use Rattle.office_requests.specs.Fields.{◌>>=◌, text_in, text_line_in, flag_in, number_in}
unfoldable pub use Rattle.office_requests.specs.Fields.{field_or_refusal, perhaps_number_in, text_at, flag_at, number_at, absent_in}
pub use Rattle.office_requests.specs.Forms.{passing, is_between}
unfoldable pub use Rattle.office_requests.specs.Forms.{identifier_of, digest_of, change_of, line_of, number_between, amount_of, ending_of, basis_of, lateness_of}
pub use Rattle.office_requests.specs.Inside.Answers.{ReadsAs}
pub use Rattle.office_requests.specs.Moments.{day_number, two_at, moment_if, MomentsAreTheirTexts}
unfoldable pub use Rattle.office_requests.specs.Moments.{moment_of, days_to_year, days_to_month, second_named}
pub use Rattle.office_requests.specs.Parameters.{after_with, decoded, given_in, with_pair, with_value, query_of}
unfoldable pub use Rattle.office_requests.specs.Parameters.{after_in, given_from, security_in}
pub use Rattle.office_requests.specs.Paths.{before, behind}
unfoldable pub use Rattle.office_requests.specs.Paths.{segment}
pub use Rattle.office_requests.specs.Publications.{distinct, publication_in}
unfoldable pub use Rattle.office_requests.specs.Publications.{criteria_in, late_in, performance_in, lots_in, new_notice_in, each_of, array_at, elements_at, new_item_of, items_of, new_lot_of, criteria_with}
pub use Rattle.office_requests.specs.Routing.{asked_at, route_with, route_at, inserted, command_route, query_route}
pub use Rattle.office_requests.specs.WorkedRequests.{RoutesAreTaken, PathsAreRefused, BodiesAreRefused, PublicationsAreRefused, TendersAreRefused, LooksAreRefused}
pub use Rattle.office_requests.specs.declared.asked.Asked.{Asked}
pub use Rattle.office_requests.specs.declared.parameters.Given.{Given}
pub use Rattle.office_requests.specs.declared.parameters.Given.TheVariants.{Absent, Right}
pub use Rattle.office_requests.specs.declared.route.Endpoint.{Endpoint}
pub use Rattle.office_requests.specs.declared.route.Endpoint.TheVariants.{Commands, Queries}
pub use Rattle.office_requests.specs.declared.route.Place.TheVariants.{Named, Within, Numbered}
pub use Rattle.office_requests.specs.declared.route.Route.{Route}
pub use Rattle.office_values.proofs.FieldTests.{passes_id}
pub use Rattle.office_values.proofs.Plain.{id_is_utf8}
unfoldable pub use Rattle.office_values.specs.Fields.{is_id, is_text_line}
pub use Rattle.office_values.specs.Ids.{IsId, is_id_byte}
pub use Rattle.office_values.specs.Moments.{last_moment, year_of, civil_date, IsMomentText}
unfoldable pub use Rattle.office_values.specs.Moments.{year_after, month_after, moment_text}
pub use Rattle.office_values.specs.declared.refusal.BadPart.TheVariants.{Body}
pub use Rattle.office_values.specs.declared.refusal.Refusal.{Refusal}
pub use Rattle.office_values.specs.declared.refusal.Refusal.TheVariants.{Forbidden, Unavailable, BadBody}
pub use Rattle.office_wire.specs.Request.{RequestView}
unfoldable pub use Rattle.serde_json.proofs.OnLiterals.{serde_json_on_literals}
pub use Rattle.serde_json.specs.Data.{Data, item}
pub use Rattle.serde_json.specs.Read.{read, of_json, of_items, number_of, max_depth}
pub use Rattle.serde_json.specs.View.{items_view, view}
pub use Rattle.serde_json.specs.declared.value.Value.{Value}
pub use Rattle.std.proofs.Common.{◌≡◌, ℕ, ◌<◌, Bool, true, false, List, [], ◌∷◌, length, Option, Some, None, Ok, refl, sym, ap, ◌∙◌, subst, arith, Result, Err, ◌⊎◌, inl, inr, zero, suc, ◌||◌, cond, ◌==◌, option_map, ◌+◌, ◌≤◌, drop, append_assoc, add-one, get_or, IfSome, IfNone, ◌-◌, ◌*◌, ◌/◌, ◌%◌, pos, map}
pub use Rattle.std.proofs.Math.Seq.{drop-cons}
pub use Rattle.std.proofs.lemmas.Bool.{true≢false, false≢true, le-leb, leb-true, and_parts}
pub use Rattle.std.proofs.lemmas.Bool.Decides.{nat_tests}
pub use Rattle.std.proofs.lemmas.List.{drop_all, append-nil}
pub use Rattle.std.proofs.lemmas.List.Elements.{All-nil, All-cons, All-append, All-weaker}
pub use Rattle.std.proofs.lemmas.Result.{IfOk-at_ok}
pub use Rattle.std.proofs.lemmas.Slice.Eq.{bytes_eq-Decides}
pub use Rattle.std.proofs.lemmas.Str.{is_utf8-from_IsUtf8, IsUtf8-from_is_utf8, utf8_lossy-IsUtf8}
pub use Rattle.std.specs.Cmp.Lexicographic.{pointwise}
pub use Rattle.std.specs.Option.{option_map_or}
pub use Rattle.std.specs.Prelude.{◌≢◌, IsTrue, if◌then◌else◌, ◌++◌, All, ◌^◌, not, ◌&&◌, nat_le, IfOk, option_and_then, IsUtf8, is_some, nat_lt, nat_eq, ⊤}
unfoldable pub use Rattle.std.specs.Str.{is_utf8, chars}
pub use Rattle.std.specs.Str.Lossy.{utf8_lossy}
unfoldable pub use Rattle.tender_papers.specs.Budget.{rows_from}
unfoldable pub use lib.Utf8.{encode}
