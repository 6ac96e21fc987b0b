-- The names of other crates, and of this one's definitions, that the proofs of this crate use. A file takes them by one import.
pub use Rattle.award_core.proofs.BestFound.{best_is_found, of_one}
pub use Rattle.award_core.specs.Best.{IsAnswer, IsBest, lowest_in}
pub use Rattle.award_core.specs.Rules.AmendContract.{is_taken, has_ended, amend_contract_tests, amend_contract_rows, is_running, is_beyond, is_raising, entry_kind, line_after, change_row, amend_contract_puts, amend_contract_lacks}
pub use Rattle.award_core.specs.Rules.Award.{award_puts, award_row, award_rows, award_tests, decision_puts, price_of, winner, is_admissible, is_better, is_cheaper, is_responsive, points, weight_in, awarded, unsuccessful, lesser, lowest_price, better, best_with, reserved_in, isnt_examined, is_above, best_of, award_lacks}
pub use Rattle.award_core.specs.Rules.End.{end_tests, end_rows, ended_contract, ended_state, end_puts, end_lacks, lacks_performance, end_parts}
pub use Rattle.award_core.specs.Rules.Examine.{examine_tests, examine_rows, examined, examine_puts, examine_lacks}
pub use Rattle.award_core.specs.Rules.Fail.{fail_puts, fail_tests, fail_rows, fail_lacks, isnt_active, failed_award, undecided_again}
pub use Rattle.award_core.specs.Rules.Pay.{payment_row, pay_rows, pay_tests, pay_puts, pay_lacks}
pub use Rattle.award_core.specs.Rules.Sign.{performance_put, sign_puts, sign_tests, sign_rows, sign_parts, tenderer_in, signed_award, contracted_lot, contract_row, sign_lacks, is_missing}
pub use Rattle.award_core.specs.declared.examine.ExamineRows.{ExamineRows}
pub use Rattle.office_base.proofs.ExactKeys.{same_itself, equal_keys, equal_ids, same_id_is, other_keys, lots_exact, ids_exact, entries_exact, releases_exact}
pub use Rattle.office_base.proofs.Orders.{same_key, lots_total, entries_total, releases_total}
pub use Rattle.office_base.proofs.RowLaws.{row_at-row_put, all-put, still_there}
pub use Rattle.office_base.proofs.RowLaws.Drops.{row_at-row_drop, in_order-drop}
pub use Rattle.office_base.proofs.RowLaws.Filters.{if_passes, filter_filter, row_at-filter, in_order-filter, all_filter}
pub use Rattle.office_base.proofs.RowLaws.Found.{each_found, of_found}
pub use Rattle.office_base.proofs.RowLaws.Keyed.{found_key, IsKeyed, own_key}
pub use Rattle.office_base.proofs.RowLaws.Starts.{all_above, start_of, above, tied, none_below}
pub use Rattle.office_base.proofs.SortedTables.{sorted-puts, sorted-put}
pub use Rattle.office_base.proofs.SumsOver.{sum_over-append_map, sum_over-zero, sum_over-ext, sum_over-map, sum_over-filter, sum_over-put_new, sum_over-plus, weight, sum_over-put, sum_over-one}
pub use Rattle.office_base.specs.EntryKinds.{is_raise, is_less, is_payment}
pub use Rattle.office_base.specs.Joined.{free_in, plus, minus, outstanding, paid_under, appropriation_in, is_overdrawn, entry_sum, is_on_line, reserved, contracted, paid}
pub use Rattle.office_base.specs.Limits.{release_limit}
pub use Rattle.office_base.specs.Pages.{followed, is_after, next_after, rows_after}
pub use Rattle.office_base.specs.Parents.{envelope_of_award, line_of_lot, lot_of_award, notice_of_award, securities_of_award, security_of_envelope, notice_of_envelope, lot_of_envelope, late_of_envelope, notice_of_contract, lot_of_contract}
pub use Rattle.office_base.specs.Readings.{is_priced}
pub use Rattle.office_base.specs.Rows.{IsInOrder, by_order, holds_of, StartsAbove}
unfoldable pub use Rattle.office_base.specs.Rows.{row_at, row_put, row_drop}
pub use Rattle.office_base.specs.Rules.{first_of}
pub use Rattle.office_base.specs.Standings.{standings, columns_at, columns_of_row}
pub use Rattle.office_base.specs.States.{is_read, is_opened, is_undecided, is_sealed, is_held, is_active, is_receiving, is_open, is_cancelled}
pub use Rattle.office_base.specs.Sums.{sum_over}
pub use Rattle.office_base.specs.Tables.{Tables, envelope_at, seal_at, no_tables, compiled_key, IsSorted, notice_at, lot_at, lot_key, award_at, lots_of_notice, envelopes_of_notice, securities_of_notice, awards_of_notice, envelopes_of_lot, securities_of_lot, after_put, after_puts, of_notice, lot_cmp, line_at, find_notice, find_lot, put_notice, put_lot, contract_at, entries_of_contract, late_at, performance_at, security_at, same_number, envelope_key, find_envelope, find_seal, of_tenderer, seal_key, put_envelope, put_seal, drop_seal, release_cmp, release_key, put_release, releases_of_notice, find_release, entry_at, entry_cmp, entry_key, of_line, compiled_at, find_line, put_line, find_contract, put_contract, find_entry, put_entry, put_performance, tenderer_at, find_security, put_security, line_key, security_key, award_key, find_award, put_award, contracts_of_notice, notice_key, put_batch, tenderer_key, batch_at, batch_key, find_performance, lots_of_line, contract_key, late_key, performance_key, find_late, put_late}
pub use Rattle.office_base.specs.Transitions.{is_held_security, passed_over, put_if, securities_returned, security_returned, security_settled, clock_put, with_next_release, is_in_time, receipt_clock, is_late, has_all_releases, lacks_security, performance_settled, settled_performance, settled, is_past_deadline, returned}
pub use Rattle.office_base.specs.declared.puts.Put.{Put}
pub use Rattle.office_base.specs.declared.reading.Reading.{Reading}
pub use Rattle.office_base.specs.declared.records.AwardRow.{AwardRow}
pub use Rattle.office_base.specs.declared.records.AwardState.{AwardState}
pub use Rattle.office_base.specs.declared.records.BatchRow.{BatchRow}
pub use Rattle.office_base.specs.declared.records.ClockRow.{ClockRow}
pub use Rattle.office_base.specs.declared.records.CompiledRow.{CompiledRow}
pub use Rattle.office_base.specs.declared.records.ContractRow.{ContractRow}
pub use Rattle.office_base.specs.declared.records.EntryKind.{EntryKind}
pub use Rattle.office_base.specs.declared.records.EntryKind.TheVariants.{Payment}
pub use Rattle.office_base.specs.declared.records.EntryRow.{EntryRow}
pub use Rattle.office_base.specs.declared.records.EnvelopeRow.{EnvelopeRow}
pub use Rattle.office_base.specs.declared.records.EnvelopeState.{EnvelopeState}
pub use Rattle.office_base.specs.declared.records.LateRow.{LateRow}
pub use Rattle.office_base.specs.declared.records.LineRow.{LineRow}
pub use Rattle.office_base.specs.declared.records.LotRow.{LotRow}
pub use Rattle.office_base.specs.declared.records.LotState.{LotState}
pub use Rattle.office_base.specs.declared.records.NoticeRow.{NoticeRow}
pub use Rattle.office_base.specs.declared.records.NoticeState.{NoticeState}
pub use Rattle.office_base.specs.declared.records.PerformanceRow.{PerformanceRow}
pub use Rattle.office_base.specs.declared.records.ReleaseRow.{ReleaseRow}
pub use Rattle.office_base.specs.declared.records.SealRow.{SealRow}
pub use Rattle.office_base.specs.declared.records.SecurityRow.{SecurityRow}
pub use Rattle.office_base.specs.declared.records.SecurityState.{SecurityState}
pub use Rattle.office_base.specs.declared.records.SecurityState.TheVariants.{Forfeited, Returned}
pub use Rattle.office_base.specs.declared.records.TendererRow.{TendererRow}
pub use Rattle.office_base.specs.declared.standing.Columns.{Columns}
pub use Rattle.office_base.specs.declared.standing.Standing.{Standing}
pub use Rattle.office_commands.specs.Callers.{is_by, tenderer_of}
pub use Rattle.office_commands.specs.Commands.{IsCommand}
pub use Rattle.office_commands.specs.Identified.{repeats_id}
pub use Rattle.office_commands.specs.Lots.{lot_id}
pub use Rattle.office_commands.specs.Queries.{query_kind_of}
pub use Rattle.office_commands.specs.Rights.{is_clerk, may_look, is_tenderer}
pub use Rattle.office_commands.specs.declared.budget.BudgetRow.{BudgetRow}
pub use Rattle.office_commands.specs.declared.command.Caller.{Caller}
pub use Rattle.office_commands.specs.declared.command.Caller.TheVariants.{Clerk, Tenderer, Public}
pub use Rattle.office_commands.specs.declared.commands.Command.{Command}
pub use Rattle.office_commands.specs.declared.commands.Command.TheVariants.{Award, Cancel, Fail, Sign, Open, Present, Modify, Withdraw, Examine, Import, Publish, AmendNotice, Register, End, AmendContract, Pay}
pub use Rattle.office_commands.specs.declared.contract.ChangeKind.{ChangeKind}
pub use Rattle.office_commands.specs.declared.contract.How.{How}
pub use Rattle.office_commands.specs.declared.item.Item.{Item}
pub use Rattle.office_commands.specs.declared.lot.NewLot.{NewLot}
pub use Rattle.office_commands.specs.declared.notice.LateWithdrawal.{LateWithdrawal}
pub use Rattle.office_commands.specs.declared.notice.LateWithdrawal.TheVariants.{Forfeits}
pub use Rattle.office_commands.specs.declared.notice.NewNotice.{NewNotice}
pub use Rattle.office_commands.specs.declared.queries.Query.{Query}
pub use Rattle.office_commands.specs.declared.tender.NamedSecurity.{NamedSecurity}
pub use Rattle.office_machine.specs.Accounts.{appropriation, free, AreBalanced, IsBalanced}
pub use Rattle.office_machine.specs.AwardsShown.{IsShownBest, AwardsWereShown, MakesAward, WasMade, is_shown_better, IsShownWinner, LotIsShown, ShowsLot, evaluation_shown, WinnerIsShown, ReplyIsShown, WinnersAreShown}
pub use Rattle.office_machine.specs.Clock.{ClockIsSet, ClockNeverRunsBack}
pub use Rattle.office_machine.specs.Commands.{rule_of}
pub use Rattle.office_machine.specs.Commands.Open.{lacks_tender}
pub use Rattle.office_machine.specs.ContractTerms.{ContractsAreOfAwards, IsOfAward}
pub use Rattle.office_machine.specs.Counted.{releases_in}
pub use Rattle.office_machine.specs.Entries.{EntriesAreKept, entry_after, entry_made, is_entry}
pub use Rattle.office_machine.specs.Evaluation.{awards_of_lot, evaluated_tender, evaluated_tenders, evaluated_lot, evaluation_told, has_outcome, is_award_of, lot_told}
pub use Rattle.office_machine.specs.Fates.{is_kept, Reception, received_by, received_at, fate_of_tender, fate_after, tender_decided, is_of_notice, received_after, is_effective, security_decided, has_number, carries, withdrawn_security, EnvelopeIs, fate_of_security, SecurityIs, is_of_award, is_received_for, is_award_security, presented, first_state, security_received, security_after, TenderIs, reception_replacing, numbers, NamedIs, HasFate, TendersAreKept, SecuritiesAreKept, is_before_deadline, HasPerformance, fate_of_performance, performance_named, named_for, named_after, performance_decided, performance_after, ended_fate, PerformancesHaveFates, PerformancesAreKept}
pub use Rattle.office_machine.specs.Fits.{SumsInRange}
pub use Rattle.office_machine.specs.Folded.{RowsAreFolded, as_received, named_row, seal_row, tender_row}
pub use Rattle.office_machine.specs.Imports.{HasImports, ImportsAreKept, batch_after, line_title, title_after, title_in}
pub use Rattle.office_machine.specs.InTime.{NoneInTimeAfterLate, has_come_late, is_in_time_for, is_late_for, taken_in}
pub use Rattle.office_machine.specs.Lacking.{NothingIsLacking, is_lacking}
pub use Rattle.office_machine.specs.Late.{LateRulesAreKept, is_forfeiting, late_row, lets_late, was_let_late}
pub use Rattle.office_machine.specs.Machine.{Given, Means, Reaches, AreOfNotices, CanBeGiven, refusal_of, next, with_merges, puts_of, command_tests, effect, publication, publication_puts, time_of, may_give, tests_for, puts_for, reply_for, done, release_row, IsRegistered, tests}
pub use Rattle.office_machine.specs.MergesApart.{FatesReadNoMerges, LooksReadNoMerges, NextReadsNoMerges, PublishesNoMerges, PutsReadNoMerges, RefusalsReadNoMerges, RepliesReadNoMerges, ShowsNoMerges, bare, beside}
pub use Rattle.office_machine.specs.Moves.{moves, brought, taken, owed, line_in, raised_by, cut_by, move_of_change, Move, Outside, Free, Reserved, Contracted, Paid, reserved_for, Pot, inflow, outflow, same_pot, move_back, lot_in_award, same_lot, move_of_award, move_of_lot, estimate_in, move_of_row, moves_by, brought_by, taken_by}
pub use Rattle.office_machine.specs.NoParents.{NoOwnerIsReplaced, NoParentIsMade, NoKindIsForgotten, LotsAgree, EnvelopesAgree, SecuritiesAgree, AwardsAgree, ContractsAgree, PerformancesAgree, OwnersStay}
pub use Rattle.office_machine.specs.Order.{IsLeast, LeastIsAnswered, NumbersNeverFall, NeverFall}
pub use Rattle.office_machine.specs.Orphans.{receipt_is_taken, contract_is_taken, lacks_its_security, reserves_another, award_is_taken, is_torn, names_lost_line, has_rows_of_notice, lacks_seal}
pub use Rattle.office_machine.specs.Outstanding.{left_with, left_by_payment, left_by_change, left_by_end, left_before, notice_under, line_under, IsLeft, LeftIsKnown, OutstandingIsKept, LeftIsBooked}
pub use Rattle.office_machine.specs.PagesAlong.{LeadAlong, NothingIsTakenAway, PagesAreWholeAlong, SeesEachOnce, reaches_end, if_next, notices_in, read_along, tenderers_in}
pub use Rattle.office_machine.specs.Parents.{HaveParents, EnvelopeHas, LotHas, AwardHas, SecurityHas, ContractHas, EntryHas, PerformanceHas, ReleaseHas, MergeHas, LateHas, HavePerformances, ParentsAreThere, PerformancesAreThere}
pub use Rattle.office_machine.specs.Publications.{published_for}
pub use Rattle.office_machine.specs.QueryOrder.{FirstAnswersQuery, LeastAnswersQuery, asking_tests, is_neither, isnt_opened_yet, named_test, query_tests, refusal_in}
pub use Rattle.office_machine.specs.Readings.{Readings}
pub use Rattle.office_machine.specs.References.{OfReceipt, has_rows, is_named, is_there, OfLine, OfNotice, OfLot, OfAward, Parent}
pub use Rattle.office_machine.specs.Registered.{tenderer_after, tenderer_by, TenderersAreKept}
pub use Rattle.office_machine.specs.Releases.{names_notice, published_by, ReleasesArePublished, AreCounted, ReleasesAreCounted, AreNumbered, ReleasesAreNumbered, MomentsNeverFall, ReleasesAreInTime}
pub use Rattle.office_machine.specs.Replies.{EvaluatedLot, EvaluatedTender, EvaluationSeen, winning, Reply, OpenedAll, Received, Awarded, Tender, Registry, Minutes, release_of, release_of_contract, left_of, modify_reply, Withdrew, state_after, OwnTendersSeen}
pub use Rattle.office_machine.specs.Requests.{Demand, Asks, Looks, Request, given_by_request, office_by, accepted_by, demand_office, demand_accepted, office_after, accepted_with, IsDemand, RunsReach, StepsReach, reply_by, AreRequests, all_accepted, reply_to}
pub use Rattle.office_machine.specs.Rule.{Rule, sealed_tenders, sealed_tender, has_seal_and_lot}
pub use Rattle.office_machine.specs.Seals.{SameButSeals, ReleasesHideSeals, PackagesHideSeals, AlikeThroughout, bytes_of, is_gone, DifferingAreGone, WholeRunsAreAlike, ButDigest, without_digest, ToldAlike, bare_tender, SameDemand, SameRequest, opens_it, demand_opens, is_opening, KnowAlike, AlikeUntilOpening, SealsAreKept}
pub use Rattle.office_machine.specs.Sights.{Packages, contract_told, line_told, minutes_told, own_tenders_told, package_told, performance_told, register_told, securities_told, security_told, shown, tender_told, terms_told, registered, minuted, is_read_envelope, told, own_tender, own_of_lot}
pub use Rattle.office_machine.specs.Terms.{LotTerms, lot_terms, NoticeTerms, TermsAreKept, lot_named, lot_terms_after, new_lot_terms, notice_terms, notice_terms_after, notice_terms_by, with_deadline}
pub use Rattle.office_machine.specs.Worked.Amending.{AmendingWorked}
pub use Rattle.office_machine.specs.Worked.Awarding.{AwardingWorked}
pub use Rattle.office_machine.specs.Worked.Budgets.{BudgetsWorked}
pub use Rattle.office_machine.specs.Worked.Cancelling.{CancellingWorked}
pub use Rattle.office_machine.specs.Worked.Contracts.{ContractsWorked}
pub use Rattle.office_machine.specs.Worked.Dates.{DatesWorked}
pub use Rattle.office_machine.specs.Worked.Evaluating.{EvaluatingWorked}
pub use Rattle.office_machine.specs.Worked.Examining.{ExaminingWorked}
pub use Rattle.office_machine.specs.Worked.Fates.{FatesWorked}
pub use Rattle.office_machine.specs.Worked.Listing.{ListingWorked}
pub use Rattle.office_machine.specs.Worked.Looking.{LookingWorked}
pub use Rattle.office_machine.specs.Worked.Office.{means, office, security, setup}
pub use Rattle.office_machine.specs.Worked.Opening.{OpeningWorked}
pub use Rattle.office_machine.specs.Worked.Performances.{PerformancesWorked}
pub use Rattle.office_machine.specs.Worked.Publishing.{PublishingWorked}
pub use Rattle.office_machine.specs.Worked.Receiving.{ReceivingWorked}
pub use Rattle.office_machine.specs.Worked.Refusing.{RefusingWorked}
pub use Rattle.office_machine.specs.Worked.Registering.{RegisteringWorked}
pub use Rattle.office_machine.specs.Worked.Releases.{ReleasesWorked}
pub use Rattle.office_machine.specs.Worked.Replacing.{ReplacingWorked}
pub use Rattle.office_machine.specs.Worked.Rights.{RightsWorked}
pub use Rattle.office_machine.specs.Worked.Seals.{SealsWorked, theirs, one, other}
pub use Rattle.office_machine.specs.Worked.Securities.{SecuritiesWorked}
pub use Rattle.office_machine.specs.Worked.Signing.{SigningWorked}
pub use Rattle.office_machine.specs.Worked.WholeRun.{WholeRunWorked, run}
pub use Rattle.office_machine.specs.Worked.Withdrawing.{WithdrawingWorked}
pub use Rattle.office_machine.specs.Worlds.{Same, Presented, Modified, ChosenTender, is_theirs, AlikeOffices, AlikeRows, Pairs, OpensAlike, AcceptedAlike, is_for_chosen_lot, IsNext, SameBut, StepsStayAlike}
pub use Rattle.office_values.specs.Ids.{id_cmp, same_id}
unfoldable pub use Rattle.office_values.specs.Moments.{year_after, month_after, moment_text}
pub use Rattle.office_values.specs.Money.{total_limit}
pub use Rattle.office_values.specs.Refusals.{number_of_refusal}
pub use Rattle.office_values.specs.declared.refusal.Refusal.{Refusal}
pub use Rattle.office_values.specs.declared.refusal.Refusal.TheVariants.{NotOpened, Forbidden, NotYourTender, Unavailable}
pub use Rattle.std.proofs.Common.{◌∙◌, ap, [], ◌∷◌, sym, subst, Bool, false, refl, map, filter, inl, inr, ◌⊎◌, zero, suc, ◌+◌, ◌<◌, not, ◌&&◌, ◌||◌, length, slice_index_or, option_map, unwrap_or, nat_lt, nat_eq, arith, ◌++◌, ◌-◌, append_assoc}
pub use Rattle.std.proofs.Math.Nat.{le-max_right}
pub use Rattle.std.proofs.lemmas.Bool.{ltb-true, ltb-false}
pub use Rattle.std.proofs.lemmas.Bool.Decides.{nat_tests}
pub use Rattle.std.proofs.lemmas.Cmp.{ranked}
pub use Rattle.std.proofs.lemmas.List.{append-nil, take_all, take-append-drop, length-take}
pub use Rattle.std.proofs.lemmas.List.Folds.{list_any-append}
pub use Rattle.std.proofs.lemmas.Option.{slice_get_cases}
pub use Rattle.std.specs.Cmp.{nat_cmp_total, IsTotalOrder, nat_cmp_is, tied_itself}
pub use Rattle.std.specs.Cmp.Lexicographic.{nat_list_cmp_total, texts_ties}
pub use Rattle.std.specs.FinMap.{nat_cmp-IsAntisymmetric, IsAntisymmetric}
pub use Rattle.std.specs.List.{AllByRecursion, Contains, list_any, flat_map}
pub use Rattle.std.specs.Option.{option_map_or}
pub use Rattle.std.specs.Ordering.{nat_cmp, eq_by_cmp, ordering_then, is_eq, is_lt, ordering_reverse}
pub use Rattle.std.specs.Prelude.{◌≡◌, ℕ, true, cond, List, Option, Some, None, IsSome, is_some, max, option_and_then, ◌≤◌, codes, option_to_list, nat_le, take, drop, slice_get}
pub use Rattle.std.specs.declared.cmp.Ordering.{Ordering}
pub use Rattle.std.specs.declared.cmp.Ordering.TheVariants.{Less, Equal, Greater}
pub use Rattle.tender_core.proofs.ImportsAgree.{columns_at-after_row, columns_at-standings}
pub use Rattle.tender_core.specs.Rules.AmendNotice.{amended, amend_notice_rows, amend_notice_tests, amend_notice_puts}
pub use Rattle.tender_core.specs.Rules.Cancel.{award_put, cancel_puts, cancelled_award, cancelled_lot_put, drop_put, envelope_put, freed_line_put, is_ended_award, is_ended_envelope, is_ended_security, is_open_lot, cancel_tests, cancel_rows, cancelled_notice, returned_envelope, cancel_lacks, lacks_line, freed_line, cancelled_lot, ends, freed}
pub use Rattle.tender_core.specs.Rules.Import.{imported_line_put, import_puts, import_rows, after_rows, import_tests, import_lacks, is_cut, appropriation_of, free_of, columns_after, after_row, any_while_walking, cuts_too_much, imported_line, cuts_below_zero, passes_limit, row_limit}
pub use Rattle.tender_core.specs.Rules.Modify.{modify_tests, is_anothers, replacing, withdrawn, modify_puts, modify_rows, modify_lacks, isnt_sealed}
pub use Rattle.tender_core.specs.Rules.Open.{is_sealed_envelope, open_tests, open_rows, opened_put, opened_notice, opened_envelope, open_puts, SealedTender}
pub use Rattle.tender_core.specs.Rules.Present.{is_sealed_by, received, seal_puts, security_put, received_puts, present_tests, present_rows}
pub use Rattle.tender_core.specs.Rules.Publish.{publish_tests, publish_rows, publish_parts, late_puts, reserving_line_put, new_lot_put, notice_row, publish_puts, no_line, is_on_no_line, reserving_line, lot_row, notice_put, wanted, is_short}
pub use Rattle.tender_core.specs.Rules.Register.{register_puts, register_rows}
pub use Rattle.tender_core.specs.Rules.Withdraw.{withdraw_tests, withdraw_puts, withdraw_rows, taken_back_puts, withdraw_lacks, cant_be_taken_back}
pub use Rattle.tender_core.specs.declared.withdraw.WithdrawRows.{WithdrawRows}
