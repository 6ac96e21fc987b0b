-- The names of other crates, and of this one's definitions, that the proofs of this crate use. A file takes them by one import.
pub use Rattle.award_core.specs.Rules.AmendContract.{amend_contract_lacks, amend_contract_puts, amend_contract_rows, amend_contract_tests}
pub use Rattle.award_core.specs.Rules.Award.{award_puts, award_rows, decision_puts, winner, price_of, award_lacks, award_tests}
pub use Rattle.award_core.specs.Rules.End.{end_lacks, end_puts, end_rows, end_tests}
pub use Rattle.award_core.specs.Rules.Examine.{examine_lacks, examine_puts, examine_rows, examine_tests}
pub use Rattle.award_core.specs.Rules.Fail.{fail_lacks, fail_puts, fail_rows, fail_tests}
pub use Rattle.award_core.specs.Rules.Pay.{pay_lacks, pay_puts, pay_rows, pay_tests}
pub use Rattle.award_core.specs.Rules.Sign.{sign_lacks, sign_puts, sign_rows, sign_tests}
pub use Rattle.award_core.specs.declared.amend_contract.AmendContractRows.{AmendContractRows}
pub use Rattle.award_core.specs.declared.award.AwardRows.{AwardRows}
pub use Rattle.award_core.specs.declared.end.EndRows.{EndRows}
pub use Rattle.award_core.specs.declared.examine.ExamineRows.{ExamineRows}
pub use Rattle.award_core.specs.declared.fail.FailRows.{FailRows}
pub use Rattle.award_core.specs.declared.pay.PayRows.{PayRows}
pub use Rattle.award_core.specs.declared.sign.SignRows.{SignRows}
pub use Rattle.json.specs.Print.{print}
pub use Rattle.json.specs.Token.{begin_array, end_array, key, begin_object, end_object}
pub use Rattle.json.specs.Tree.{items_tokens, members_tokens}
pub use Rattle.ocds_merge.specs.Stored.{IsWrittenMerge, IsStorable}
pub use Rattle.ocds_release.specs.Events.{release_of_event}
pub use Rattle.ocds_release.specs.TenderStatuses.{state_with, tender_status_of, state_cancelled}
pub use Rattle.ocds_release.specs.Tenderers.{tenderer_shown}
pub use Rattle.ocds_release.specs.Texts.{ocid_text}
pub use Rattle.ocds_release.specs.declared.event.Event.{Event}
pub use Rattle.ocds_release.specs.declared.event.Party.{Party}
pub use Rattle.ocds_release.specs.declared.tender_status.TenderStatus.{TenderStatus}
pub use Rattle.office_base.proofs.ExactKeys.{equal_ids, same_itself, same_id_is}
pub use Rattle.office_base.proofs.RowLaws.Filters.{all_filter}
pub use Rattle.office_base.proofs.RowLaws.Keyed.{found_key}
pub use Rattle.office_base.proofs.RowLaws.Puts.{put_first}
pub use Rattle.office_base.proofs.RowLaws.Starts.{start_of, tied, all_above, none_below}
unfoldable pub use Rattle.office_base.specs.Deciding.{Decides}
pub use Rattle.office_base.specs.Faults.{HasRisen, one_fault_more}
pub use Rattle.office_base.specs.Parents.{envelope_of_award, lot_of_award, notice_of_award, notice_of_contract}
pub use Rattle.office_base.specs.RowLaws.{RowsAreKept}
pub use Rattle.office_base.specs.Rows.{by_order, StartsAbove, IsInOrder, holds_of}
unfoldable pub use Rattle.office_base.specs.Rows.{row_at, row_put}
pub use Rattle.office_base.specs.Rules.{first_of}
pub use Rattle.office_base.specs.Shelves.{CountsFaults, Looks, Meaning, LooksFollow}
pub use Rattle.office_base.specs.Standings.{find_standing, put_standing, columns_at, standing_key, standings, columns_of_row}
pub use Rattle.office_base.specs.States.{is_sealed}
pub use Rattle.office_base.specs.Tables.{Tables, line_at, line_key, find_line, envelopes_of_lot, notice_at, lot_at, securities_of_lot, envelopes_of_notice, find_tenderer, put_tenderer, tenderer_key, lot_cmp, compiled_at, award_key, award_at, contract_at, envelope_at, tenderer_at, lots_of_notice, entries_of_contract, lots_of_line, lot_key, batch_at}
pub use Rattle.office_base.specs.Transitions.{is_in_time, is_late}
pub use Rattle.office_base.specs.declared.puts.Put.{Put}
pub use Rattle.office_base.specs.declared.puts.Put.TheVariants.{Release, Compiled, Envelope}
pub use Rattle.office_base.specs.declared.records.AwardRow.{AwardRow}
pub use Rattle.office_base.specs.declared.records.ClockRow.{ClockRow}
pub use Rattle.office_base.specs.declared.records.CompiledRow.{CompiledRow}
pub use Rattle.office_base.specs.declared.records.ContractRow.{ContractRow}
pub use Rattle.office_base.specs.declared.records.EntryRow.{EntryRow}
pub use Rattle.office_base.specs.declared.records.EnvelopeRow.{EnvelopeRow}
pub use Rattle.office_base.specs.declared.records.LineRow.{LineRow}
pub use Rattle.office_base.specs.declared.records.LotRow.{LotRow}
pub use Rattle.office_base.specs.declared.records.LotState.TheVariants.{Contracted, Unsuccessful}
pub use Rattle.office_base.specs.declared.records.NoticeRow.{NoticeRow}
pub use Rattle.office_base.specs.declared.records.ReleaseRow.{ReleaseRow}
pub use Rattle.office_base.specs.declared.records.SecurityRow.{SecurityRow}
pub use Rattle.office_base.specs.declared.records.TendererRow.{TendererRow}
pub use Rattle.office_base.specs.declared.shelf.ShelfFault.{ShelfFault}
pub use Rattle.office_base.specs.declared.standing.Columns.{Columns}
pub use Rattle.office_base.specs.declared.standing.Standing.{Standing}
pub use Rattle.office_commands.specs.Commands.{IsCommand}
pub use Rattle.office_commands.specs.declared.budget.BudgetRow.{BudgetRow}
pub use Rattle.office_commands.specs.declared.command.Caller.{Caller}
pub use Rattle.office_commands.specs.declared.command.Caller.TheVariants.{Public, Clerk}
pub use Rattle.office_commands.specs.declared.commands.Command.{Command}
pub use Rattle.office_commands.specs.declared.commands.Command.TheVariants.{Sign, Fail, Import, Register, AmendNotice, Present, Modify, Withdraw, Examine, Award, AmendContract, Pay, End, Publish, Cancel, Open}
pub use Rattle.office_commands.specs.declared.contract.ChangeKind.{ChangeKind}
pub use Rattle.office_commands.specs.declared.contract.How.{How}
pub use Rattle.office_commands.specs.declared.lot.NewLot.{NewLot}
pub use Rattle.office_commands.specs.declared.notice.NewNotice.{NewNotice}
pub use Rattle.office_commands.specs.declared.tender.NamedSecurity.{NamedSecurity}
pub use Rattle.office_machine.proofs.Rows.Keyed.{tenderers}
pub use Rattle.office_machine.specs.Counted.{releases_in}
pub use Rattle.office_machine.specs.Fates.{numbers}
pub use Rattle.office_machine.specs.Lacking.{is_lacking}
pub use Rattle.office_machine.specs.Machine.{may_give, refusal_of, Given, command_tests, effect, time_of, publication, publication_puts, puts_of}
pub use Rattle.office_machine.specs.OfficeMeans.{office_readings}
pub use Rattle.office_machine.specs.Orphans.{contract_is_taken, lacks_its_security, reserves_another, names_lost_line, is_torn, receipt_is_taken, lacks_seal, award_is_taken}
pub use Rattle.office_machine.specs.Outstanding.{left_by_end, left_by_payment, left_by_change}
pub use Rattle.office_machine.specs.Publications.{published_for}
pub use Rattle.office_machine.specs.References.{OfReceipt, is_named, has_rows, OfAward}
pub use Rattle.office_machine.specs.Replies.{OfContract, release_of, release_of_award, release_of_contract, OfNotice, Signed, Failed, received_reply, Enrolled, OpenedAll, Examined, Imported, modify_reply, Withdrew, state_after, Awarded, Winning}
pub use Rattle.office_machine.specs.Rule.{sealed_of_notice, sealed_tender, sealed_tenders, has_seal_and_lot}
pub use Rattle.office_plans.specs.Asking.{given_by}
pub use Rattle.office_plans.specs.AwardedLots.{awarded_rows, securities_unless_won}
pub use Rattle.office_plans.specs.Json.{Member, json_object, member_tokens, names_rise, value_tokens, with_members, entry_of, with_objects, objects_entry, text_entry, number_entry, moment_entry, object_text}
pub use Rattle.office_plans.specs.LookedUp.{IsAsIn, AreFrom, with_row}
pub use Rattle.office_plans.specs.Named.{StillThere, line_of_row, standing_at, with_new_standing, with_standing, with_standings, standings_named, with_line, with_lines, lines_named, is_of_lost_line, line_of_new, publish_named, cancel_named, import_named}
pub use Rattle.office_plans.specs.Opening.{tender_read, tenders_read, HasLotOf, with_lot}
pub use Rattle.office_plans.specs.OwnTenders.{own_envelopes, own_rows}
pub use Rattle.office_plans.specs.Plans.{Plan}
pub use Rattle.office_plans.specs.Published.{TellsRefusal, IsPlanned, accepted_reply, takes_memory}
pub use Rattle.office_plans.specs.Released.{IsReleased, IsKept, as_row}
pub use Rattle.office_plans.specs.Replies.{reply_text}
pub use Rattle.office_plans.specs.Tenderers.{tenderer_of, tenderers_named, with_tenderers}
pub use Rattle.office_plans.specs.Used.{first_cuts, cuts_lost_line, refusal_if_used, used_file, used_notice}
pub use Rattle.office_plans.specs.declared.published.Released.{Released}
pub use Rattle.office_publications.specs.AwardEvents.{sign_event, status_with, fail_event, name_in, award_event}
pub use Rattle.office_publications.specs.ContractEvents.{end_event, pay_event, amend_contract_event}
pub use Rattle.office_publications.specs.Events.{event_of}
pub use Rattle.office_publications.specs.Keeping.{EventsAreReleased, CanBeFollowed, FollowsReleases, KeepsItsReleases, ReadsBack, has_last_release, has_release, kept_puts, merge_puts, merged_row, KeepsReleasesOf}
pub use Rattle.office_publications.specs.Merges.{AreWritten, CanGoOn, HasMerge, IsKeptOf, AreSoMany}
pub use Rattle.office_publications.specs.NoticeEvents.{has_sealed, lot_name, deadline_in, cancel_event, open_event}
pub use Rattle.office_publications.specs.Publishing.{publishing}
pub use Rattle.office_publications.specs.Worth.{contract_value_after}
pub use Rattle.office_publications.specs.declared.merges.Kept.{Kept}
pub use Rattle.office_publications.specs.declared.merges.Kept.TheVariants.{Merge, Releases}
pub use Rattle.office_publications.specs.declared.publication.Publication.{Publication}
pub use Rattle.office_values.specs.Ids.{id_cmp, same_id}
pub use Rattle.office_values.specs.Money.{total_limit}
pub use Rattle.office_values.specs.declared.refusal.Refusal.{Refusal}
pub use Rattle.office_values.specs.declared.refusal.Refusal.TheVariants.{Unavailable, Forbidden, NoSuch, Exists, DeadlinePassed, InsufficientFunds, LimitReached}
pub use Rattle.office_values.specs.declared.refusal.Thing.TheVariants.{Line}
pub use Rattle.office_values.specs.declared.settings.Publisher.{Publisher}
pub use Rattle.serde_json.proofs.Texts.{print-outline}
pub use Rattle.serde_json.specs.Data.{Data, array, Members, no_members, member, put}
pub use Rattle.serde_json.specs.View.{items_of, view}
pub use Rattle.serde_json.specs.Written.{compact_text, items_outline, members_outline}
pub use Rattle.sha2.specs.Sha256.{sha256}
pub use Rattle.std.proofs.Common.{refl, sym, ap, ◌∙◌, subst, arith, inl, inr, ap₂, append-nil, take, rules, drop, get_or, add-one}
pub use Rattle.std.proofs.Math.Seq.{drop-cons}
pub use Rattle.std.proofs.lemmas.Bool.{and_parts, both_ways, false_from_ne_true}
pub use Rattle.std.proofs.lemmas.Bool.Decides.{nat_tests}
pub use Rattle.std.proofs.lemmas.Grind.{flat_map-append, common_steps}
pub use Rattle.std.proofs.lemmas.List.{append_assoc, flat_map_more, map-append, take_more, take_all, at_drop_all, drop_all, drop_more, length-map}
pub use Rattle.std.proofs.lemmas.Map.Lookups.{exact_bytes}
pub use Rattle.std.proofs.lemmas.Simd.{map-map}
pub use Rattle.std.specs.Cmp.Lexicographic.{texts_ties, slice_cmp}
pub use Rattle.std.specs.FinMap.{nat_cmp-IsAntisymmetric}
pub use Rattle.std.specs.List.{AllByRecursion, list_any, flat_map, list_all}
pub use Rattle.std.specs.Option.{option_copied}
pub use Rattle.std.specs.Ordering.{eq_by_cmp, is_eq, is_gt, match_ordering, nat_cmp, ordering_then}
pub use Rattle.std.specs.Prelude.{◌≡◌, ℕ, Bool, true, false, cond, List, [], ◌∷◌, map, Option, Some, IsSome, is_some, option_and_then, ◌<◌, ◌⊎◌, ◌+◌, ◌-◌, ◌^◌, None, Result, Ok, Err, max, Vec, IsErrAnd, IfOk, zero, suc, ◌&&◌, nat_eq, length, ◌||◌, filter, not, ◌++◌, OnOk, option_map, IfErr, slice_get, codes}
pub use Rattle.std.specs.declared.alloc.Global.{Global}
pub use Rattle.std.specs.declared.cmp.Ordering.{Ordering}
pub use Rattle.std.specs.declared.cmp.Ordering.TheVariants.{Less, Equal, Greater}
pub use Rattle.tender_core.proofs.ImportsAgree.{columns_at-after_row}
pub use Rattle.tender_core.specs.Agreeing.{ImportsAgree, AgreeOnRows, PublishesAgree, cancel_on}
pub use Rattle.tender_core.specs.Rules.AmendNotice.{amend_notice_puts, amend_notice_rows, amend_notice_tests}
pub use Rattle.tender_core.specs.Rules.Cancel.{is_ended_award, is_open_lot, cancel_lacks, cancel_puts, cancel_rows, cancel_tests}
pub use Rattle.tender_core.specs.Rules.Import.{import_lacks, import_puts, import_rows, import_tests, columns_after, after_row, any_while_walking, cuts_nothing, is_cut}
pub use Rattle.tender_core.specs.Rules.Modify.{modify_lacks, modify_puts, modify_rows, modify_tests, replacing}
pub use Rattle.tender_core.specs.Rules.Open.{is_sealed_envelope, with_reading, open_rows, open_tests, opened_with}
pub use Rattle.tender_core.specs.Rules.Present.{is_sealed_by, present_rows, present_tests, present_puts, received}
pub use Rattle.tender_core.specs.Rules.Publish.{publish_puts, publish_rows, publish_tests, is_on_no_line}
pub use Rattle.tender_core.specs.Rules.Register.{register_puts, register_rows, register_tests}
pub use Rattle.tender_core.specs.Rules.Withdraw.{withdraw_lacks, withdraw_puts, withdraw_rows, withdraw_tests}
pub use Rattle.tender_core.specs.Walks.{IsAtMost, AreAtMost}
pub use Rattle.tender_core.specs.declared.amend_notice.AmendNoticeRows.{AmendNoticeRows}
pub use Rattle.tender_core.specs.declared.asking.Asking.{Asking}
pub use Rattle.tender_core.specs.declared.cancel.CancelRows.{CancelRows}
pub use Rattle.tender_core.specs.declared.import.ImportRows.{ImportRows}
pub use Rattle.tender_core.specs.declared.modify.ModifyRows.{ModifyRows}
pub use Rattle.tender_core.specs.declared.opening.OpenRows.{OpenRows}
pub use Rattle.tender_core.specs.declared.opening.OpenedTender.{OpenedTender}
pub use Rattle.tender_core.specs.declared.present.PresentRows.{PresentRows}
pub use Rattle.tender_core.specs.declared.publish.PublishRows.{PublishRows}
pub use Rattle.tender_core.specs.declared.register.RegisterRows.{RegisterRows}
pub use Rattle.tender_core.specs.declared.withdraw.WithdrawRows.{WithdrawRows}
