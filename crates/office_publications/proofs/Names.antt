-- The names of other crates, and of this one's definitions, that the proofs of this crate use. A file takes them by one import.
pub use Rattle.award_core.specs.Rules.Award.{is_admissible, price_of, lesser, lowest_price, is_better, better, best_with, weight_in, winner}
pub use Rattle.json.proofs.Printed.Strings.{content-escape}
pub use Rattle.json.specs.Print.{quoted, escape, token_text}
pub use Rattle.json.specs.Text.{content, plain}
pub use Rattle.json.specs.Token.{Token}
pub use Rattle.ocds_merge.proofs.KindLaw.{newest}
pub use Rattle.ocds_merge.specs.Compile.{body_of, date_of, compiled_release, compiled_tag, last_date, with_head}
pub use Rattle.ocds_merge.specs.Laws.{IsInDateOrder}
pub use Rattle.ocds_merge.specs.Merge.{merge_or_null}
pub use Rattle.ocds_merge.specs.Stored.{IsStorable, KeepsMerge, IsWrittenRelease}
pub use Rattle.ocds_release.proofs.Flat.{AreMembersFlat, entries_flat, text_flat, texts_flat}
pub use Rattle.ocds_release.proofs.PackageTexts.{kept_last}
pub use Rattle.ocds_release.specs.Events.{release_of_event}
pub use Rattle.ocds_release.specs.KeptReleases.{ReleaseIsKept, AreKept, HasText}
pub use Rattle.ocds_release.specs.Opened.{moment_of_last}
pub use Rattle.ocds_release.specs.Tenderers.{tenderer_shown}
pub use Rattle.ocds_release.specs.Texts.{ocid_text}
pub use Rattle.ocds_release.specs.declared.event.Event.{Event}
pub use Rattle.office_base.proofs.ExactKeys.{equal_ids, same_itself, ids_exact, equal_keys, same_id_is}
pub use Rattle.office_base.proofs.Orders.{same_key}
pub use Rattle.office_base.proofs.RowLaws.{row_at-row_put}
pub use Rattle.office_base.proofs.RowLaws.Filters.{if_passes, in_order-filter, row_at-filter}
pub use Rattle.office_base.proofs.RowLaws.Keyed.{found_key}
pub use Rattle.office_base.specs.Joined.{entry_sum}
pub use Rattle.office_base.specs.Limits.{release_limit}
pub use Rattle.office_base.specs.Rows.{by_order, StartsAbove, IsInOrder}
unfoldable pub use Rattle.office_base.specs.Rows.{row_at}
pub use Rattle.office_base.specs.Tables.{Tables, IsSorted, notice_at, release_at, release_cmp, release_key, release_numbers, releases_of_notice, award_at, contract_at, compiled_at, compiled_key, find_compiled, envelopes_of_lot, after_puts, ChangesKeepOrder, put_compiled}
pub use Rattle.office_base.specs.declared.puts.Put.{Put}
pub use Rattle.office_base.specs.declared.records.CompiledRow.{CompiledRow}
pub use Rattle.office_base.specs.declared.records.EnvelopeRow.{EnvelopeRow}
pub use Rattle.office_base.specs.declared.records.NoticeRow.{NoticeRow}
pub use Rattle.office_base.specs.declared.records.ReleaseRow.{ReleaseRow}
pub use Rattle.office_base.specs.declared.records.SealRow.{SealRow}
pub use Rattle.office_base.specs.declared.records.TendererRow.{TendererRow}
pub use Rattle.office_commands.specs.declared.command.Caller.{Caller}
pub use Rattle.office_commands.specs.declared.commands.Command.{Command}
pub use Rattle.office_commands.specs.declared.commands.Command.TheVariants.{Fail, Sign, AmendContract, Pay, End, Open, Award}
pub use Rattle.office_machine.proofs.Accounts.Aside.{after-append}
pub use Rattle.office_machine.proofs.Parents.ParentsThere.{parents_there}
pub use Rattle.office_machine.proofs.Releases.NextIs.{next_is}
pub use Rattle.office_machine.proofs.Rows.Keyed.{found, found_put}
pub use Rattle.office_machine.proofs.Rows.Numbered.{FindsAll, keys_are}
pub use Rattle.office_machine.specs.Accounts.{TablesAreInOrder}
pub use Rattle.office_machine.specs.Counted.{releases_in}
pub use Rattle.office_machine.specs.Fates.{numbers}
pub use Rattle.office_machine.specs.Machine.{Given, with_merges, time_of, Means, effect, publication, publication_puts, puts_of, release_row, next, AreOfNotices}
pub use Rattle.office_machine.specs.MergesApart.{LooksReadNoMerges, NextReadsNoMerges, beside}
pub use Rattle.office_machine.specs.OfficeMeans.{office_readings}
pub use Rattle.office_machine.specs.Parents.{HaveParents, ParentsAreThere}
pub use Rattle.office_machine.specs.Publications.{published_for}
pub use Rattle.office_machine.specs.Releases.{AreNumbered, ReleasesArePublished, published_by, published_of, MomentsNeverFall, ReleasesAreInTime}
pub use Rattle.office_machine.specs.Requests.{StepsReach}
pub use Rattle.office_machine.specs.Seals.{ButDigest}
pub use Rattle.office_machine.specs.Worlds.{Pairs}
pub use Rattle.office_publications.specs.AwardEvents.{award_event}
pub use Rattle.office_publications.specs.Events.{event_of}
pub use Rattle.office_publications.specs.Keeping.{MergesStandBeside, next_with_merges, has_last_release, has_release, KeepsReleasesOf, ReadsBack, merged_row, kept_puts, merge_puts, NoEventPublishesNothing, EventsAreReleased, NoEventPutsItsEffect, EventsPutReleases, KeepsReleases, PublicationReadsBack, KeptStepsReach, ReleasesStayKept, NothingIsKeptAtFirst}
pub use Rattle.office_publications.specs.Merges.{AreReleasesOf, CanBeMerged, IsMerge, IsMergedOf, bodies, body_in, AreMerged, IsPublished, MergesStay, data_in, ReleasesStay, BodiesAreStorable, AreWritten}
pub use Rattle.office_publications.specs.MergesApart.{KeptStepsReadNoMerges, PackagesTellNoMerges, PublishedLooksReadNoMerges, ReleasesTellNoMerges}
pub use Rattle.office_publications.specs.NoticeEvents.{open_event}
pub use Rattle.office_publications.specs.Packages.{packages, compiled_told}
pub use Rattle.office_publications.specs.Publishing.{publishing, release_text, ReleasesAreMade, text_by, notice_published}
pub use Rattle.office_publications.specs.Sealed.{ReleasesTellNoSeals, PackagesTellNoSeals}
pub use Rattle.office_publications.specs.Standing.{IsReached}
pub use Rattle.office_publications.specs.Told.{AreInSequence, IsCompiled, IsInRange}
pub use Rattle.office_publications.specs.Worth.{is_contract_cut}
pub use Rattle.office_values.specs.Ids.{id_cmp, same_id}
pub use Rattle.office_values.specs.Moments.{moment_text, TextsKeepOrder}
pub use Rattle.office_values.specs.declared.settings.Publisher.{Publisher}
pub use Rattle.serde_json.specs.Data.{Data, null, Num, unsigned, negative, float, boolean, number, string, array, object, Items, no_items, item, Members, no_members, member}
pub use Rattle.serde_json.specs.Find.{is_float, get_member, as_str}
pub use Rattle.serde_json.specs.Read.{read}
pub use Rattle.serde_json.specs.View.{view}
pub use Rattle.serde_json.specs.Written.{compact_text, number_text, outline, items_outline, members_outline, has_float, items_have_float, members_have_float, comma_if, items_text, members_text}
pub use Rattle.std.proofs.Common.{◌≡◌, ℕ, List, refl, ◌∙◌, ap, ◌+◌, Bool, true, false, cond, [], ◌∷◌, map, length, filter, Option, Some, None, is_some, sym, arith, subst, pos, negsuc, ◌/◌, ◌%◌, ◌==◌, decimal, ap₂, append_assoc, append-nil, inl, inr, take, rules, Result, Ok, Err, ◌*◌, ◌^◌, drop}
pub use Rattle.std.proofs.lemmas.Bool.{or_parts, and_from, lt-ltb, le-ltb}
pub use Rattle.std.proofs.lemmas.Bool.Decides.{nat_tests}
pub use Rattle.std.proofs.lemmas.List.{map-append, append_cancel_left, take_more, take_all}
pub use Rattle.std.proofs.lemmas.List.Elements.{All-append, All-cons, All-map, All-nil, All-weaker, recursion_from_All, All-from_recursion, All-more}
pub use Rattle.std.proofs.lemmas.Option.{slice_get_past}
pub use Rattle.std.specs.Cmp.{nat_cmp_is}
pub use Rattle.std.specs.Cmp.Lexicographic.{nat_list_cmp_total, slice_cmp}
pub use Rattle.std.specs.Fmt.{digits_onto, digit_glyph}
unfoldable pub use Rattle.std.specs.Fmt.{digits}
pub use Rattle.std.specs.List.{AllByRecursion, list_any}
pub use Rattle.std.specs.Ordering.{nat_cmp, ordering_then, eq_by_cmp, is_lt, match_ordering}
pub use Rattle.std.specs.Prelude.{◌≤◌, ◌<◌, ◌&&◌, ◌||◌, zero, suc, nat_eq, nat_le, slice_get, option_map, IsSome, ◌++◌, All, unwrap_or, option_and_then, nat_lt, option_to_list, codes, OnOk, slice_index_or}
pub use Rattle.std.specs.Result.{is_err}
pub use Rattle.std.specs.declared.cmp.Ordering.{Ordering}
pub use Rattle.std.specs.declared.cmp.Ordering.TheVariants.{Equal, Greater, Less}
pub use Rattle.tender_core.specs.Rules.Open.{is_sealed_envelope}
