-- The names of other crates, and of this one's definitions, that the proofs of this crate use. A file takes them by one import.
pub use Rattle.json.specs.Print.{quoted}
pub use Rattle.ocds_merge.specs.Compile.{date_of, last_date}
pub use Rattle.ocds_merge.specs.Stored.{IsStorable}
pub use Rattle.ocds_release.specs.Amendments.{amendment}
pub use Rattle.ocds_release.specs.Awards.{ended_award}
pub use Rattle.ocds_release.specs.Events.{release_of_event}
pub use Rattle.ocds_release.specs.Events.Cancel.{cancelled_lot_data}
pub use Rattle.ocds_release.specs.Events.Open.{opened_party, tenderer_reference_of}
pub use Rattle.ocds_release.specs.Events.Publish.{estimate_of, items_of_lots, published_lot, published_item}
pub use Rattle.ocds_release.specs.Inside.Built.{members_in}
pub use Rattle.ocds_release.specs.Inside.Earlier.{AreEarlier}
pub use Rattle.ocds_release.specs.Inside.Parts.{data_of, entry_of}
pub use Rattle.ocds_release.specs.Inside.Splicing.{member_text, with_extensions, tail_members, ordered_record, publisher_object}
pub use Rattle.ocds_release.specs.Inside.Words.{joined}
pub use Rattle.ocds_release.specs.KeptReleases.{AreKept}
pub use Rattle.ocds_release.specs.LotsInOrder.{lots_in_order, insert_by_id}
pub use Rattle.ocds_release.specs.Objects.{Entry, is_empty_list, with_entries, put_unless_empty, object_of, text, array_of, texts, money, reference, four_digit_id}
pub use Rattle.ocds_release.specs.Opened.{moment_of, moment_of_last, spliced, completed}
pub use Rattle.ocds_release.specs.Packages.{package_of, record_of}
pub use Rattle.ocds_release.specs.Releases.{head_of, release, tags}
pub use Rattle.ocds_release.specs.TenderStatuses.{status_code, state_cancelled, state_with}
pub use Rattle.ocds_release.specs.Tenderers.{Tenderer, tenderer_shown}
pub use Rattle.ocds_release.specs.Tenders.{tender_members}
pub use Rattle.ocds_release.specs.Texts.{ocid_text, address}
pub use Rattle.ocds_release.specs.declared.event.Event.{Event}
pub use Rattle.ocds_release.specs.declared.event.Event.TheVariants.{Publish, Open, Cancel}
pub use Rattle.ocds_release.specs.declared.event.NoticeCancelled.{NoticeCancelled}
pub use Rattle.ocds_release.specs.declared.event.Opened.{Opened}
pub use Rattle.ocds_release.specs.declared.event.Published.{Published}
pub use Rattle.ocds_release.specs.declared.part.Part.{Part}
pub use Rattle.office_base.specs.Sums.{sum_over}
pub use Rattle.office_base.specs.declared.records.ReleaseRow.{ReleaseRow}
pub use Rattle.office_commands.specs.Lots.{lot_id}
pub use Rattle.office_commands.specs.declared.item.Item.{Item}
pub use Rattle.office_commands.specs.declared.lot.NewLot.{NewLot}
pub use Rattle.office_values.specs.Ids.{id_cmp}
unfoldable pub use Rattle.office_values.specs.Moments.{moment_text, year_after, month_after}
pub use Rattle.office_values.specs.declared.settings.Publisher.{Publisher}
unfoldable pub use Rattle.serde_json.proofs.OnLiterals.{serde_json_on_literals}
pub use Rattle.serde_json.proofs.Views.{get_member-put_other, view-Array}
pub use Rattle.serde_json.specs.Data.{Data, Members, put, array, number, unsigned, object, Items, no_members, member, depth, items_depth, members_depth, null, item, no_items}
pub use Rattle.serde_json.specs.Find.{get_member, as_str}
pub use Rattle.serde_json.specs.View.{items_view, items_of, view}
pub use Rattle.serde_json.specs.Written.{has_float, items_have_float, members_have_float, compact_text, comma_if, items_text, members_text}
pub use Rattle.serde_json.specs.declared.value.Value.{Value}
pub use Rattle.std.proofs.Common.{◌≡◌, ℕ, refl, arith, List, [], ◌∷◌, Bool, true, false, ◌||◌, sym, ◌∙◌, true≢false, cond, bytes_eq, length, Vec, Global, rules, ap, ◌==◌, ◌≤◌, suc, ◌++◌, map, Ordering, Less, Equal, Greater, nat_cmp, codes, ◌<◌, zero, take, get_or, Bor, ◌-◌, if◌then◌else◌, ◌+◌, ◌*◌, drop, subst, append-nil}
pub use Rattle.std.proofs.Math.Nat.{le-max_left, le-max_right, max-le}
pub use Rattle.std.proofs.lemmas.List.{append_assoc, drop_more, length-map, take_more, get_or-map}
pub use Rattle.std.proofs.lemmas.Slice.Eq.{bytes_eq-Decides}
pub use Rattle.std.specs.Cmp.Lexicographic.{slice_cmp}
unfoldable pub use Rattle.std.specs.Fmt.{digits}
pub use Rattle.std.specs.List.{insert}
pub use Rattle.std.specs.Ordering.{match_ordering, is_lt}
pub use Rattle.std.specs.Prelude.{unwrap_or, option_and_then, IfOk, string_bytes}
pub use Rattle.std.specs.Vec.{vec_len}
