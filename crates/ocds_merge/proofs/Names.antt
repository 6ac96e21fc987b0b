-- The names of other crates, and of this one's definitions, that the proofs of this crate use. A file takes them by one import.
pub use Rattle.json.proofs.Printed.Decimals.{IsNumber-decimal, IsNumber-signed_decimal}
pub use Rattle.json.proofs.Printed.Strings.{escape_byte_plain}
pub use Rattle.json.proofs.Printed.Tokens.{tokens-print}
pub use Rattle.json.proofs.Printed.Trees.{ArePrintable-json_tokens, value-json_tokens}
pub use Rattle.json.specs.Lex.{tokens, lex, punctuate, fresh}
pub use Rattle.json.specs.Print.{escape, quoted, IsNumber}
unfoldable pub use Rattle.json.specs.Print.{escape_byte}
pub use Rattle.json.specs.Token.{Token}
pub use Rattle.json.specs.Tree.{json_tokens, HasNumbers, ItemsHaveNumbers, MembersHaveNumbers}
pub use Rattle.ocds_merge.specs.Compile.{members_without, body_of, compiled_tag, put_head, with_head, date_of, insert_by_date, date_order, last_date, compiled_release}
pub use Rattle.ocds_merge.specs.Identified.{id_of, is_id_list, text_id, text_member, all_have_id}
pub use Rattle.ocds_merge.specs.Inside.Pending.{HaveDistinctIds, alone, pending, step_list, unless, with_item}
pub use Rattle.ocds_merge.specs.Inside.Places.{IsPlaceOf, place_in, IsIndexOf, IndexServes}
pub use Rattle.ocds_merge.specs.Inside.Readable.{AllAfter, ItemsFrom, MembersFrom, NextMember, PassedItems, PassedMembers, Reads, MembersRead, ItemsRead}
pub use Rattle.ocds_merge.specs.Inside.Scan.{scan, IsPlain, AllStandForThemselves, in_string, StandsForItself}
pub use Rattle.ocds_merge.specs.Inside.Splice.{AllAbove, IsOrdered, TextIsKept, IsInRange, AreItemsKept, AreMembersKept, EndsBefore, no_comma, StandAt, Searched, FoundAt, SameItems, ItemsMerged, StartsFrom, StartsWith, SameText, Merged}
pub use Rattle.ocds_merge.specs.Inside.Step.{find_item, set_item, step, Lacks, step_members, object_of, step_items, id_list_of, items_list, not_null}
pub use Rattle.ocds_merge.specs.Laws.{IsProper, AreItemsProper, AreMembersProper, IsInDateOrder, is_dated}
pub use Rattle.ocds_merge.specs.Merge.{names_of, object_run, column_at, names_in, merge_objects, id_list_run, items_in, merge_items, merge_within, deepest_of, merge_newest_first, merge_or_null, put_present, items_ahead, ids_in, merge_of, merge_names, merge_item, merge_level}
pub use Rattle.ocds_merge.specs.Stored.{IsStorable, IsWrittenObject, KeepsMerge, IsWrittenMerge}
pub use Rattle.ocds_merge.specs.declared.stored.StoredFault.{StoredFault}
pub use Rattle.serde_json.proofs.Numbers.{number_of-decimal, number_of-negative}
unfoldable pub use Rattle.serde_json.proofs.OnLiterals.{serde_json_on_literals}
pub use Rattle.serde_json.proofs.Texts.{print-outline}
pub use Rattle.serde_json.proofs.Views.{Entry, get_member-put, get_member-put_other, view-lookup, view-Array, view-Object}
pub use Rattle.serde_json.specs.Data.{Data, null, item, Members, member, boolean, number, string, array, object, Items, put, no_members, no_items, depth, Num, unsigned, negative, float, items_depth, members_depth}
pub use Rattle.serde_json.specs.Find.{get_member, as_str, is_float, get}
pub use Rattle.serde_json.specs.Read.{read, is_integer, float_of, number_from, of_json, of_items, of_members, max_depth}
unfoldable pub use Rattle.serde_json.specs.Read.{number_of}
pub use Rattle.serde_json.specs.View.{view, items_view, members_view, items_of}
pub use Rattle.serde_json.specs.Written.{compact_text, has_float, items_have_float, members_have_float, items_text, members_text, number_text, comma_if, outline, items_outline, members_outline}
pub use Rattle.serde_json.specs.declared.value.Value.{Value, Null, the_lemmas}
pub use Rattle.std.proofs.Common.{◌≡◌, ◌<◌, ◌+◌, ℕ, zero, suc, List, [], ◌∷◌, ◌++◌, map, take, drop, set, length, get_or, true, false, cond, Option, Some, None, option_map, unwrap_or, String, Global, Ordering, Less, Equal, Greater, string_bytes, string_cmp, nat_cmp, bytes_eq, refl, sym, ap, ◌∙◌, subst, arith, rules, reverse, Bool, option_to_list, codes, T, All, ◌&&◌, is_some, option_and_then, true≢false, filter, ◌||◌, pos, negsuc, ◌≢◌, append_assoc, decimal, ◌⊎◌, inl, inr, ◌≤◌, max, ◌^◌, ◌==◌, ◌-◌, replicate, neg_ℤ, ap₂, nat_lt, nat_le, append-nil, not, MatchOption, Result, Ok, Err, IfOk, OnOk, Bor, ◌*◌, Vec}
pub use Rattle.std.proofs.Math.Nat.{le-max_left, le-max_right, max-le}
pub use Rattle.std.proofs.lemmas.Bool.{ne_eqb, ltb-true, leb-true, or_parts, cases_eq, cases_lt, cond-true, cond-false, cases_Bool}
pub use Rattle.std.proofs.lemmas.Cmp.{nat_list_cmp_total, tied_itself}
pub use Rattle.std.proofs.lemmas.Fmt.{decimal_is_IsNumeral, decimal_nonempty, decimal-digits_value}
pub use Rattle.std.proofs.lemmas.Grind.{flat_map-append}
pub use Rattle.std.proofs.lemmas.Int.Digits.{digits_value-lt, digits_more}
pub use Rattle.std.proofs.lemmas.List.{drop_more, get_or-map, length-map, set-set, map-set, map-append, reverse-append, take-append-drop, length-take-le, get_or-take, length-append, get_or_append_left, take_more, take_all, drop_all, length-drop}
pub use Rattle.std.proofs.lemmas.List.Elements.{All-append, All-cons, All-nil}
pub use Rattle.std.proofs.lemmas.List.Folds.{list_any-append}
pub use Rattle.std.proofs.lemmas.List.Sorted.{ranks_by, answers_always}
pub use Rattle.std.proofs.lemmas.Map.Keys.{sorted_head, sorted_tail}
pub use Rattle.std.proofs.lemmas.Map.Lookups.{exact_bytes}
pub use Rattle.std.proofs.lemmas.Map.Text.{is_eq-slice_cmp, btree_map_updates_text}
pub use Rattle.std.proofs.lemmas.Result.{IfOk-weaker}
pub use Rattle.std.proofs.lemmas.Slice.Eq.{bytes_eq-Decides}
pub use Rattle.std.proofs.lemmas.Str.Parse.{IsNumeralModel}
pub use Rattle.std.specs.BTreeMap.{is_at, BTreeMap, get_by_text}
pub use Rattle.std.specs.Char.{digit_value}
pub use Rattle.std.specs.Cmp.{IsStrictWeakOrder}
pub use Rattle.std.specs.Cmp.Lexicographic.{slice_cmp}
pub use Rattle.std.specs.Float.{binary64, float_is_finite}
pub use Rattle.std.specs.Float.Numeral.{Parts, numeral_digits, nearest_float, scan_numeral}
unfoldable pub use Rattle.std.specs.Fmt.{digits}
pub use Rattle.std.specs.List.{AllByRecursion, list_any}
pub use Rattle.std.specs.List.Sorted.{IsSortedBy, IsStableBy, ties}
unfoldable pub use Rattle.std.specs.List.Sorted.{IsStrictlySortedBy}
pub use Rattle.std.specs.Map.{keys_of, remove_entry}
pub use Rattle.std.specs.Ordering.{is_eq, match_ordering, is_lt, ordering_reverse}
pub use Rattle.std.specs.Prelude.{IsTrue, ⊤}
pub use Rattle.std.specs.Str.Parse.{AllDigits, digits_value}
