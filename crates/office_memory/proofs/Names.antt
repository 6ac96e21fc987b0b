-- The names of other crates, and of this one's definitions, that the proofs of this crate use. A file takes them by one import.
pub use Rattle.keyed_table.proofs.RowDropped.{all-drop}
pub use Rattle.keyed_table.proofs.RowRanges.{between_is}
pub use Rattle.office_base.proofs.EntrySums.{sums_are}
pub use Rattle.office_base.proofs.Orders.{same_key, equal_from_test, equal_back, alike_right}
pub use Rattle.office_base.proofs.RowLaws.{all-put}
pub use Rattle.office_base.proofs.RowLaws.Drops.{start-drop}
pub use Rattle.office_base.proofs.RowLaws.Filters.{filter_filter}
pub use Rattle.office_base.proofs.RowLaws.Puts.{put_first}
pub use Rattle.office_base.proofs.RowLaws.Starts.{all_above, tied}
pub use Rattle.office_base.specs.EntrySums.{sums_with_entry, bare_sums, sums_with_entries}
pub use Rattle.office_base.specs.Joined.{reservations, sums_of_line, sums_of, sums_under}
pub use Rattle.office_base.specs.LineSums.{pots_with, SumsFit, JoinedSums}
pub use Rattle.office_base.specs.RowLaws.{RowsAreKept}
pub use Rattle.office_base.specs.Rows.{IsInOrder, by_order}
unfoldable pub use Rattle.office_base.specs.Rows.{row_at, row_put, row_drop}
pub use Rattle.office_base.specs.Shelves.{Alters}
pub use Rattle.office_base.specs.Tables.{Tables, IsSorted, after_put, after_puts, seal_key, put_seal, ChangesKeepOrder, contracts_of_lot, lot_key, lots_of_line, same_number}
pub use Rattle.office_base.specs.declared.ledger.ContractSums.{ContractSums}
pub use Rattle.office_base.specs.declared.ledger.LineAmounts.{LineAmounts}
pub use Rattle.office_base.specs.declared.ledger.Pots.{Pots}
pub use Rattle.office_base.specs.declared.puts.Put.{Put}
pub use Rattle.office_base.specs.declared.records.ContractRow.{ContractRow}
pub use Rattle.office_base.specs.declared.records.EntryKind.{EntryKind}
pub use Rattle.office_base.specs.declared.records.EntryKind.TheVariants.{Raise, Cut, Payment}
pub use Rattle.office_base.specs.declared.records.EntryRow.{EntryRow}
pub use Rattle.office_base.specs.declared.records.LineRow.{LineRow}
pub use Rattle.office_base.specs.declared.records.LotRow.{LotRow}
pub use Rattle.office_base.specs.declared.records.ReleaseRow.{ReleaseRow}
pub use Rattle.office_base.specs.declared.records.SealRow.{SealRow}
pub use Rattle.office_base.specs.declared.shelf.ShelfFault.{ShelfFault}
pub use Rattle.office_memory.specs.Inside.Adding.{HasRoom, IsLedgerRow, IsLedgerTo}
pub use Rattle.office_memory.specs.Inside.Drops.{rows_drop, without_seals}
pub use Rattle.office_memory.specs.Inside.GroupIndex.{KeysOfGroups, keys_in, keys_of, has_key, HasRows, IsIndexed}
pub use Rattle.office_memory.specs.Inside.IdBounds.{least}
unfoldable pub use Rattle.office_memory.specs.Inside.IdBounds.{greatest}
pub use Rattle.office_memory.specs.MemoryMeaning.{memory_meaning}
pub use Rattle.office_memory.specs.MemoryTables.{after_undo, after_undos, CanUndo, CanUndoAll, tables_of}
pub use Rattle.office_memory.specs.declared.tables.Undo.{Undo}
pub use Rattle.office_values.specs.Ids.{is_id_byte, IsId, id_cmp, same_id}
pub use Rattle.std.proofs.Common.{sym, ap, ◌∙◌, subst, arith, refl, lit≤, Bor, take, vec_len, vec_capacity, rules, IsSome}
pub use Rattle.std.proofs.Math.Bool.{and-true}
pub use Rattle.std.proofs.lemmas.Bool.{and_parts, or_left, or_from, both_ways, cond-false, false_from_ne_true, and_from, not_from_false}
pub use Rattle.std.proofs.lemmas.Bool.Decides.{nat_tests}
pub use Rattle.std.proofs.lemmas.Fn.{filter_same}
pub use Rattle.std.proofs.lemmas.List.Elements.{All-head, All-tail, All-replicate}
pub use Rattle.std.proofs.lemmas.Map.Keys.{sorted_head, sorted_tail}
pub use Rattle.std.specs.BTreeMap.{get, is_at}
pub use Rattle.std.specs.BTreeSet.{BTreeSet, contains}
pub use Rattle.std.specs.Cmp.{IsTotalOrder, nat_cmp_total}
pub use Rattle.std.specs.Cmp.Lexicographic.{slice_cmp, nat_list_cmp_total, texts_ties}
pub use Rattle.std.specs.List.{AllByRecursion, list_any, filter_map, cons_option}
unfoldable pub use Rattle.std.specs.List.Sorted.{IsStrictlySortedBy}
pub use Rattle.std.specs.Map.{lookup, values_of}
pub use Rattle.std.specs.Ordering.{is_eq, ordering_reverse, nat_cmp, ordering_then, is_le, is_lt, eq_by_cmp, is_gt}
pub use Rattle.std.specs.Prelude.{◌≡◌, ℕ, ◌+◌, ◌^◌, ◌≤◌, List, Some, None, Bool, true, false, cond, ◌&&◌, [], ◌∷◌, filter, Result, Ok, Err, OnOk, OnErr, ◌||◌, zero, suc, IsTrue, length, All, replicate, ◌++◌, not, nat_eq, ◌<◌, ◌-◌, map}
pub use Rattle.std.specs.declared.cmp.Ordering.{Ordering}
pub use Rattle.std.specs.declared.cmp.Ordering.TheVariants.{Equal, Less, Greater}
