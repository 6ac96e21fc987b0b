-- The names of other crates, and of this one's definitions, that the proofs of this crate use. A file takes them by one import.
pub use Rattle.office_base.proofs.EntrySums.{sums_are}
pub use Rattle.office_base.proofs.ExactKeys.{lots_exact, entries_exact, equal_keys, same_itself, equal_ids, same_id_is, releases_exact}
pub use Rattle.office_base.proofs.Looked.{keeps_then}
pub use Rattle.office_base.proofs.Orders.{lots_total, entries_total, releases_total, same_key}
pub use Rattle.office_base.proofs.RowLaws.{all-put, row_at-row_put}
pub use Rattle.office_base.proofs.RowLaws.Found.{each_found, found_compares}
pub use Rattle.office_base.proofs.RowLaws.Keyed.{IsKeyed, found_key}
pub use Rattle.office_base.proofs.RowLaws.Starts.{tied, all_above}
pub use Rattle.office_base.proofs.SortedTables.{sorted-puts}
pub use Rattle.office_base.proofs.SumsOver.{weight, sum_over-filter, sum_over-put, sum_over-map, sum_over-ext, sum_over-plus, sum_over-put_new, sum_over-one}
pub use Rattle.office_base.specs.EntryKinds.{is_raise, is_payment, is_less}
pub use Rattle.office_base.specs.EntrySums.{sums_with_entries, sums_with_entry, bare_sums}
pub use Rattle.office_base.specs.Faults.{IsFaultOf, one_fault_more}
pub use Rattle.office_base.specs.Joined.{plus, minus, contracted, paid, is_on_line, contracts_of_line, sums_of, entry_sum, reservations, reserved, LineFits, outstanding, paid_under, pots_of, sums_of_line, ledger_row, ledger_of, LinesFit}
pub use Rattle.office_base.specs.LineSums.{outstanding_in, paid_in, pots_with, SumsFit, AreJoined}
pub use Rattle.office_base.specs.Rows.{holds_of, by_order, IsInOrder}
unfoldable pub use Rattle.office_base.specs.Rows.{row_at, row_put}
pub use Rattle.office_base.specs.Shelves.{Meaning, Keeps, Looks}
pub use Rattle.office_base.specs.Sums.{sum_over}
pub use Rattle.office_base.specs.Tables.{Tables, contract_key, find_contract, put_contract, after_put, IsSorted, lot_cmp, entry_cmp, same_number, lot_key, entry_key, find_lot, put_lot, find_entry, put_entry, of_line, contracts_of_notice, entries_of_contract, lot_at, contract_at, after_puts, release_cmp, release_key, release_numbers}
pub use Rattle.office_base.specs.declared.ledger.ContractSums.{ContractSums}
pub use Rattle.office_base.specs.declared.ledger.LedgerRow.{LedgerRow}
pub use Rattle.office_base.specs.declared.ledger.LineAmounts.{LineAmounts}
pub use Rattle.office_base.specs.declared.ledger.Pots.{Pots}
pub use Rattle.office_base.specs.declared.puts.Put.{Put}
pub use Rattle.office_base.specs.declared.puts.Put.TheVariants.{Release}
pub use Rattle.office_base.specs.declared.records.ContractRow.{ContractRow}
pub use Rattle.office_base.specs.declared.records.EntryKind.{EntryKind}
pub use Rattle.office_base.specs.declared.records.EntryKind.TheVariants.{Raise, Cut, Payment}
pub use Rattle.office_base.specs.declared.records.EntryRow.{EntryRow}
pub use Rattle.office_base.specs.declared.records.LineRow.{LineRow}
pub use Rattle.office_base.specs.declared.records.LotRow.{LotRow}
pub use Rattle.office_base.specs.declared.records.ReleaseRow.{ReleaseRow}
pub use Rattle.office_base.specs.declared.shelf.ShelfFault.{ShelfFault}
pub use Rattle.office_base.specs.declared.shelf.ShelfFault.TheVariants.{NoMemory, Store}
pub use Rattle.office_sums.specs.Carried.{AreShifted, IsCarried, TouchesNone, AreReserved, leaves_contracts, reservation_of, keeps_lot, sums_before, FromContract, FromNewEntry, FromNewLot, FromNewRow, FromReserved, lot_put, either_row, last_lot, no_sums, Follows, KnowsEntries, IsTouch}
pub use Rattle.office_sums.specs.Found.{KnowsRows}
pub use Rattle.office_sums.specs.Numbered.{numbers_to, count_at, CountsReleases, ForgetsNotice, CountsOn}
pub use Rattle.office_sums.specs.Remembered.{AreSums, SumsStay, sums_at, Forgets, Remembers, pots_by, sums_in, IsSummed, AreBalances}
pub use Rattle.office_sums.specs.RememberingMeaning.{FailsAfterLooks}
pub use Rattle.office_sums.specs.Touched.{IsNoneOf, lines_of_lot, lines_of_contract, touched, joined_amounts}
pub use Rattle.office_sums.specs.declared.carried.Carried.{Carried}
pub use Rattle.office_sums.specs.declared.carried.Reservation.{Reservation}
pub use Rattle.office_sums.specs.declared.sums.SumsOfLine.{SumsOfLine}
pub use Rattle.office_values.specs.Ids.{id_cmp, same_id}
pub use Rattle.office_values.specs.Money.{total_limit}
pub use Rattle.std.proofs.Common.{refl, ap, ◌∙◌, arith, sym, subst, inl, inr, Vec, Global, rules, drop, Bor}
pub use Rattle.std.proofs.Math.ListN.{get_or}
pub use Rattle.std.proofs.lemmas.Cmp.{nat_cmp_total}
pub use Rattle.std.proofs.lemmas.List.{nil_from_length, take_more, map-append, at_drop_all, drop_more, take_all}
pub use Rattle.std.proofs.lemmas.Map.Lookups.{exact_bytes}
pub use Rattle.std.proofs.lemmas.Map.Views.{tells_apart}
pub use Rattle.std.specs.BTreeMap.{is_at, BTreeMap, Updates}
pub use Rattle.std.specs.Bool.{◌==◌}
pub use Rattle.std.specs.Cmp.{IsTotalOrder, nat_cmp_is}
pub use Rattle.std.specs.Cmp.Lexicographic.{texts_ties, nat_list_cmp_total}
pub use Rattle.std.specs.FinMap.{nat_cmp-IsAntisymmetric}
pub use Rattle.std.specs.List.{AllByRecursion, list_all}
pub use Rattle.std.specs.Ordering.{nat_cmp, eq_by_cmp, is_eq, ordering_then}
pub use Rattle.std.specs.Prelude.{◌≡◌, ℕ, ◌+◌, List, [], ◌∷◌, ◌++◌, ◌≤◌, Bool, true, false, cond, map, filter, ◌&&◌, Option, Some, None, ◌⊎◌, not, option_map, length, IfSome, Result, Ok, Err, OnOk, OnErr, IfNone, ◌<◌, take, zero, suc}
pub use Rattle.std.specs.Vec.{vec_len}
pub use Rattle.std.specs.declared.cmp.Ordering.{Ordering}
pub use Rattle.std.specs.declared.cmp.Ordering.TheVariants.{Less, Equal, Greater}
