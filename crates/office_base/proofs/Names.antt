-- The names of other crates, and of this one's definitions, that the proofs of this crate use. A file takes them by one import.
pub use Rattle.office_base.specs.EntryKinds.{is_raise, is_payment, is_less}
pub use Rattle.office_base.specs.EntrySums.{bare_sums, sums_with_entry, sums_with_entries}
pub use Rattle.office_base.specs.Faults.{one_fault_more}
pub use Rattle.office_base.specs.Joined.{entry_sum, sums_of, plus, minus, outstanding, paid_under, contracts_of_line, is_on_line, sums_under, sums_of_line, reservations, LineFits, pots_of}
pub use Rattle.office_base.specs.Limits.{page_limit}
pub use Rattle.office_base.specs.LineSums.{outstanding_in, paid_in, pots_with, SumsFit, JoinedSums, AreJoined, is_within}
pub use Rattle.office_base.specs.Pages.{is_after, rows_after, next_after, followed, PagesAreAll, TablesArePaged}
unfoldable pub use Rattle.office_base.specs.Pages.{read_pages}
pub use Rattle.office_base.specs.PotsAnswers.{IsRowPotsAnswer, IsPotsAnswer}
pub use Rattle.office_base.specs.RowLaws.{RowsAreKept}
pub use Rattle.office_base.specs.Rows.{StartsAbove, IsInOrder, holds_of, by_order}
unfoldable pub use Rattle.office_base.specs.Rows.{row_at, row_drop, row_put}
pub use Rattle.office_base.specs.Shelves.{Meaning, Keeps}
pub use Rattle.office_base.specs.Sums.{sum_over}
pub use Rattle.office_base.specs.Tables.{notice_key, tenderer_key, same_number, lot_cmp, entry_cmp, release_cmp, Tables, IsSorted, lot_key, find_lot, of_line, lots_of_line, contracts_of_lot, line_at, line_key, after_put, after_puts, batch_key, envelope_key, seal_key, security_key, award_key, contract_key, entry_key, release_key, compiled_key, late_key, performance_key}
pub use Rattle.office_base.specs.declared.ledger.ContractSums.{ContractSums}
pub use Rattle.office_base.specs.declared.ledger.LineAmounts.{LineAmounts}
pub use Rattle.office_base.specs.declared.ledger.Pots.{Pots}
pub use Rattle.office_base.specs.declared.puts.Put.{Put}
pub use Rattle.office_base.specs.declared.records.ContractRow.{ContractRow}
pub use Rattle.office_base.specs.declared.records.EntryKind.{EntryKind}
pub use Rattle.office_base.specs.declared.records.EntryKind.TheVariants.{Raise, Cut, Payment}
pub use Rattle.office_base.specs.declared.records.EntryRow.{EntryRow}
pub use Rattle.office_base.specs.declared.records.LineRow.{LineRow}
pub use Rattle.office_base.specs.declared.records.LotRow.{LotRow}
pub use Rattle.office_base.specs.declared.shelf.ShelfFault.{ShelfFault}
pub use Rattle.office_base.specs.declared.shelf.ShelfFault.TheVariants.{NoMemory, Store}
pub use Rattle.office_values.specs.Ids.{id_cmp, same_id}
pub use Rattle.std.proofs.Common.{drop, inl, inr, refl, sym, ap, subst, ◌∙◌, arith, length-take-le, ◌^◌, min, ◌*◌}
pub use Rattle.std.proofs.lemmas.Bool.{cases_Bool, ltb-true, ltb-false, and_parts, and_from, leb-true, le-leb}
pub use Rattle.std.proofs.lemmas.Cmp.{on_total, then_total, nat_cmp_total}
pub use Rattle.std.proofs.lemmas.List.{append-nil, take_all, take-append-drop, length-take, length-drop, nil_from_length}
pub use Rattle.std.proofs.lemmas.Map.Lookups.{exact_pairs, exact_bytes}
pub use Rattle.std.proofs.lemmas.Option.{slice_get_cases}
pub use Rattle.std.specs.Cmp.{IsTotalOrder, eq_by_cmp_equiv}
pub use Rattle.std.specs.Cmp.Lexicographic.{nat_list_cmp_total, texts_ties}
pub use Rattle.std.specs.FinMap.{IsAntisymmetric, nat_cmp-IsAntisymmetric, slice_cmp-IsAntisymmetric}
pub use Rattle.std.specs.List.{AllByRecursion, list_all}
pub use Rattle.std.specs.Ordering.{is_lt, ordering_reverse, nat_cmp, is_eq, eq_by_cmp, ordering_then}
pub use Rattle.std.specs.Prelude.{◌≡◌, ◌≤◌, ◌<◌, ◌+◌, ◌-◌, ℕ, zero, suc, Bool, true, false, cond, nat_lt, List, [], ◌∷◌, ◌++◌, length, take, filter, slice_get, Option, Some, None, option_map, ◌&&◌, map, Ok, Err, IsSome, IsSomeAnd, is_some}
pub use Rattle.std.specs.declared.cmp.Ordering.{Ordering}
pub use Rattle.std.specs.declared.cmp.Ordering.TheVariants.{Less, Equal, Greater}
