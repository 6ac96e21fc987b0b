-- The names of other crates, and of this one's definitions, that the proofs of this crate use. A file takes them by one import.
pub use Rattle.office_base.proofs.EntrySums.{sums_are}
pub use Rattle.office_base.proofs.ExactKeys.{ids_exact, lots_exact, entries_exact}
pub use Rattle.office_base.proofs.Orders.{equal_from_test, lots_total, entries_total}
pub use Rattle.office_base.proofs.RowLaws.Filters.{in_order-filter}
pub use Rattle.office_base.proofs.RowLaws.Starts.{all_above}
pub use Rattle.office_base.specs.EntrySums.{sums_with_entry, bare_sums, sums_with_entries}
pub use Rattle.office_base.specs.Faults.{IsFaultOf}
pub use Rattle.office_base.specs.Joined.{sums_of, sums_under, LinesFit, sums_of_line, ledger_row, ledger_of, pots_of, LineFits, reservations}
pub use Rattle.office_base.specs.LineSums.{outstanding_in, paid_in, JoinedSums}
pub use Rattle.office_base.specs.Rows.{by_order, StartsAbove, IsInOrder}
unfoldable pub use Rattle.office_base.specs.Rows.{row_put}
pub use Rattle.office_base.specs.Shelves.{SumsAnswer}
pub use Rattle.office_base.specs.Sums.{sum_over}
pub use Rattle.office_base.specs.Tables.{lot_cmp, entry_cmp, line_key, lot_key, contract_key, entry_key, Tables, same_number, of_line, lots_of_line, IsSorted, contracts_of_lot, entries_of_contract}
pub use Rattle.office_base.specs.declared.ledger.ContractSums.{ContractSums}
pub use Rattle.office_base.specs.declared.ledger.LedgerRow.{LedgerRow}
pub use Rattle.office_base.specs.declared.ledger.Pots.{Pots}
pub use Rattle.office_base.specs.declared.records.ContractRow.{ContractRow}
pub use Rattle.office_base.specs.declared.records.EntryKind.{EntryKind}
pub use Rattle.office_base.specs.declared.records.EntryKind.TheVariants.{Raise, Cut, Payment}
pub use Rattle.office_base.specs.declared.records.EntryRow.{EntryRow}
pub use Rattle.office_base.specs.declared.records.LineRow.{LineRow}
pub use Rattle.office_base.specs.declared.records.LotRow.{LotRow}
pub use Rattle.office_base.specs.declared.shelf.ShelfFault.{ShelfFault}
pub use Rattle.office_base.specs.declared.shelf.ShelfFault.TheVariants.{NoMemory, Store}
pub use Rattle.office_ledger.specs.Cells.{LineCells, LotCells, ContractCells, EntryCells, Paired, Show, lot_cells, row_key, joined_cells, perhaps, contract_in, entry_in, contract_cells, entry_cells}
pub use Rattle.office_ledger.specs.Fits.{LotFits, ContractFits, EntryFits}
pub use Rattle.office_ledger.specs.Inside.Adding.{open_sums, HasRoom, fold_rows, overdrawn_in, with_sums, settle, settled, is_contract, is_lot, take_perhaps, take_entry, enter_contract, take_contract, lot_opened, enter_lot, take_lot, Added, nothing_added, closed, enter_line, take_row, added, entry_added, no_sums, sums_fit, pots_by, row_by, and_row, close, is_line, line_opened}
pub use Rattle.office_ledger.specs.Inside.Listing.{Listed, nothing_listed, all_listed, is_current, enter_listed, entry_of_current, list_entry, list_contract, list_lot, listed, nothing_reserved, list_reserved, LotListing, begin_lot, all_reserved, ContractListing}
pub use Rattle.office_ledger.specs.Joins.{or_none, joined_lot, joined_lots, with_contract, joined_contract, joined, entry_part, with_entry, with_lot, joined_line}
pub use Rattle.office_ledger.specs.Known.{Holds, HoldsFour, line_columns, lot_columns, contract_columns, entry_columns}
pub use Rattle.office_ledger.specs.Listing.{Listing, HasListed}
pub use Rattle.office_ledger.specs.Parts.{columns_of_lot, columns_of_contract, columns_of_entry}
pub use Rattle.office_ledger.specs.Plain.{JoinIsNoWrite}
pub use Rattle.office_ledger.specs.ReadBack.{JoinedRowsComeBack, JoinedLotsComeBack}
pub use Rattle.office_ledger.specs.Reading.{joined_read, joined_lot_read}
pub use Rattle.office_ledger.specs.Select.{Trees4, equals, list_joined, joined_query, of_the_line, of_the_lot, of_the_contract, joined_from}
pub use Rattle.office_ledger.specs.SelectLots.{is_of_line, of_its_lot, of_its_contract, lots_from, lots_query, list_joined_of_line}
pub use Rattle.office_ledger.specs.Shows.{HoldsJoined, joined_lot_cells}
pub use Rattle.office_ledger.specs.Standing.{ShowsBy, StoredRowsShow}
pub use Rattle.office_ledger.specs.Taking.{AreTooMuch, Summing, HasTaken, IsJoinOfNoOffice}
pub use Rattle.office_ledger.specs.declared.contract_list.CurrentContract.{CurrentContract}
pub use Rattle.office_ledger.specs.declared.joined.JoinedContract.{JoinedContract}
pub use Rattle.office_ledger.specs.declared.joined.JoinedEntry.{JoinedEntry}
pub use Rattle.office_ledger.specs.declared.joined.JoinedLot.{JoinedLot}
pub use Rattle.office_ledger.specs.declared.joined.JoinedRow.{JoinedRow}
pub use Rattle.office_ledger.specs.declared.ledger_sums.OpenLine.{OpenLine}
pub use Rattle.office_ledger.specs.declared.line_sums.LineSums.{LineSums}
pub use Rattle.office_ledger.specs.declared.line_sums.OpenContract.{OpenContract}
pub use Rattle.office_tables.proofs.Cells.{text_tested, number_tested, and_true, numbers_cmp}
pub use Rattle.office_tables.proofs.Exactly.{exit, columns_are}
pub use Rattle.office_tables.proofs.LoweredTests.{and_is}
pub use Rattle.office_tables.proofs.Meanings.{StatementMeans, means_by}
unfoldable pub use Rattle.office_tables.proofs.Meanings.{parsed_in}
pub use Rattle.office_tables.proofs.Simple.{out_parameter, both_e, out_both}
pub use Rattle.office_tables.proofs.Whole.{among, at_budget, compiled_to, compiles, draft_of, pages_whole}
pub use Rattle.office_tables.specs.Forms.{text_column, number_column, column_of}
pub use Rattle.office_tables.specs.Kept.{rows_kept}
pub use Rattle.office_tables.specs.Unwritten.{IsUnwritten}
pub use Rattle.office_tables.specs.Words.{entry_kind_text, entry_kind_in}
pub use Rattle.office_values.specs.Ids.{id_cmp, same_id}
pub use Rattle.office_values.specs.Money.{total_limit}
pub use Rattle.sqlite.proofs.Callers.{reads_as, begins_as}
pub use Rattle.sqlite.specs.Effect.{Answers, ReadsFirst}
pub use Rattle.sqlite.specs.Held.{state}
pub use Rattle.sqlite.specs.Listing.{listing_schema, misses_table, if_select, is_select}
unfoldable pub use Rattle.sqlite.specs.Listing.{understood}
pub use Rattle.sqlite.specs.State.{Begins}
pub use Rattle.sqlite_ast.specs.declared.Core.{Core, out-Core, roll-Core, out-roll-Core}
pub use Rattle.sqlite_ast.specs.declared.Expr.{Expr, out-Expr, roll-Expr}
pub use Rattle.sqlite_ast.specs.declared.Expr.TheOpen.{Expr-F, Shown-F}
pub use Rattle.sqlite_ast.specs.declared.Select.{out-Select, roll-Select, out-roll-Select}
pub use Rattle.sqlite_ast.specs.declared.Shown.{out-Shown, roll-Shown}
pub use Rattle.sqlite_ast.specs.declared.Sort.{Sort, out-Sort, roll-Sort, out-roll-Sort}
pub use Rattle.sqlite_ast.specs.declared.Source.{Source, out-Source, roll-Source, out-roll-Source}
pub use Rattle.sqlite_draft.specs.Query.{query_of}
pub use Rattle.sqlite_draft.specs.declared.join.Step.{Step}
pub use Rattle.sqlite_draft.specs.declared.join.Step.TheVariants.{Inner, Left}
pub use Rattle.sqlite_draft.specs.declared.query.Draft.{Draft}
pub use Rattle.sqlite_keyed.proofs.ListLemmas.{ascending-map, all-append, ascending-append, ascending-filter, ascending_weaker}
pub use Rattle.sqlite_keyed.proofs.SortLemmas.{sorted_unique}
pub use Rattle.sqlite_resolve.specs.Compare.{of_declared}
unfoldable pub use Rattle.sqlite_resolve.specs.Compare.{of_column, compared, affinity_of, converted}
pub use Rattle.sqlite_resolve.specs.Compile.{first, timed, small, with_command}
unfoldable pub use Rattle.sqlite_resolve.specs.Compile.{returning, compiled, planned, meaning}
pub use Rattle.sqlite_resolve.specs.Expr.{lower, lower_to}
unfoldable pub use Rattle.sqlite_resolve.specs.Expr.{node, passes}
pub use Rattle.sqlite_resolve.specs.Lowering.{nothing, fresh, max_budget, Checked, Lowering, and_then}
unfoldable pub use Rattle.sqlite_resolve.specs.Lowering.{alone, chosen, first_found, spend, begin, finish, take_slot}
pub use Rattle.sqlite_resolve.specs.Scope.{Name, declared, Context}
unfoldable pub use Rattle.sqlite_resolve.specs.Scope.{find, in_level, only, hit, is_among, column_in, term_of, column_at}
pub use Rattle.sqlite_resolve.specs.Terms.{conjuncts}
pub use Rattle.sqlite_resolve.specs.declared.body.Joined.{Joined}
pub use Rattle.sqlite_resolve.specs.declared.compare.Affinity.{Affinity}
pub use Rattle.sqlite_resolve.specs.declared.compiled.Compiled.{Compiled}
pub use Rattle.sqlite_resolve.specs.declared.error.CompileError.{CompileError}
pub use Rattle.sqlite_resolve.specs.declared.scope.Bound.{Bound}
pub use Rattle.sqlite_resolve.specs.declared.state.Carried.{Carried}
pub use Rattle.sqlite_rules.proofs.ListLemmas.{all_has, all_from}
pub use Rattle.sqlite_rules.specs.Lists.{Has}
pub use Rattle.sqlite_schema.specs.Names.{column_named, is_key, place_of, table_named}
unfoldable pub use Rattle.sqlite_schema.specs.Names.{same_name}
pub use Rattle.sqlite_schema.specs.Rules.{equal}
pub use Rattle.sqlite_schema.specs.declared.command.Command.{Command}
pub use Rattle.sqlite_schema.specs.declared.schema.Column.{Column}
pub use Rattle.sqlite_schema.specs.declared.schema.Kind.TheVariants.{Integer}
pub use Rattle.sqlite_schema.specs.declared.schema.Schema.{Schema}
pub use Rattle.sqlite_schema.specs.declared.schema.Table.{Table}
pub use Rattle.sqlite_sql.proofs.QueryLemmas.{output_cmp_total}
unfoldable pub use Rattle.sqlite_sql.specs.Ops.{binary}
pub use Rattle.sqlite_sql.specs.Program.{overlay}
pub use Rattle.sqlite_sql.specs.Query.{Query, Join, matches_as, output, or_nulls, left, end, IsAnswerAs, output_cmp}
pub use Rattle.sqlite_sql.specs.Term.{Term, lit, reads_below, Env, holds, col, op2}
pub use Rattle.sqlite_sql.specs.declared.ops.BinaryOp.TheVariants.{And}
pub use Rattle.sqlite_syntax.specs.declared.statement.Parsed.{Parsed}
unfoldable pub use Rattle.sqlite_tied.specs.Compute.{everything}
pub use Rattle.sqlite_trees.proofs.ListLemmas.{IsPermutation-same, map-flat_map, flat_map_none, flat_map_same_on, map-map, flat_map-map, IsPermutation-filter, IsPermutation-flat_map}
pub use Rattle.sqlite_trees.specs.Tree.{rowid, IsTable, Trees, IsAscending}
pub use Rattle.sqlite_trees.specs.View.{is_int}
pub use Rattle.sqlite_typing.specs.Types.{accepts_program}
pub use Rattle.sqlite_value.proofs.OrderLemmas.{value_cmp_total, value_cmp-Text}
pub use Rattle.sqlite_value.specs.Order.{Row, value_cmp}
pub use Rattle.sqlite_value.specs.declared.keys.Collation.TheVariants.{Binary}
pub use Rattle.sqlite_value.specs.declared.keys.Key.{Key}
pub use Rattle.sqlite_value.specs.declared.value.Value.{Value}
pub use Rattle.sqlite_value.specs.declared.value.Value.TheVariants.{Int, Null}
pub use Rattle.std.proofs.Common.{◌≡◌, ◌∷◌, [], List, Option, Some, None, Ok, Bool, true, false, ℕ, suc, slice_get, codes, refl, sym, ap, ◌∙◌, arith, ◌+◌, nat_lt, length, negsuc, ◌++◌, map, inl, inr, subst, Ordering, Less, Equal, Greater, true≢false, cond, ◌&&◌, filter, ap₂, ◌-◌, zero, IfOk, Vec, Global, ◌*◌, take}
pub use Rattle.std.proofs.lemmas.Bool.{cases_Bool, and_parts, and_from, leb-true, le-leb, eqb-true, eq-eqb}
pub use Rattle.std.proofs.lemmas.List.{append_assoc, append-nil}
pub use Rattle.std.proofs.lemmas.List.Elements.{filter_passes, recursion_from_All}
pub use Rattle.std.proofs.lemmas.List.Sorted.{IsPermutation-refl, IsPermutation-trans, IsPermutation-cons, IsPermutation-append_comm, IsPermutation-append_left, IsPermutation-sym, IsPermutation-append, IsPermutation-map, length_permutation}
pub use Rattle.std.proofs.lemmas.Result.{IfOk-weaker}
pub use Rattle.std.specs.Cmp.{tied_itself, nat_cmp_total, IsTotalOrder}
pub use Rattle.std.specs.Cmp.Lexicographic.{texts_ties, nat_list_cmp_total}
pub use Rattle.std.specs.FinMap.{IsAntisymmetric, nat_cmp-IsAntisymmetric}
pub use Rattle.std.specs.List.{position_from, list_all, AllByRecursion}
pub use Rattle.std.specs.List.Sorted.{IsPermutation}
pub use Rattle.std.specs.Ordering.{is_eq, nat_cmp, eq_by_cmp, ordering_then}
pub use Rattle.std.specs.Prelude.{◌^◌, ◌≤◌, flat_map, ◌<◌, ◌⊎◌, Result, Err, OnOk, IfErr, option_map, IfSome, IsTrue, ◌↔◌, nat_le, pos, nat_eq}
pub use Rattle.std.specs.Result.{IsErrAnd}
