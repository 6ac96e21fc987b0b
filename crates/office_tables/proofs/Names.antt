-- The names of other crates, and of this one's definitions, that the proofs of this crate use. A file takes them by one import.
pub use Rattle.office_base.proofs.ExactKeys.{ids_exact, equal_keys, equal_ids, same_itself}
pub use Rattle.office_base.proofs.Orders.{equal_from_test}
pub use Rattle.office_base.proofs.RowLaws.{all-put, row_at-row_put, in_order-put}
pub use Rattle.office_base.proofs.RowLaws.Drops.{in_order-drop, row_at-row_drop}
pub use Rattle.office_base.proofs.RowLaws.Filters.{all_filter, if_passes, in_order-filter, row_at-filter}
pub use Rattle.office_base.proofs.RowLaws.Found.{of_found, each_found}
pub use Rattle.office_base.proofs.RowLaws.Keyed.{IsKeyed, own_key, found_key}
pub use Rattle.office_base.proofs.RowLaws.Starts.{all_above, above, tied, none_below}
pub use Rattle.office_base.specs.Faults.{IsFaultOf}
pub use Rattle.office_base.specs.Pages.{tenderers_after, notices_after, is_after}
pub use Rattle.office_base.specs.Rows.{IsInOrder, by_order, row_drop}
unfoldable pub use Rattle.office_base.specs.Rows.{row_put}
pub use Rattle.office_base.specs.Sums.{sum_over}
pub use Rattle.office_base.specs.Tables.{Tables, notice_key, no_tables, after_put, first_clock, same_number, performance_at, tenderer_at, release_at, release_numbers, releases_of_notice, lot_at, lots_of_notice, seal_at, envelope_at, envelopes_of_lot, of_tenderer, envelopes_of_tenderer, batch_at, compiled_at, notice_at, security_at, securities_of_lot, award_at, contract_at, entry_at, entries_of_contract, late_at, line_at}
pub use Rattle.office_base.specs.declared.puts.Put.{Put}
pub use Rattle.office_base.specs.declared.reading.Reading.{Reading}
pub use Rattle.office_base.specs.declared.reading.Reading.TheVariants.{Unreadable, Nonconforming, Priced}
pub use Rattle.office_base.specs.declared.records.AwardRow.{AwardRow}
pub use Rattle.office_base.specs.declared.records.AwardState.{AwardState}
pub use Rattle.office_base.specs.declared.records.BatchRow.{BatchRow}
pub use Rattle.office_base.specs.declared.records.ClockRow.{ClockRow}
pub use Rattle.office_base.specs.declared.records.CompiledRow.{CompiledRow}
pub use Rattle.office_base.specs.declared.records.ContractRow.{ContractRow}
pub use Rattle.office_base.specs.declared.records.EntryKind.{EntryKind}
pub use Rattle.office_base.specs.declared.records.EntryRow.{EntryRow}
pub use Rattle.office_base.specs.declared.records.EnvelopeRow.{EnvelopeRow}
pub use Rattle.office_base.specs.declared.records.EnvelopeState.{EnvelopeState}
pub use Rattle.office_base.specs.declared.records.LateRow.{LateRow}
pub use Rattle.office_base.specs.declared.records.LineRow.{LineRow}
pub use Rattle.office_base.specs.declared.records.LotRow.{LotRow}
pub use Rattle.office_base.specs.declared.records.LotState.{LotState}
pub use Rattle.office_base.specs.declared.records.NoticeRow.{NoticeRow}
pub use Rattle.office_base.specs.declared.records.NoticeState.{NoticeState}
pub use Rattle.office_base.specs.declared.records.PerformanceRow.{PerformanceRow}
pub use Rattle.office_base.specs.declared.records.ReleaseRow.{ReleaseRow}
pub use Rattle.office_base.specs.declared.records.SealRow.{SealRow}
pub use Rattle.office_base.specs.declared.records.SecurityRow.{SecurityRow}
pub use Rattle.office_base.specs.declared.records.SecurityState.{SecurityState}
pub use Rattle.office_base.specs.declared.records.TendererRow.{TendererRow}
pub use Rattle.office_base.specs.declared.shelf.ShelfFault.{ShelfFault}
pub use Rattle.office_base.specs.declared.shelf.ShelfFault.TheVariants.{NoMemory, Store}
pub use Rattle.office_commands.specs.Identified.{repeats_id}
pub use Rattle.office_commands.specs.Items.{item_id}
pub use Rattle.office_commands.specs.declared.contract.How.{How}
pub use Rattle.office_commands.specs.declared.item.Item.{Item}
pub use Rattle.office_tables.specs.Apart.{AddsNoReference, LeadsInside, KeepsMarked}
pub use Rattle.office_tables.specs.Earlier.{MakesMissing, had_former, former_part, besides_former, FormerStand, StandForEdition, StandsOrMissing, HoldsEdition, changed_where, IsMigrated, drop_notices, drop_version, DropsFormer, Renews, Begins}
pub use Rattle.office_tables.specs.Editions.{came_with, lacks_table, later_line, later_tables, version_of, edition_of, has_late}
pub use Rattle.office_tables.specs.Failing.{IsUnread, IsExcused, DiskFails, Declines, StoreFails}
pub use Rattle.office_tables.specs.Forms.{RowsStand, Form}
pub use Rattle.office_tables.specs.ItemTexts.{item_then, items_text, items_in_text, text_before, text_behind, item_rest, Avoids, ItemFits, IsItem, AreItems, first_item}
unfoldable pub use Rattle.office_tables.specs.ItemTexts.{some_items}
pub use Rattle.office_tables.specs.Kept.{Stand, key_of, rows_kept, AreKept, entry}
pub use Rattle.office_tables.specs.Known.{IsIn, Places, HasTables, at_tree, key_indexes}
pub use Rattle.office_tables.specs.Laws.{KnowsNoPerformances}
pub use Rattle.office_tables.specs.Making.{IsCreate, AreMade, Makes, onto, KeepsOffice, Says, IsIndexing, KeepsOthers, AreNew, Indexes, Founds, AreIndexings}
pub use Rattle.office_tables.specs.Ranges.{IsWithin}
pub use Rattle.office_tables.specs.Readings.{reading_word, stated_price, corrected_price, count_of_corrections, reading_in}
pub use Rattle.office_tables.specs.Schema.{OfficeTable, table_of, all_tables, StandFor, ComeBack, values_of_put, IsReadBack, create_of}
pub use Rattle.office_tables.specs.Schema.OfficeTable.{Notices, LateRules, FormerNotices, Performances, Office, Lines, Batches, Tenderers, Lots, Envelopes, Seals, Securities, Awards, Contracts, Entries, Releases}
pub use Rattle.office_tables.specs.Standing.{Stands, Holds}
pub use Rattle.office_tables.specs.Statements.{FirstFails, OneFails, RunAll, drops, renewal, notice_put}
pub use Rattle.office_tables.specs.Steps.{Refused, IsAsked, IsRefusal, MakesOne, IsRefusedBy, ShowsTables, Tells, FindsPart}
pub use Rattle.office_tables.specs.Tables.Awards.{award_form, award_values, award_read, create_awards_of_notice, create_awards, awards, upsert_awards}
pub use Rattle.office_tables.specs.Tables.Batches.{batch_form, create_batches, batches, upsert_batches, batch_values, batch_read}
pub use Rattle.office_tables.specs.Tables.Compiled.{compiled_form, create_compiled, upsert_compiled, compiled_values, compiled_read}
pub use Rattle.office_tables.specs.Tables.Contracts.{contract_form, contract_values, contract_read, create_contracts_of_notice, create_contracts, contracts, upsert_contracts}
pub use Rattle.office_tables.specs.Tables.Entries.{entry_form, entry_values, entry_read, create_entries, entries, upsert_entries}
pub use Rattle.office_tables.specs.Tables.Envelopes.{envelope_form, envelope_values, envelope_read, create_envelopes_of_notice, create_envelopes, envelopes, upsert_envelopes}
pub use Rattle.office_tables.specs.Tables.LateRules.{late_form, create_late_rules, late_rules, upsert_late_rules, late_read}
pub use Rattle.office_tables.specs.Tables.Lines.{line_form, create_lines, lines, upsert_lines, line_values, line_read}
pub use Rattle.office_tables.specs.Tables.Lots.{lot_form, lot_values, lot_read, create_lots_of_line, create_lots, lots, upsert_lots}
pub use Rattle.office_tables.specs.Tables.Notices.{former_read, former_notices, former_form, notice_form, notices, upsert_notices, notice_values, notice_read, former_values, asks_nothing, create_notices, create_former_notices}
pub use Rattle.office_tables.specs.Tables.Office.{this_version, office, clock_values, clock_read, upsert_office, clock_form, clock_form_of, create_office, clock_cmp}
pub use Rattle.office_tables.specs.Tables.Performances.{performance_form, performance_values, performance_read, create_performance, performance, upsert_performance}
pub use Rattle.office_tables.specs.Tables.Releases.{release_form, create_releases, releases, upsert_releases, release_values, release_read, number_read, number_row}
pub use Rattle.office_tables.specs.Tables.Seals.{delete_seal, seal_form, create_seals, seals, upsert_seals, seal_values, seal_read}
pub use Rattle.office_tables.specs.Tables.Securities.{security_form, security_values, security_read, create_securities_of_notice, create_securities, securities, upsert_securities}
pub use Rattle.office_tables.specs.Tables.Tenderers.{tenderer_form, create_tenderers, tenderers, upsert_tenderers, tenderer_values, tenderer_read}
pub use Rattle.office_tables.specs.Unwritten.{IsUnwritten}
pub use Rattle.office_tables.specs.Values.{number_in_value, columns_from, or_null, text_or_null, perhaps_in, perhaps_text_in, as_number, truth_in, perhaps_truth_in}
pub use Rattle.office_tables.specs.Version.{HasVersion, get_version, one_version, ShowsVersion}
pub use Rattle.office_tables.specs.Words.{notice_state_text, notice_state_in, lot_state_text, lot_state_in, envelope_state_text, envelope_state_in, security_state_text, security_state_in, award_state_text, award_state_in, how_text, how_in, entry_kind_text, entry_kind_in}
pub use Rattle.office_tables.specs.declared.editions.Later.{Later}
pub use Rattle.office_tables.specs.declared.tables.notices.FormerNotice.{FormerNotice}
pub use Rattle.office_tables.specs.declared.tables.office.FormerClock.{FormerClock}
pub use Rattle.office_values.specs.Ids.{id_cmp, IsId, is_id_byte, same_id}
pub use Rattle.office_values.specs.Texts.{IsTextLine, is_line_byte}
pub use Rattle.sqlite.proofs.Callers.{IsPlain, command_of, reads_as, runs_as, one_step}
pub use Rattle.sqlite.proofs.StateLemmas.{survives_then}
pub use Rattle.sqlite.specs.Does.{Tally, AtPlace, Defines, MakesTable, MakesIndex, MakesSequence, lacks_sequence, sequence_text, OnRows, Does}
pub use Rattle.sqlite.specs.Effect.{Database, IsDatabase, RefusesToRead, Answers, value_rows, is_query}
pub use Rattle.sqlite.specs.Held.{Held, state}
pub use Rattle.sqlite.specs.Listing.{listing_schema, misses_table, if_select, is_select, reads_listing}
unfoldable pub use Rattle.sqlite.specs.Listing.{understood}
pub use Rattle.sqlite.specs.Program.{overlay}
pub use Rattle.sqlite.specs.Rows.{Task, Written, InsertsOr, shown, stamped, Deletes, Clears, Meets, Upserts, Judged, Tries, TriesEach, Counts, count_of, rowids_for}
pub use Rattle.sqlite.specs.State.{Executes, ExecutesInside, IsUnchanged, IsRolledBack, FailsToShow, IsTooLate, IsNoStatement, store_error, Shows, ShowsRows, mode_of, HasCleanDisk, text_of, Fails, IsStatement, IsMisplaced, Escapes, RunsAlone, RunsCommand, HasCause, Runs, is_pragma, shows_rows, Survives}
unfoldable pub use Rattle.sqlite.specs.State.{FailsToQuery, IsNotRun, ExecutesIn, EndsScope}
pub use Rattle.sqlite.specs.Values.{bound}
pub use Rattle.sqlite.specs.declared.error.Error.{Error}
pub use Rattle.sqlite.specs.declared.error.Error.TheVariants.{SqlInputError, InvalidQuery}
pub use Rattle.sqlite.specs.declared.run.Mode.{Mode}
pub use Rattle.sqlite_ast.specs.declared.Core.{Core, out-Core, roll-Core, out-roll-Core}
pub use Rattle.sqlite_ast.specs.declared.Expr.{Expr, out-Expr, roll-Expr}
pub use Rattle.sqlite_ast.specs.declared.Expr.TheOpen.{Expr-F, Shown-F}
pub use Rattle.sqlite_ast.specs.declared.Rows.{Rows}
pub use Rattle.sqlite_ast.specs.declared.Select.{out-Select, roll-Select, out-roll-Select}
pub use Rattle.sqlite_ast.specs.declared.Shown.{out-Shown, roll-Shown}
pub use Rattle.sqlite_ast.specs.declared.Sort.{Sort, roll-Sort, out-roll-Sort, out-Sort}
pub use Rattle.sqlite_ast.specs.declared.Source.{out-Source, roll-Source}
pub use Rattle.sqlite_catalog.proofs.AlterLemmas.{place_has}
pub use Rattle.sqlite_catalog.proofs.LayoutLemmas.{zipped_left, index_owner}
pub use Rattle.sqlite_catalog.proofs.ListFacts.{zip_so, none_placed}
pub use Rattle.sqlite_catalog.proofs.ReadLemmas.{tables_once}
pub use Rattle.sqlite_catalog.proofs.StepLemmas.{table_below}
pub use Rattle.sqlite_catalog.specs.Change.{created, indexed, next_tree, KeepsRows}
pub use Rattle.sqlite_catalog.specs.Listing.{IsTableRow, ReadsTable, is_table_row, IsIndexRow}
pub use Rattle.sqlite_draft.specs.Join.{chain}
pub use Rattle.sqlite_draft.specs.declared.join.Step.{Step}
pub use Rattle.sqlite_draft.specs.declared.join.Step.TheVariants.{Inner}
pub use Rattle.sqlite_draft.specs.declared.query.Draft.{Draft}
pub use Rattle.sqlite_resolve.specs.Compare.{of_declared}
unfoldable pub use Rattle.sqlite_resolve.specs.Compare.{compared, affinity_of, of_column, converted, spelled, may_be_text}
pub use Rattle.sqlite_resolve.specs.Compile.{first, small, is_reserved, is_attached, with_command, new_rows}
unfoldable pub use Rattle.sqlite_resolve.specs.Compile.{planned, meaning, returning, create_table, create_index, table_in, table_defined_by, index_in, index_defined_by, read, shows, command, delete, insert_or_abort, insert_or}
pub use Rattle.sqlite_resolve.specs.Expr.{lower}
unfoldable pub use Rattle.sqlite_resolve.specs.Expr.{node, opened, passes, operation, both, combine, wanted_truth, tests_truth, tests_alias, lower_to}
pub use Rattle.sqlite_resolve.specs.Given.{are_among, do_update}
unfoldable pub use Rattle.sqlite_resolve.specs.Given.{is_key_at, key_at, upserts, upsert, update, key_meant}
pub use Rattle.sqlite_resolve.specs.Lowering.{max_budget, Checked, Lowering, chosen, and_then, fresh, alone}
unfoldable pub use Rattle.sqlite_resolve.specs.Lowering.{spend, begin, finish, take_slot}
unfoldable pub use Rattle.sqlite_resolve.specs.Program.{program}
pub use Rattle.sqlite_resolve.specs.Scope.{Context, Name, declared, alias_of}
unfoldable pub use Rattle.sqlite_resolve.specs.Scope.{in_level, only, hit, is_among, column_in, term_of, column_at}
unfoldable pub use Rattle.sqlite_resolve.specs.Select.{constant_or}
pub use Rattle.sqlite_resolve.specs.Terms.{number}
pub use Rattle.sqlite_resolve.specs.Write.{places}
pub use Rattle.sqlite_resolve.specs.declared.body.Body.{Body}
pub use Rattle.sqlite_resolve.specs.declared.compare.Affinity.{Affinity}
pub use Rattle.sqlite_resolve.specs.declared.error.CompileError.{CompileError}
pub use Rattle.sqlite_resolve.specs.declared.error.CompileError.TheVariants.{NoSuchTable, Misuse, Exists, Unsupported}
pub use Rattle.sqlite_resolve.specs.declared.scope.Bound.{Bound}
pub use Rattle.sqlite_resolve.specs.declared.select.Clauses.{Clauses}
pub use Rattle.sqlite_resolve.specs.declared.state.Carried.{Carried}
pub use Rattle.sqlite_rules.proofs.ActionLemmas.{no_works}
pub use Rattle.sqlite_rules.proofs.ListLemmas.{has_kept, all_has, has_filtered, all_from}
pub use Rattle.sqlite_rules.proofs.PlaceLemmas.{row_at_is, left_or_taken}
pub use Rattle.sqlite_rules.proofs.ProbeLemmas.{mapped_has}
pub use Rattle.sqlite_rules.proofs.TableLemmas.{int_is, put_all_has, put_all_keeps, put_all_adds}
pub use Rattle.sqlite_rules.specs.Action.{Work, work_by, work_for, works, loses, pairs, deed_for, refuses, max_depth, Acts, ActsOn, Leads, action_edit}
pub use Rattle.sqlite_rules.specs.Calls.{ids_of}
pub use Rattle.sqlite_rules.specs.Cast.{cast_row, cast}
pub use Rattle.sqlite_rules.specs.Edit.{id_in, without_all, is_taken, are_fresh, Edit, Applies, taken_by, with_rowid, next_rowid, put_all, edit_of, numbered}
pub use Rattle.sqlite_rules.specs.Keys.{conflicts, shares, AreConflicts}
pub use Rattle.sqlite_rules.specs.Lists.{Has}
pub use Rattle.sqlite_rules.specs.declared.action.Deed.{Deed}
pub use Rattle.sqlite_rules.specs.declared.error.Refusal.{Refusal}
pub use Rattle.sqlite_rules.specs.declared.error.Rowids.TheVariants.{Chosen, Given, Above}
pub use Rattle.sqlite_schema.specs.Names.{table_named, index_named, view_named, column_named, place_of}
unfoldable pub use Rattle.sqlite_schema.specs.Names.{same_name}
pub use Rattle.sqlite_schema.specs.Rules.{guards, ParentKey, parent_key, agree, equal}
pub use Rattle.sqlite_schema.specs.declared.command.Command.{Command}
pub use Rattle.sqlite_schema.specs.declared.command.Command.TheVariants.{Delete, InsertOr}
pub use Rattle.sqlite_schema.specs.declared.command.Conflict.TheVariants.{Abort}
pub use Rattle.sqlite_schema.specs.declared.command.Returning.{Returning}
pub use Rattle.sqlite_schema.specs.declared.command.Source.TheVariants.{Values}
pub use Rattle.sqlite_schema.specs.declared.command.Upsert.{Upsert}
pub use Rattle.sqlite_schema.specs.declared.program.Program.{Program}
pub use Rattle.sqlite_schema.specs.declared.schema.Column.{Column}
pub use Rattle.sqlite_schema.specs.declared.schema.Index.{Index}
pub use Rattle.sqlite_schema.specs.declared.schema.Keys.{Keys}
pub use Rattle.sqlite_schema.specs.declared.schema.Keys.TheVariants.{Enforced}
pub use Rattle.sqlite_schema.specs.declared.schema.Kind.TheVariants.{Integer}
pub use Rattle.sqlite_schema.specs.declared.schema.Reference.{Reference}
pub use Rattle.sqlite_schema.specs.declared.schema.Schema.{Schema}
pub use Rattle.sqlite_schema.specs.declared.schema.Table.{Table}
pub use Rattle.sqlite_sql.specs.Ops.{is_true, from_truth}
unfoldable pub use Rattle.sqlite_sql.specs.Ops.{binary, unary}
pub use Rattle.sqlite_sql.specs.Query.{Query, as_count, limited, output, output_cmp, inner, end, IsAnswer}
pub use Rattle.sqlite_sql.specs.Term.{Term, col, op2, eval, holds, lit, Env}
pub use Rattle.sqlite_sql.specs.declared.ops.BinaryOp.{BinaryOp}
pub use Rattle.sqlite_sql.specs.declared.ops.BinaryOp.TheVariants.{Compare}
pub use Rattle.sqlite_sql.specs.declared.ops.CompareOp.TheVariants.{Eq, Gt}
pub use Rattle.sqlite_syntax.specs.declared.statement.Parsed.{Parsed}
unfoldable pub use Rattle.sqlite_tied.specs.Compute.{everything}
pub use Rattle.sqlite_trees.proofs.ListLemmas.{ascending-filter, all-permutation}
pub use Rattle.sqlite_trees.proofs.TreeLemmas.{IsTable-put_row}
pub use Rattle.sqlite_trees.specs.Objects.{catalog_tree}
pub use Rattle.sqlite_trees.specs.Tree.{rowid, Trees, IsTable, has_rowid, put_row, without_rowid}
pub use Rattle.sqlite_trees.specs.View.{is_int}
pub use Rattle.sqlite_trees.specs.declared.error.StoreError.{StoreError}
pub use Rattle.sqlite_trees.specs.declared.store.Store.{Ghosts}
pub use Rattle.sqlite_typing.specs.Types.{accepts_program}
pub use Rattle.sqlite_value.proofs.OrderLemmas.{value_cmp_total, value_cmp-Text, value_cmp-Int}
pub use Rattle.sqlite_value.specs.Keys.{ascending, plain}
pub use Rattle.sqlite_value.specs.Order.{Row, value_cmp}
pub use Rattle.sqlite_value.specs.declared.keys.Collation.{Collation}
pub use Rattle.sqlite_value.specs.declared.keys.Collation.TheVariants.{Binary}
pub use Rattle.sqlite_value.specs.declared.keys.Key.{Key}
pub use Rattle.sqlite_value.specs.declared.value.Value.{Value}
pub use Rattle.sqlite_value.specs.declared.value.Value.TheVariants.{Int, Null, Text}
pub use Rattle.std.proofs.Common.{◌≡◌, ◌⊎◌, inl, inr, ℕ, true, false, List, [], ◌∷◌, filter, map, sym, ap, subst, ◌∙◌, true≢false, arith, zero, suc, Bool, Option, None, Some, append-nil, refl, IsTrue, ℤ, not, ap₂, Ok, length, slice_get, pos, Err, Result, ◌<◌, ◌++◌, get_or, ◌-◌, ◌+◌, ◌==◌, ◌&&◌, cond, Less, Equal, Greater, ◌≢◌, negsuc, ◌||◌, slice_index_or, drop, subst₂, append_assoc, length-append, rules}
pub use Rattle.std.proofs.Math.ListN.{get_or-map}
pub use Rattle.std.proofs.lemmas.Bool.{cases_Bool, ltb-true, lt-ltb, le-ltb, not-true, eq-eqb, eqb-true, MatchBool-at_true, MatchBool-at_false, and_parts, leb-true, ltb-false}
pub use Rattle.std.proofs.lemmas.Bool.Decides.{eqb_tells, nat_tests}
pub use Rattle.std.proofs.lemmas.Fmt.{parse-decimal, IsAscii-decimal, decimal_is_IsNumeral}
pub use Rattle.std.proofs.lemmas.List.{take-map, length-map, map-set, take_rest, drop_more, drop_all, map-append, take-append-drop, take_all, take_more}
pub use Rattle.std.proofs.lemmas.List.Elements.{recursion_from_All}
pub use Rattle.std.proofs.lemmas.List.Quantifiers.{position-Some}
pub use Rattle.std.proofs.lemmas.List.Sorted.{IsPermutation-sym, sum_by-IsPermutation}
pub use Rattle.std.proofs.lemmas.List.Sums.{sum_by-cons}
pub use Rattle.std.proofs.lemmas.Slice.Eq.{bytes_eq-Decides}
pub use Rattle.std.proofs.lemmas.Str.{IsUtf8-from_ascii}
pub use Rattle.std.specs.Char.{digit_value}
pub use Rattle.std.specs.Cmp.{IsTotalOrder, tied_itself, nat_cmp_total}
pub use Rattle.std.specs.Cmp.Lexicographic.{nat_list_cmp_total}
pub use Rattle.std.specs.FinMap.{IsAntisymmetric, nat_cmp-IsAntisymmetric}
pub use Rattle.std.specs.Fmt.{decimal}
pub use Rattle.std.specs.List.{AllByRecursion, position_or_len, list_all, position_from, AllZip, list_any, cons_option, swap, range_with_len}
pub use Rattle.std.specs.List.Sorted.{IsPermutation, IsSorted, SwapsInRange, apply_swaps}
pub use Rattle.std.specs.Option.{option_or}
pub use Rattle.std.specs.Ordering.{is_eq, is_lt, eq_by_cmp, ordering_reverse, is_gt, nat_cmp, int_cmp, ordering_then}
pub use Rattle.std.specs.Prelude.{nat_lt, option_map, codes, is_some, bytes_eq, OnErr, OnOk, IfErr, IfOk, slice_range, nat_le, ◌^◌, unwrap_or, take, flat_map, filter_map, ◌≤◌, slice_set, sum_by, ◌/◌, position, IsUtf8, IfSome, IfNone, ok_or}
pub use Rattle.std.specs.Result.{IsErrAnd}
pub use Rattle.std.specs.Str.Parse.{ParsesUnsigned, digits_value, AllDigits}
pub use Rattle.std.specs.declared.cmp.Ordering.{Ordering}
