-- The names of other crates, and of this one's definitions, that the proofs of this crate use. A file takes them by one import.
pub use Rattle.office_base.specs.Faults.{one_fault_more, count_after, IsFaultOf}
pub use Rattle.office_base.specs.Joined.{ledger_of, LinesFit, amounts_of_line}
pub use Rattle.office_base.specs.Pages.{notices_after, tenderers_after}
pub use Rattle.office_base.specs.Shelves.{Keeps, LooksUp, SumsAnswer, AddsUp, Alters, PutsFail, Changes}
pub use Rattle.office_base.specs.Tables.{Tables, IsSorted, after_puts, ChangesKeepOrder, no_tables, release_numbers, envelopes_of_notice, securities_of_notice, envelopes_of_lot, contract_at, line_at, batch_at, entry_at, securities_of_lot, compiled_at, late_at, notice_at, envelopes_of_tenderer, lots_of_line, release_at, lots_of_notice, contracts_of_notice, performance_at, security_at, releases_of_notice, envelope_at, entries_of_contract, tenderer_at, awards_of_notice, award_at, lot_at, seal_at}
pub use Rattle.office_base.specs.declared.ledger.LedgerRow.{LedgerRow}
pub use Rattle.office_base.specs.declared.ledger.LineAmounts.{LineAmounts}
pub use Rattle.office_base.specs.declared.puts.Put.{Put}
pub use Rattle.office_base.specs.declared.records.ClockRow.{ClockRow}
pub use Rattle.office_base.specs.declared.records.NoticeRow.{NoticeRow}
pub use Rattle.office_base.specs.declared.shelf.ShelfFault.{ShelfFault}
pub use Rattle.office_base.specs.declared.shelf.ShelfFault.TheVariants.{NoMemory, Store}
pub use Rattle.office_changes.proofs.Steps.{rolled, on_err, on_ok_with, begun_refused}
pub use Rattle.office_changes.specs.Migration.{HoldsThese, Migrates, LeavesCurrent}
pub use Rattle.office_ledger.specs.Cells.{joined_cells}
pub use Rattle.office_ledger.specs.Joins.{joined_lots, joined}
pub use Rattle.office_ledger.specs.Plain.{JoinIsNoWrite, JoinIsPlain}
pub use Rattle.office_ledger.specs.ReadBack.{JoinedRowsComeBack}
pub use Rattle.office_ledger.specs.Reading.{joined_read}
pub use Rattle.office_ledger.specs.Select.{list_joined}
pub use Rattle.office_ledger.specs.SelectLots.{list_joined_of_line}
pub use Rattle.office_ledger.specs.Shows.{HoldsJoined, LotsAreShown, joined_lot_cells, JoinIsShown, JoinIsBegun}
pub use Rattle.office_ledger.specs.Standing.{StoredRowsShow}
pub use Rattle.office_ledger.specs.declared.joined.JoinedRow.{JoinedRow}
pub use Rattle.office_store.specs.Forms.{HasForms, StandsAlike, StandsOrLacks, index_count, HasForm, HasPlainRules, ListsForms}
pub use Rattle.office_store.specs.Founding.{Migrated, LeavesMigrated, LeavesReadied, LeavesOffice, IsMadeCurrent, Enters, version_in, is_other_version, origin_of, EntersOrCanNot, IsHindered, opening_of, IsNoOffice, Founded, LeavesNew, IsSoundOpen, takes_a_name}
pub use Rattle.office_store.specs.LedgerRows.{KeepsOffice, HasTaken}
pub use Rattle.office_store.specs.Logs.{HasCommit, is_unused, NamesNoSize, has_shut_gate, LacksCommit}
pub use Rattle.office_store.specs.Others.{KeepsRest, leads_there, is_changed, is_changed_where, refers_there, mentions, mentions_from}
pub use Rattle.office_store.specs.Reopening.{OpensUsed, Found, FilesHoldOffice, ClosingFails, HoldStill, IsHalfClosed, IsLeftOf, IsPutDown, IsReason, IsUsableLeft, LeavesFound, MayCommit, EntersFound, OpensBlank, OpensHeld}
pub use Rattle.office_store.specs.Shutting.{IsTold, told_by}
pub use Rattle.office_store.specs.SqlMeaning.{sql_meaning, LeavesOffices, LeavesNoOther, LeavesShown}
pub use Rattle.office_store.specs.declared.found.OpenFault.{OpenFault}
pub use Rattle.office_store.specs.declared.opened.Origin.{Origin}
pub use Rattle.office_tables.proofs.Each.{each, listed}
pub use Rattle.office_tables.proofs.EarlierEditions.{current_is, current_version, edition_is, edition_version}
pub use Rattle.office_tables.proofs.Selecting.{found_by_tree}
pub use Rattle.office_tables.specs.Apart.{LeadsInside}
pub use Rattle.office_tables.specs.Earlier.{HoldsEdition, IsMigrated, ShowsEdition, ShowsOffice, former_part, had_former, AreApart, changed_tables, changed_where}
pub use Rattle.office_tables.specs.Editions.{edition_of, has_late, version_of}
pub use Rattle.office_tables.specs.Failing.{DiskFails, fault_of, IsExcused, ChangeFails}
pub use Rattle.office_tables.specs.Kept.{by_rowid, read_by_rowid}
pub use Rattle.office_tables.specs.Known.{IsIn, at_tree, key_indexes}
pub use Rattle.office_tables.specs.Laws.{TreesTellOneOffice}
pub use Rattle.office_tables.specs.Making.{Founds, KeepsOthers}
pub use Rattle.office_tables.specs.Schema.{OfficeTable, table_of, all_tables}
pub use Rattle.office_tables.specs.Schema.OfficeTable.{Lines, Batches, Tenderers, Notices, Lots, Envelopes, Seals, Securities, Awards, Contracts, Entries, Releases, Office, LateRules, FormerNotices, Performances}
pub use Rattle.office_tables.specs.Standing.{Holds}
pub use Rattle.office_tables.specs.Steps.{Refused, IsAsked, ShowsTables, IsRefusedBy, Applied, Leaves, LeavesPuts, TellsOnly, IsRefusal}
pub use Rattle.office_tables.specs.Tables.Contracts.{contract_values, contract_read}
pub use Rattle.office_tables.specs.Tables.Entries.{entry_form}
pub use Rattle.office_tables.specs.Tables.Lines.{line_form}
pub use Rattle.office_tables.specs.Tables.Lots.{lot_form}
pub use Rattle.office_tables.specs.Tables.Office.{this_version}
pub use Rattle.office_tables.specs.Version.{get_version, one_version, ShowsVersion, HasNoVersion}
pub use Rattle.office_tables.specs.declared.tables.notices.FormerNotice.{FormerNotice}
pub use Rattle.sqlite.proofs.Callers.{given_begin, begun_plain, memory_is_clean, survives_begin}
pub use Rattle.sqlite.proofs.FileLemmas.{same_image}
pub use Rattle.sqlite.proofs.ListingLemmas.{empty_is_sound}
pub use Rattle.sqlite.proofs.StateLemmas.{survives_then, survives_weaker}
pub use Rattle.sqlite.proofs.Theorems.{opens_again}
pub use Rattle.sqlite.specs.Closing.{HoldsAlone, IsCopied}
pub use Rattle.sqlite.specs.Effect.{Database, IsDatabase}
pub use Rattle.sqlite.specs.Files.{AreFoundIn, BeginsWell, Finds, HoldsDatabase, IsKept, IsNothing, IsUnderWay, LeavesFiles, NamesSize, SaysSums, file_state, image_of, over_files, IsOpened, IsClosed, ExcusesClose, FailsToClose, IsCleanLeft}
pub use Rattle.sqlite.specs.Given.{HasGiven, Advances, IsPlain, HasBegun}
pub use Rattle.sqlite.specs.Held.{Held, state, AreDatabases}
unfoldable pub use Rattle.sqlite.specs.Listing.{understood, listing_schema}
pub use Rattle.sqlite.specs.Start.{FindsIn}
pub use Rattle.sqlite.specs.State.{State, IsUnchanged, IsRolledBack, HasCleanDisk, Survives, IsNoStatement, store_error, IsLive, FailsToShow, Shows}
unfoldable pub use Rattle.sqlite.specs.State.{IsNotRun, CommitsShowing, FailsToQuery, Shown}
pub use Rattle.sqlite.specs.Steps.{over_memory, IsEmpty}
pub use Rattle.sqlite.specs.declared.error.Error.TheVariants.{SqlInputError}
pub use Rattle.sqlite.specs.declared.file.Leftover.{Leftover}
pub use Rattle.sqlite_catalog.proofs.AlterLemmas.{place_has}
pub use Rattle.sqlite_catalog.proofs.LayoutLemmas.{zipped_left}
pub use Rattle.sqlite_catalog.proofs.ReadLemmas.{lists_once}
pub use Rattle.sqlite_catalog.proofs.StepLemmas.{same_itself}
pub use Rattle.sqlite_catalog.specs.Change.{is_used}
pub use Rattle.sqlite_catalog.specs.Listing.{Lists, IsGuarded, IsTableRow, automatic}
pub use Rattle.sqlite_disk.specs.Disk.{MoreFaults}
pub use Rattle.sqlite_disk.specs.Events.{Event, replay, settled}
pub use Rattle.sqlite_disk.specs.declared.Files.{Files}
pub use Rattle.sqlite_pool.specs.Stored.{IsUnreadable, StandsAs, stored_size}
pub use Rattle.sqlite_resolve.specs.declared.error.CompileError.{CompileError}
pub use Rattle.sqlite_rules.proofs.ListLemmas.{all_has, has_kept, has_found, some_from}
pub use Rattle.sqlite_rules.specs.Lists.{Has}
pub use Rattle.sqlite_schema.specs.Code.{terms_in, term_in, op_term, term_to}
pub use Rattle.sqlite_schema.specs.Names.{table_named}
unfoldable pub use Rattle.sqlite_schema.specs.Names.{same_name}
pub use Rattle.sqlite_schema.specs.Rules.{guards, ParentKey, parent_key, key_in, key_places}
pub use Rattle.sqlite_schema.specs.declared.code.Op.{Op}
pub use Rattle.sqlite_schema.specs.declared.code.Op.TheVariants.{Literal, Unary, Binary}
pub use Rattle.sqlite_schema.specs.declared.schema.Index.{Index}
pub use Rattle.sqlite_schema.specs.declared.schema.Reference.{Reference}
pub use Rattle.sqlite_schema.specs.declared.schema.Schema.{Schema}
pub use Rattle.sqlite_schema.specs.declared.schema.Table.{Table}
pub use Rattle.sqlite_sql.specs.Term.{Term, op1, op2}
pub use Rattle.sqlite_sql.specs.declared.ops.BinaryOp.{BinaryOp}
pub use Rattle.sqlite_sql.specs.declared.ops.UnaryOp.{UnaryOp}
pub use Rattle.sqlite_store.specs.FileStore.{recovers, view, faults, is_shielded}
pub use Rattle.sqlite_store.specs.Laws.{settled_at}
pub use Rattle.sqlite_store.specs.Unopened.{state_of}
pub use Rattle.sqlite_store.specs.declared.store.FileStore.{FileStore}
unfoldable pub use Rattle.sqlite_tied.specs.Compute.{everything}
pub use Rattle.sqlite_trees.proofs.Doubt.{no_doubt}
pub use Rattle.sqlite_trees.specs.Objects.{catalog_tree}
pub use Rattle.sqlite_trees.specs.Props.{Trees-set}
pub use Rattle.sqlite_trees.specs.Tree.{Trees, IsAscending}
pub use Rattle.sqlite_trees.specs.View.{IsQuiet}
pub use Rattle.sqlite_trees.specs.declared.error.StoreError.{StoreError}
pub use Rattle.sqlite_trees.specs.declared.error.StoreError.TheVariants.{OutOfMemory, Io, Corrupt, Full, Broken, Unstorable}
pub use Rattle.sqlite_trees.specs.declared.memory.MemStore.{MemStore}
pub use Rattle.sqlite_value.specs.Order.{Row}
pub use Rattle.sqlite_value.specs.declared.value.Value.TheVariants.{Text, Null}
pub use Rattle.sqlite_wal.proofs.CleanLemmas.{both_clean}
pub use Rattle.sqlite_wal.proofs.FormatLemmas.{part_front}
pub use Rattle.sqlite_wal.proofs.LogLemmas.{SeenMayStay}
pub use Rattle.sqlite_wal.proofs.PartLemmas.{held_is_part}
pub use Rattle.sqlite_wal.specs.Files.{outcomes}
unfoldable pub use Rattle.sqlite_wal.specs.Format.{be32}
pub use Rattle.sqlite_wal.specs.Opening.{RefusesLog}
pub use Rattle.sqlite_wal.specs.PageSize.{IsPageSize, Names, bytes_of, size_in_file}
pub use Rattle.sqlite_wal.specs.Reads.{AreClean, OnlyReads}
pub use Rattle.sqlite_wal.specs.Recovery.{Image, IsIgnored, AreFramesOf}
pub use Rattle.sqlite_wal.specs.declared.page_size.PageSize.{PageSize}
pub use Rattle.std.proofs.Common.{◌≡◌, sym, subst, ◌⊎◌, inl, inr, ℕ, zero, suc, ◌+◌, ◌<◌, ◌==◌, ◌^◌, true, false, List, [], ◌∷◌, Option, Some, None, length, filter, slice_get, nat_le, refl, ap, ◌∙◌, IsTrue, arith, Bool, Bor, cond, map, slice_index_or, take, true≢false, ◌≤◌, Ok, ◌||◌, find, Err, Result, ◌++◌, rules, ap₂, ◌-◌, drop, OnOk}
pub use Rattle.std.proofs.Math.Logic.{∥∥₁_elim, ∥∥₁_map}
pub use Rattle.std.proofs.lemmas.Bool.{eq-eqb, cases_Bool, eqb-true, and_from, and_parts, leb-true, le-leb, lt-ltb, ltb-false, ltb-true, not-false, or_cases, or_left, or_right, le-ltb}
pub use Rattle.std.proofs.lemmas.Bool.Decides.{nat_tests}
pub use Rattle.std.proofs.lemmas.Grind.{common_steps}
pub use Rattle.std.proofs.lemmas.List.{get_or-map, take_all}
pub use Rattle.std.proofs.lemmas.Option.{gets, get_or_from_slice_get}
pub use Rattle.std.specs.List.{list_any}
pub use Rattle.std.specs.Prelude.{is_some, ◌&&◌, not, nat_lt, option_and_then, option_map, ⊤, IfErr, IfOk, Vec, get_or}
pub use Rattle.std.specs.declared.alloc.Global.{Global}
