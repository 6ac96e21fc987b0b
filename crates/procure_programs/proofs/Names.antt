-- The names of other crates, and of this one's definitions, that the proofs of this crate use. A file takes them by one import.
pub use Rattle.office_base.specs.Limits.{page_limit}
pub use Rattle.office_base.specs.Pages.{TablesArePaged, followed, next_after, rows_after}
unfoldable pub use Rattle.office_base.specs.Pages.{read_pages}
pub use Rattle.office_base.specs.Shelves.{Keeps, Looks, Meaning}
pub use Rattle.office_base.specs.Shutting.{Standing, TellsShut}
pub use Rattle.office_base.specs.Tables.{Tables, IsSorted, notice_key, no_tables}
pub use Rattle.office_base.specs.declared.records.NoticeRow.{NoticeRow}
pub use Rattle.office_base.specs.declared.shelf.ShelfFault.{ShelfFault}
pub use Rattle.office_commands.specs.declared.item.Item.{Item}
pub use Rattle.office_commands.specs.declared.queries.Query.{Query}
pub use Rattle.office_desk.specs.Desks.{DeskOf}
pub use Rattle.office_http.specs.Answering.{StandsAs, office_answers, fault_text, IsWholeAfter, LeftAfter, is_accepted, meant_in}
pub use Rattle.office_http.specs.Joined.{StepsAreKept}
pub use Rattle.office_http.specs.Runs.{WentThrough, IsServed}
pub use Rattle.office_http.specs.Stops.{StopsBy, LeftBySteps}
pub use Rattle.office_machine.specs.Accounts.{TablesAreInOrder}
pub use Rattle.office_memory.specs.MemoryMeaning.{memory_meaning}
pub use Rattle.office_publications.specs.Publishing.{publishing}
pub use Rattle.office_publications.specs.Standing.{IsReached}
pub use Rattle.office_requests.specs.Bodies.{object_if}
unfoldable pub use Rattle.office_requests.specs.Bodies.{object_in_body}
pub use Rattle.office_requests.specs.Fields.{◌>>=◌}
pub use Rattle.office_requests.specs.Forms.{passing, is_between}
unfoldable pub use Rattle.office_requests.specs.Forms.{identifier_of, line_of, number_between}
pub use Rattle.office_requests.specs.Publications.{new_item_of}
unfoldable pub use Rattle.office_requests.specs.Publications.{each_of}
pub use Rattle.office_store.proofs.Founding.{enters_bare, no_schema}
pub use Rattle.office_store.specs.Reopening.{FilesHoldOffice, IsHalfClosed, OpensHeld, IsPutDown, StandForOffice, EntersFound, Found, OpensBlank, OpensUsed}
pub use Rattle.office_store.specs.SqlMeaning.{LeavesNoOther, LeavesShown, sql_meaning}
pub use Rattle.office_store.specs.declared.found.OpenFault.{OpenFault}
pub use Rattle.office_store.specs.declared.opened.Origin.{Origin}
pub use Rattle.office_sums.specs.RememberingMeaning.{remembering, remembering_standing}
pub use Rattle.office_sums.specs.declared.shelf.RememberingShelf.{RememberingShelf}
pub use Rattle.office_tables.specs.Steps.{ShowsTables, MayLeave}
pub use Rattle.office_tables.specs.Tables.Office.{this_version}
pub use Rattle.office_values.specs.Fields.{is_id, is_text_line}
pub use Rattle.office_values.specs.Ids.{id_cmp}
pub use Rattle.office_values.specs.declared.refusal.BadPart.TheVariants.{Body}
pub use Rattle.office_values.specs.declared.refusal.Refusal.{Refusal}
pub use Rattle.office_values.specs.declared.refusal.Refusal.TheVariants.{BadBody, Unavailable}
pub use Rattle.office_values.specs.declared.settings.Publisher.{Publisher}
pub use Rattle.office_wire.specs.Request.{IsRefused}
pub use Rattle.office_wire.specs.Runs.{Step, office_left, Served, Answers, IsOneAtMost}
pub use Rattle.office_wire.specs.Sending.{AppendsPart, WriterView}
pub use Rattle.office_wire.specs.declared.fault.RunFault.{RunFault}
pub use Rattle.procure_config.specs.Configuration.{settings_in}
pub use Rattle.procure_config.specs.Faults.{no_memory, of_settings}
pub use Rattle.procure_config.specs.declared.fault.ProgramFault.{ProgramFault}
pub use Rattle.procure_config.specs.declared.fault.ProgramFault.TheVariants.{Output, Refused, Arguments, Store, Input}
pub use Rattle.procure_config.specs.declared.settings.SettingsFault.{SettingsFault}
pub use Rattle.procure_config.specs.declared.settings.SettingsFault.TheVariants.{NoMemory, NotToml, Member}
pub use Rattle.procure_programs.specs.Blank.{empty_database}
pub use Rattle.procure_programs.specs.FaultsTold.{IsOfStore, of_opening, of_shelf}
pub use Rattle.procure_programs.specs.Hosts.{Hosting, TellsMoment, clock_moment, hosting}
pub use Rattle.procure_programs.specs.Listing.{WritesPage, page_rows}
pub use Rattle.procure_programs.specs.Placed.{HadOfficeIfUsed, OpensEmpty, HoldNoTable}
pub use Rattle.procure_programs.specs.ReadFiles.{PrintsShown, PrintsTender, Shown, tender_shown}
pub use Rattle.procure_programs.specs.Serving.{AreOfOpened, DayIn, DaysFollow, EndsPrinting, EndsServing, FilesGoOn, HalfClosesFiles, HalfPrintsFiles, HalfServesFilesAt, HaveOffice, KeysFollow, LedOn, MayBeFound, PrintsFiles, ServesFiles, ServesFilesAt, ServesOpened, StandsIn, StopsIn, TellsFirst, WasServed, WasServedRemembering, sql_standing, under_settings, TakesTurns, AreBeginning, StandsAt, StopsFiles, StopsFilesAt, WasServedAt}
pub use Rattle.procure_programs.specs.Showing.{IsPrintout, IsOfPrinting, IsPrinted, IsOfOffice, IsSeenWhole, IsShown, IsOfSettings, IsOfText}
pub use Rattle.procure_programs.specs.Streams.{AnswersBlocks}
pub use Rattle.procure_programs.specs.Turns.{AreOfServingAt, ServesAt, AnswersConnection, AreOfConnection, AreOfServing, AreOfTurn, AreOfTurns, EndsBy, GoesOnFor, IsOneTurn, ServesAndAsks, ServesConnection, ServesInTurn, ServesSteps, TakesOne, EndsConnection}
pub use Rattle.procure_programs.specs.declared.showing.Printout.{Printout}
pub use Rattle.serde_json.specs.Data.{Data, item}
pub use Rattle.serde_json.specs.Read.{read}
pub use Rattle.serde_json.specs.View.{items_view}
pub use Rattle.serde_json.specs.declared.value.Value.{Value}
pub use Rattle.sqlite.proofs.ListingLemmas.{empty_is_sound}
pub use Rattle.sqlite.specs.Closing.{HoldsAlone, IsCopied}
pub use Rattle.sqlite.specs.Effect.{Database}
pub use Rattle.sqlite.specs.Files.{file_state, over_files}
pub use Rattle.sqlite.specs.State.{HasCleanDisk}
pub use Rattle.sqlite_catalog.proofs.ReadLemmas.{lists_once}
pub use Rattle.sqlite_catalog.specs.Listing.{Lists}
pub use Rattle.sqlite_disk.specs.declared.Disk.{Ghosts}
pub use Rattle.sqlite_disk.specs.declared.Files.{Files}
pub use Rattle.sqlite_format.proofs.PageLemmas.{empty_page}
pub use Rattle.sqlite_format.specs.Page.{IsPage, page_cells}
unfoldable pub use Rattle.sqlite_format.specs.Page.{cell_count, content_start}
pub use Rattle.sqlite_format.specs.declared.kind.Tree.TheVariants.{Table}
pub use Rattle.sqlite_pool.proofs.OpenLemmas.{first_new}
pub use Rattle.sqlite_pool.proofs.ResealLemmas.{adopts_of}
pub use Rattle.sqlite_pool.specs.File.{version_in, in_use}
pub use Rattle.sqlite_pool.specs.Header.{IsHeader}
unfoldable pub use Rattle.sqlite_pool.specs.Header.{first_page}
pub use Rattle.sqlite_pool.specs.Opening.{IsFirstPage, IsNew}
pub use Rattle.sqlite_pool.specs.Stored.{Recovers}
unfoldable pub use Rattle.sqlite_pool.specs.Stored.{sealed, trimmed}
pub use Rattle.sqlite_store.proofs.BuildLemmas.{new_is_empty}
pub use Rattle.sqlite_store.proofs.ListingLemmas.{past_version, named_tree}
unfoldable pub use Rattle.sqlite_store.specs.Db.{trees_in}
pub use Rattle.sqlite_store.specs.FileStore.{recovers, state}
pub use Rattle.sqlite_store.specs.Listed.{catalog_rows}
pub use Rattle.sqlite_store.specs.Listing.{all_trees, file_trees, IsOurs}
pub use Rattle.sqlite_store.specs.declared.store.FileStore.{FileStore}
pub use Rattle.sqlite_trees.specs.Objects.{catalog_tree}
pub use Rattle.sqlite_trees.specs.Tree.{Trees}
pub use Rattle.sqlite_trees.specs.View.{IsClean}
pub use Rattle.sqlite_wal.proofs.CreateLemmas.{pages_of_one}
pub use Rattle.sqlite_wal.specs.Files.{image_at}
pub use Rattle.sqlite_wal.specs.PageSize.{IsPageSize}
pub use Rattle.sqlite_wal.specs.Reads.{AreClean}
pub use Rattle.sqlite_wal.specs.Recovery.{Image, AreWhole, only_page}
pub use Rattle.std.proofs.Common.{◌≡◌, ℕ, ◌+◌, ◌≤◌, ◌<◌, ◌⊎◌, inl, inr, List, [], ◌∷◌, ◌++◌, length, drop, Bool, true, false, Option, Some, None, Result, Ok, Err, IfSome, IfNone, IfOk, refl, sym, ap, ◌∙◌, append_assoc, add-one, get_or, suc, arith, subst, length-append, zero, zero-add, take, ◌==◌, ne_eqb, ap₂}
pub use Rattle.std.proofs.KnownBytes.{Appends-nil, Appends-trans, Appends-kept}
pub use Rattle.std.proofs.Math.Logic.{∥∥₁_elim, ∥∥₁_map}
pub use Rattle.std.proofs.Math.Seq.{drop-cons}
pub use Rattle.std.proofs.lemmas.Bool.{le-leb, leb-true, and_parts, cases_eq, cond-false}
pub use Rattle.std.proofs.lemmas.List.{drop_all, append-nil}
pub use Rattle.std.proofs.lemmas.List.Concat.{flat_map-append}
pub use Rattle.std.proofs.lemmas.Result.{err_from_is_err_and}
pub use Rattle.std.proofs.lemmas.Str.{IsUtf8-from_is_utf8, is_utf8-from_IsUtf8}
pub use Rattle.std.specs.Io.Buffered.{reader_buffer, reader_capacity, reader_inner, reader_remaining}
pub use Rattle.std.specs.Io.KnownBytes.{Appends, prepend_known}
pub use Rattle.std.specs.Prelude.{IsUtf8, nat_le, is_some, if◌then◌else◌, ⊤, IfErr, OnErr, OnOk, codes, decimal}
pub use Rattle.std.specs.Str.{is_utf8}
pub use Rattle.std.specs.declared.io.buffered.BufReader.{BufReader}
pub use Rattle.std.specs.declared.net.socket_addr.SocketAddrV4.{SocketAddrV4}
pub use Rattle.tender_papers.specs.Listing.{listing_line, listing_text}
