-- The names of other crates, and of this one's definitions, that the proofs of this crate use. A file takes them by one import.
pub use Rattle.award_core.specs.Rules.Award.{price_of, winner}
pub use Rattle.ocds_merge.specs.Compile.{with_head}
pub use Rattle.ocds_merge.specs.Merge.{merge_or_null}
pub use Rattle.ocds_merge.specs.Stored.{IsStorable}
pub use Rattle.ocds_release.specs.KeptReleases.{AreKept}
pub use Rattle.ocds_release.specs.Opened.{moment_of, moment_of_last, completed}
pub use Rattle.ocds_release.specs.Packages.{record_package, release_package}
pub use Rattle.ocds_release.specs.Texts.{ocid_text}
pub use Rattle.office_base.specs.Faults.{HasRisen, one_fault_more}
pub use Rattle.office_base.specs.Joined.{ledger_of, ledger_row, pots_of}
pub use Rattle.office_base.specs.Limits.{page_limit}
pub use Rattle.office_base.specs.Pages.{next_after}
pub use Rattle.office_base.specs.Parents.{line_of_lot, lot_of_award, lot_of_contract}
pub use Rattle.office_base.specs.Shelves.{Meaning, Alters, Keeps, Looks}
pub use Rattle.office_base.specs.States.{is_read}
pub use Rattle.office_base.specs.Tables.{Tables, after_puts, release_at, releases_of_notice, award_at, contract_at, envelopes_of_lot, line_at, lot_at, lots_of_notice, notice_at, tenderer_key}
pub use Rattle.office_base.specs.declared.ledger.LedgerRow.{LedgerRow}
pub use Rattle.office_base.specs.declared.ledger.Pots.{Pots}
pub use Rattle.office_base.specs.declared.puts.Put.{Put}
pub use Rattle.office_base.specs.declared.records.AwardRow.{AwardRow}
pub use Rattle.office_base.specs.declared.records.EnvelopeRow.{EnvelopeRow}
pub use Rattle.office_base.specs.declared.records.LineRow.{LineRow}
pub use Rattle.office_base.specs.declared.records.LotRow.{LotRow}
pub use Rattle.office_base.specs.declared.records.NoticeRow.{NoticeRow}
pub use Rattle.office_base.specs.declared.records.ReleaseRow.{ReleaseRow}
pub use Rattle.office_base.specs.declared.records.TendererRow.{TendererRow}
pub use Rattle.office_base.specs.declared.shelf.ShelfFault.{ShelfFault}
pub use Rattle.office_commands.specs.Rights.{is_clerk}
pub use Rattle.office_commands.specs.declared.budget.BudgetRow.{BudgetRow}
pub use Rattle.office_commands.specs.declared.command.Caller.{Caller}
pub use Rattle.office_commands.specs.declared.command.Caller.TheVariants.{Tenderer}
pub use Rattle.office_commands.specs.declared.commands.Command.{Command}
pub use Rattle.office_commands.specs.declared.contract.ChangeKind.{ChangeKind}
pub use Rattle.office_commands.specs.declared.lot.NewLot.{NewLot}
pub use Rattle.office_commands.specs.declared.queries.Query.{Query}
pub use Rattle.office_desk.specs.Balances.{LedgerAddsUp, PotsAddUp, RowAddsUp, pots_add_up, row_adds_up}
pub use Rattle.office_desk.specs.Desks.{DeskOf}
pub use Rattle.office_desk.specs.Extent.{IsExtentOf, IsWritten}
pub use Rattle.office_desk.specs.MovedLines.{MovesAddUp, NoMoveIsLeftOut, line_adds_up, may_move}
pub use Rattle.office_desk.specs.Steps.{OfficeIsKept, Joins, office_after_answer, accepted_after, read_text, Does, IsOfficeAfter, HasShown, IsSeen, TellsQuery}
pub use Rattle.office_desk.specs.declared.queries.packages.texts.Extent.{Extent}
pub use Rattle.office_machine.specs.Accounts.{AccountsAreKept}
pub use Rattle.office_machine.specs.Counted.{releases_in}
pub use Rattle.office_machine.specs.Evaluation.{awards_of_lot, evaluated_lot, evaluated_tenders, has_outcome, lot_told, evaluated_tender}
pub use Rattle.office_machine.specs.Fates.{TendersAreKept, SecuritiesAreKept, PerformancesAreKept, numbers}
pub use Rattle.office_machine.specs.Machine.{Given, IsRegistered, Reaches}
pub use Rattle.office_machine.specs.Moves.{Free, Move, Reserved, line_in, move_back, move_of_award, move_of_change, move_of_lot, move_of_row, reserved_for}
pub use Rattle.office_machine.specs.Sights.{minuted, registered, listed_security, listed_tenderer, own_of_lot, own_tender}
pub use Rattle.office_plans.proofs.KeptObjects.{has_merge_any}
pub use Rattle.office_plans.proofs.LookedUp.{exact_ids, from_one, here, none_from}
pub use Rattle.office_plans.proofs.OneByOne.{as_many, are_from, are_numbers}
pub use Rattle.office_plans.specs.Asking.{given}
pub use Rattle.office_plans.specs.Json.{Member, object_text, with_objects}
pub use Rattle.office_plans.specs.LookedUp.{AreFrom, IsAsIn}
pub use Rattle.office_plans.specs.Plans.{Plan}
pub use Rattle.office_plans.specs.Published.{IsPlan, TellsRefusal}
pub use Rattle.office_plans.specs.Replies.{minuted_tender, evaluated_lines, finding_of, registered_line, registry_text}
pub use Rattle.office_plans.specs.RowMembers.{listed_security_entries, listed_tenderer_entries, page_entries, own_tender_entries}
pub use Rattle.office_plans.specs.Tenderers.{with_tenderer}
pub use Rattle.office_publications.specs.Keeping.{KeepsReleases, KeptStepsReach, ReleasesStayKept, KeepsItsReleases, next_with_merges}
pub use Rattle.office_publications.specs.Merges.{AreSoMany, HasMerge, bodies, CanGoOn, IsKeptOf, IsMergedOf}
pub use Rattle.office_publications.specs.Packages.{compiled_told, releases_told}
pub use Rattle.office_publications.specs.Publishing.{publishing}
pub use Rattle.office_publications.specs.Told.{AreAllThere, IsInRange, HasReleases, IsCompiled}
pub use Rattle.office_publications.specs.declared.merges.Kept.{Kept}
pub use Rattle.office_values.specs.Ids.{id_cmp}
pub use Rattle.office_values.specs.Moments.{moment_text}
pub use Rattle.office_values.specs.declared.refusal.Refusal.{Refusal}
pub use Rattle.office_values.specs.declared.refusal.Refusal.TheVariants.{Unavailable}
pub use Rattle.office_values.specs.declared.settings.Publisher.{Publisher}
pub use Rattle.serde_json.specs.Data.{Data}
pub use Rattle.serde_json.specs.Written.{compact_text}
pub use Rattle.std.proofs.Common.{subst, arith, sym, ap, ◌∙◌, refl, inl, inr, append_assoc, append-nil, drop, rules, string_bytes, String, IfOk}
pub use Rattle.std.proofs.lemmas.Bool.{and_parts, eqb-true}
pub use Rattle.std.proofs.lemmas.Fn.{filter_same}
pub use Rattle.std.proofs.lemmas.List.{map-append, take_more, length-map, flat_map_more, take_all, drop_all, drop_more}
pub use Rattle.std.proofs.lemmas.List.Elements.{All-from_recursion, All-get_or}
pub use Rattle.std.proofs.lemmas.List.Folds.{flat_map-map}
pub use Rattle.std.proofs.lemmas.Option.{slice_get_cases}
pub use Rattle.std.proofs.lemmas.Simd.{map-map}
pub use Rattle.std.specs.List.{AllByRecursion, list_all, flat_map}
pub use Rattle.std.specs.Prelude.{◌≡◌, ℕ, List, Result, Ok, Err, IsErr, Vec, OnOk, ◌+◌, ◌<◌, [], ◌∷◌, ◌++◌, get_or, length, map, take, ◌-◌, suc, Option, Some, None, IfSome, All, slice_get, Bool, true, ◌⊎◌, IfErr, false, cond, ◌&&◌, filter, nat_le, ◌||◌, codes}
pub use Rattle.std.specs.declared.alloc.Global.{Global}
pub use Rattle.tender_core.specs.Rules.Cancel.{is_open_lot}
pub use Rattle.tender_papers.specs.Evaluation.{award_line, finding_line, lot_state_line}
pub use Rattle.tender_papers.specs.Lines.{line}
pub use Rattle.tender_papers.specs.Register.{register_text}
pub use Rattle.tender_papers.specs.declared.minutes.OpenedTender.{OpenedTender}
