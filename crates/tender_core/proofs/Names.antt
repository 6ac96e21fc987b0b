-- The names of other crates, and of this one's definitions, that the proofs of this crate use. A file takes them by one import.
pub use Rattle.office_base.proofs.RowLaws.{row_at-row_put, all-put, all-found}
pub use Rattle.office_base.specs.Joined.{free_in}
pub use Rattle.office_base.specs.RowLaws.{RowsAreKept}
pub use Rattle.office_base.specs.Rows.{by_order}
unfoldable pub use Rattle.office_base.specs.Rows.{row_at}
pub use Rattle.office_base.specs.Standings.{find_standing, columns_at, columns_of_row, standing_key, standing_of, standings}
pub use Rattle.office_base.specs.Tables.{Tables, find_line, line_at, find_lot}
pub use Rattle.office_base.specs.Transitions.{clock_put, security_returned}
pub use Rattle.office_base.specs.declared.puts.Put.{Put}
pub use Rattle.office_base.specs.declared.reading.Reading.{Reading}
pub use Rattle.office_base.specs.declared.records.LineRow.{LineRow}
pub use Rattle.office_base.specs.declared.records.LotRow.{LotRow}
pub use Rattle.office_base.specs.declared.records.NoticeRow.{NoticeRow}
pub use Rattle.office_base.specs.declared.standing.Columns.{Columns}
pub use Rattle.office_base.specs.declared.standing.Standing.{Standing}
pub use Rattle.office_commands.specs.declared.budget.BudgetRow.{BudgetRow}
pub use Rattle.office_commands.specs.declared.item.Item.{Item}
pub use Rattle.office_commands.specs.declared.lot.NewLot.{NewLot}
pub use Rattle.office_commands.specs.declared.notice.NewNotice.{NewNotice}
pub use Rattle.office_values.specs.Ids.{id_cmp}
pub use Rattle.std.proofs.Common.{◌≡◌, ◌++◌, map, refl, sym, ap, ◌∙◌, ◌+◌, filter, ◌*◌, ◌≤◌, ◌^◌, arith, drop, take, suc, add-one, subst, rules}
pub use Rattle.std.proofs.Math.Seq.{drop-cons}
pub use Rattle.std.proofs.lemmas.Fn.{filter_same}
pub use Rattle.std.proofs.lemmas.List.Elements.{All-weaker}
pub use Rattle.std.specs.Cmp.Lexicographic.{nat_list_cmp_total}
pub use Rattle.std.specs.List.{list_any}
pub use Rattle.std.specs.Ordering.{eq_by_cmp}
pub use Rattle.std.specs.Prelude.{Bool, true, false, cond, ◌||◌, ℕ, List, [], ◌∷◌, length, Option, Some, None, option_map, option_and_then, ◌-◌, not, ◌&&◌, nat_lt, is_some, ◌<◌, IsSome}
pub use Rattle.std.specs.declared.cmp.Ordering.{Ordering}
pub use Rattle.std.specs.declared.cmp.Ordering.TheVariants.{Less, Equal, Greater}
pub use Rattle.tender_core.specs.Agreeing.{AgreeOnRows, ImportsAgree, import_on, AgreeOnNewLots, AgreeOnLots, PublishesAgree, CancelsAgree, publish_on, cancel_on}
pub use Rattle.tender_core.specs.Rules.Cancel.{is_open_lot, cancel_lacks, cancel_puts, freed, is_ended_award, award_put, is_ended_envelope, drop_put, envelope_put, freed_line_put, cancelled_lot_put, is_ended_security, lacks_line}
pub use Rattle.tender_core.specs.Rules.Import.{columns_after, after_row, after_rows, any_while_walking, imported_line_put, appropriation_of, free_of, cuts_nothing, cuts_too_much, passes_limit, cuts_below_zero, import_lacks, import_tests, import_puts, is_cut}
pub use Rattle.tender_core.specs.Rules.Open.{SealedTender, opened_put, opened_notice, open_puts, opened_with, with_reading, read_put, ReadingsArePut}
pub use Rattle.tender_core.specs.Rules.Publish.{wanted, is_on_no_line, is_short, publish_tests, publish_puts, no_line, reserving_line_put, new_lot_put}
pub use Rattle.tender_core.specs.Walks.{AreNamed, IsAtMost, AreAtMost}
pub use Rattle.tender_core.specs.declared.cancel.CancelRows.{CancelRows}
pub use Rattle.tender_core.specs.declared.import.ImportRows.{ImportRows}
pub use Rattle.tender_core.specs.declared.opening.OpenRows.{OpenRows}
pub use Rattle.tender_core.specs.declared.publish.PublishRows.{PublishRows}
