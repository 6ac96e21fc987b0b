-- The names of other crates, and of this one's definitions, that the proofs of this crate use. A file takes them by one import.
unfoldable pub use Rattle.csv.proofs.OnLiterals.{csv_on_literals}
pub use Rattle.csv.proofs.ReadFacts.{rows-end, rows-more}
pub use Rattle.csv.specs.Machine.{Read, step, in_field, is_end, ends_at_end, fields_after, field_after}
unfoldable pub use Rattle.csv.specs.Machine.{next_record}
pub use Rattle.csv.specs.Reading.{ExplainsRead, ReadRecord, default_config, is_flexible, reader_state, source_of, took_first, records_next, is_bom, error_kind}
unfoldable pub use Rattle.csv.specs.Reading.{Reached, records_from, strip_bom}
pub use Rattle.csv.specs.Records.{fields_of}
unfoldable pub use Rattle.csv.specs.Records.{field_at}
pub use Rattle.csv.specs.declared.error.ErrorKind.{ErrorKind}
pub use Rattle.csv.specs.declared.parser.Action.{Action}
pub use Rattle.csv.specs.declared.parser.State.{State}
pub use Rattle.csv.specs.declared.reader.Reader.{Reader}
pub use Rattle.office_commands.specs.declared.budget.BudgetKind.{BudgetKind}
pub use Rattle.office_commands.specs.declared.budget.BudgetRow.{BudgetRow}
unfoldable pub use Rattle.office_values.specs.Fields.{is_id, is_text_line}
unfoldable pub use Rattle.office_values.specs.Moments.{moment_text, month_after, year_after}
pub use Rattle.office_values.specs.Money.{amount_limit}
pub use Rattle.office_values.specs.Numbers.{number_of}
pub use Rattle.std.proofs.Common.{◌≡◌, ℕ, ◌+◌, zero, suc, ◌≤◌, List, [], ◌∷◌, ◌++◌, Option, Some, None, Result, Ok, Err, refl, sym, ap, ◌∙◌, append_assoc, arith, ◌<◌, length, Bor, false, inl, add-one, ◌^◌, codes, take}
pub use Rattle.std.proofs.Math.Bridge.{le_prop}
pub use Rattle.std.proofs.Math.Nat.{zero-lt-suc}
pub use Rattle.std.proofs.lemmas.List.{append-nil}
pub use Rattle.std.specs.Bool.{MatchBool}
unfoldable pub use Rattle.std.specs.Fmt.{digits}
pub use Rattle.std.specs.List.{filter_map, position_from, cons_option, list_all, flat_map, count_by}
pub use Rattle.std.specs.Prelude.{option_and_then, is_none, cond, true, Bool, IsTrue, ◌==◌, ◌||◌, ◌&&◌, option_map, is_some, filter}
unfoldable pub use Rattle.std.specs.Str.{is_utf8, chars}
pub use Rattle.tender_papers.specs.Budget.{budget_kind_of, row_of, row_of_four, budget_row_with, is_no_row, rows_unless}
unfoldable pub use Rattle.tender_papers.specs.Budget.{rows_from}
pub use Rattle.tender_papers.specs.Files.{four_of}
unfoldable pub use Rattle.tender_papers.specs.Files.{but_last, last_of}
pub use Rattle.tender_papers.specs.Inside.Reading.{IsOfSource, IsReading}
unfoldable pub use Rattle.tender_papers.specs.Inside.Reading.{records_left}
pub use Rattle.tender_papers.specs.Inside.TenderParts.{tender_ended_by}
pub use Rattle.tender_papers.specs.Ledger.{ledger_columns, ledger_line}
pub use Rattle.tender_papers.specs.Lines.{line}
pub use Rattle.tender_papers.specs.Listing.{listing_line}
pub use Rattle.tender_papers.specs.Minutes.{lot_lines, minutes_head, is_of, tender_line}
pub use Rattle.tender_papers.specs.Register.{register_line}
pub use Rattle.tender_papers.specs.Tender.{Paper, is_item, item_record_of, item_of_four, stated_of, stated_of_four, are_for, corrected_of, is_wrong}
unfoldable pub use Rattle.tender_papers.specs.Tender.{paper_below_head}
pub use Rattle.tender_papers.specs.declared.tender.ItemRecord.{ItemRecord}
unfoldable pub use lib.Utf8.{encode}
