-- The names of other crates, and of this one's definitions, that the proofs of this crate use. A file takes them by one import.
pub use Rattle.office_base.specs.Rows.{by_order, StartsAbove, IsInOrder}
unfoldable pub use Rattle.office_base.specs.Rows.{row_put}
pub use Rattle.office_base.specs.Tables.{Tables, after_put, after_puts, notice_key}
pub use Rattle.office_base.specs.declared.puts.Put.{Put}
pub use Rattle.office_base.specs.declared.records.ClockRow.{ClockRow}
pub use Rattle.office_base.specs.declared.records.NoticeRow.{NoticeRow}
pub use Rattle.office_changes.specs.Migration.{HoldsThese, Becomes, Migrates, LeavesCurrent, MigrationFails}
pub use Rattle.office_tables.proofs.Childless.{SparesMarked}
pub use Rattle.office_tables.proofs.EarlierEditions.{former_sorted, notices_change}
pub use Rattle.office_tables.proofs.PutsApart.{notice_apart}
pub use Rattle.office_tables.proofs.Statements.{fails_early, fails_later, run_then, fails_unready}
pub use Rattle.office_tables.specs.Apart.{AddsNoReference, LeadsInside}
pub use Rattle.office_tables.specs.Earlier.{AreApart, Begins, IsMigrated, besides_former, former_part, had_former, other_part}
pub use Rattle.office_tables.specs.Failing.{IsExcused, OneIsDeclined, StoreFails, ChangeFails}
pub use Rattle.office_tables.specs.Known.{IsIn}
pub use Rattle.office_tables.specs.Schema.OfficeTable.{Notices}
pub use Rattle.office_tables.specs.Standing.{Holds}
pub use Rattle.office_tables.specs.Statements.{beginning, notice_put, OneFails, RunAll, Statement}
pub use Rattle.office_tables.specs.Steps.{MakeAll, Puts, ShowsTables, Goes, Refused, Applied, LeavesPuts}
pub use Rattle.office_tables.specs.declared.tables.notices.FormerNotice.{FormerNotice}
pub use Rattle.office_values.specs.Ids.{id_cmp}
pub use Rattle.sqlite.proofs.Callers.{survives_begin}
pub use Rattle.sqlite.proofs.StateLemmas.{survives_then}
pub use Rattle.sqlite.specs.Effect.{Database}
pub use Rattle.sqlite.specs.Held.{state}
pub use Rattle.sqlite.specs.State.{State, HasCause, store_error, Shows, IsRolledBack, HasCleanDisk, Survives}
pub use Rattle.sqlite.specs.Steps.{FailsToCommit}
pub use Rattle.sqlite.specs.declared.error.Error.{Error}
pub use Rattle.sqlite_rules.specs.Lists.{Has}
pub use Rattle.sqlite_schema.specs.declared.schema.Schema.{Schema}
pub use Rattle.sqlite_schema.specs.declared.schema.Table.{Table}
pub use Rattle.sqlite_trees.specs.Tree.{Trees}
pub use Rattle.sqlite_trees.specs.declared.error.StoreError.{StoreError}
pub use Rattle.std.proofs.Common.{◌≡◌, inl, inr, ◌≤◌, ℕ, true, false, List, [], ◌∷◌, ◌++◌, Option, Result, Ok, Err, refl, sym, ap, subst, ◌∙◌, IsTrue, true≢false, arith, Bool, map, append-nil, subst₂, Ordering, Less, Greater, OnOk, rules, ◌+◌, drop, length, take}
pub use Rattle.std.proofs.lemmas.Bool.{cases_Bool}
pub use Rattle.std.proofs.lemmas.List.{append_assoc, drop_more, nil_from_length, map-append, take-append-drop, take_all, take_more}
pub use Rattle.std.specs.Cmp.{IsTotalOrder}
pub use Rattle.std.specs.Cmp.Lexicographic.{nat_list_cmp_total}
pub use Rattle.std.specs.Ordering.{ordering_reverse}
pub use Rattle.std.specs.Prelude.{IsErrAnd, IfErr, OnErr}
