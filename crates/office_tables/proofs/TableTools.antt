-- The facts to be shown of each table of an office, and the lemmas for them. The files of `ByTable` share this page.
pub use Rattle.std.proofs.Common.{◌≡◌, inl, inr, ◌&&◌, ◌∷◌, [], List, ℕ, pos, None, Some, codes, refl, ap, ap₂, ◌∙◌, true, map, slice_get, drop, option_map}
pub use Rattle.std.specs.List.{range_with_len}
pub use Rattle.std.specs.Ordering.{nat_cmp, is_lt}
pub use Rattle.std.specs.Cmp.{nat_cmp_total, IsTotalOrder}
pub use Rattle.std.specs.Cmp.Lexicographic.{nat_list_cmp_total}
pub use Rattle.std.specs.FinMap.{nat_cmp-IsAntisymmetric as numbers_exact, IsAntisymmetric}
pub use Rattle.sqlite_value.specs.declared.value.Value.TheVariants.{Null, Int, Text}
pub use Rattle.sqlite_value.specs.declared.keys.Collation.TheVariants.{Binary}
unfoldable pub use Rattle.sqlite_value.specs.Keys.{first_key}
pub use Rattle.sqlite_value.specs.Order.{Row}
pub use Rattle.sqlite_value.proofs.OrderLemmas.{value_cmp-Text}
pub use Rattle.sqlite_sql.specs.Term.{col, op2}
pub use Rattle.sqlite_sql.specs.declared.ops.BinaryOp.TheVariants.{Compare}
pub use Rattle.sqlite_sql.specs.declared.ops.CompareOp.TheVariants.{Gt}
unfoldable pub use Rattle.sqlite_schema.specs.Names.{same_name}
pub use Rattle.sqlite_schema.specs.declared.schema.Schema.{Schema}
pub use Rattle.sqlite_schema.specs.declared.command.Command.TheVariants.{Select, Delete}
unfoldable pub use Rattle.sqlite_resolve.specs.Lowering.{alone, chosen, first_found}
pub use Rattle.sqlite_resolve.specs.Lowering.{max_budget, nothing}
pub use Rattle.sqlite_resolve.specs.Compile.{first}
unfoldable pub use Rattle.sqlite_tied.specs.Compute.{everything}
unfoldable pub use Rattle.sqlite.specs.Listing.{listing_schema}
pub use Rattle.sqlite.specs.State.{State, Shown}
pub use Rattle.office_values.specs.Ids.{id_cmp, same_id}
unfoldable pub use Rattle.office_base.specs.Rows.{row_put}
pub use Rattle.office_base.specs.Tables.{Tables, same_number, after_put}
pub use Rattle.office_base.proofs.ExactKeys.{ids_exact, lots_exact, entries_exact, releases_exact, same_id_is}
pub use Rattle.office_base.proofs.Orders.{lots_total, entries_total, releases_total}
pub use Rattle.office_tables.specs.Forms.{text_column, number_column, RowsStand}
pub use Rattle.office_tables.specs.Known.{IsIn, at_tree}
pub use Rattle.office_tables.specs.Making.{IsIndexing}
pub use Rattle.office_tables.specs.Standing.{Holds, Stands}
pub use Rattle.office_tables.specs.Schema.{OfficeTable, StandFor}
pub use Rattle.office_tables.proofs.Cells.{cast_null, cast_int, cast_perhaps, cast_words, texts_equal, equal_texts, numbers_equal, equal_numbers, both_true, one_true, first_true, only_true, text_tested, number_tested, three_tested, numbers_cmp, and_true, then_equal, pair_then, both_equal, same_number_is, text_above}
pub use Rattle.office_tables.proofs.Keyed.{indexed, numbered}
unfoldable pub use Rattle.office_tables.proofs.Meanings.{parsed_in}
pub use Rattle.office_tables.proofs.Meanings.{StatementMeans, IsOne}
pub use Rattle.office_tables.proofs.LoweredColumns.{parameter_counts}
pub use Rattle.office_tables.proofs.Simple.{equals_e, above_e, both_e, count_e, names_of, outputs_of, Has, no_test, one_test, two_tests, three_tests, above_test, out_parameter}
pub use Rattle.office_tables.proofs.Selecting.{select, capped_select, columns_of, left, IsSelect, IsCapped, selects_mean, capped_selects_mean, found_by_tree}
pub use Rattle.office_tables.proofs.Asking.{gets, lists, pages, shows_rows, filter-all}
unfoldable pub use Rattle.office_tables.proofs.Upserts.{columns_in, rows_in, clause_in}
pub use Rattle.office_tables.proofs.Upserts.{Shape, behind_rowid, at_rowid}
pub use Rattle.office_tables.proofs.Writes.{IsStored, with_rows}
pub use Rattle.office_tables.proofs.CreateTexts.{ReadsTable, ReadsIndex, creates_it, indexes_it}
pub use Rattle.office_tables.proofs.Deletes.{IsDelete, delete_means}
use Rattle.office_tables.proofs.Names.{length, InsertOr, Abort, Values, accepts_program, Put, Form, IsCreate, table_of, create_of}
use Rattle.office_tables.proofs.Keyed.{HasKey}
use Rattle.office_tables.proofs.Upserts.{IsUpsert, InsertsRows, NamesKey, Updates, updating, on_conflict, upserts_mean}
use Rattle.office_tables.proofs.Writes.{IsBare}

-- the table's text creates it, it has a key and no foreign keys, and its name finds it
pub record IsOfficeTable (k : OfficeTable) : Type 0 where
  pub bare : IsBare (table_of k)
  pub named : same_name (table_of k).name (table_of k).name ≡ true
  pub created : IsCreate (create_of k) (table_of k)

-- the parts that the grammar finds in the text that puts a record
pub record IsPutText (k : OfficeTable) (s : Shape) (text : List ℕ) : Type 0 where
  pub read : IsUpsert text (table_of k).name
  pub unstamped : (table_of k).stamps.formats ≡ []
  pub rows : (schema : Schema) (n : ℕ) → InsertsRows schema (at_tree (table_of k) n) text (Values s.terms (length s.terms))
  pub names : (n : ℕ) → NamesKey (at_tree (table_of k) n) text
  pub update : (schema : Schema) (at n : ℕ) → Updates schema at (at_tree (table_of k) n) text s.base s.cells
  pub one : IsOne text s.base

-- the text puts a record of this form into the table
pub record IsPutOf (k : OfficeTable) {K X : Type 0} (f : Form K X) (s : Shape) (text : List ℕ) : Type 0 where
  pub stored : IsStored k f s
  pub reads : IsPutText k s text
  pub key : HasKey (table_of k)
  pub accepted : (schema : Schema) (n : ℕ) → IsIn schema (table_of k) n → accepts_program schema [] (updating n s.base s.cells) [] ≡ true

-- in every schema that has the table, the text means this put
pub put_means : {k : OfficeTable} {K X : Type 0} {f : Form K X} {s : Shape} {text : List ℕ} → IsPutOf k f s text → (schema : Schema) (n : ℕ) (it : IsIn schema (table_of k) n)
    → StatementMeans schema text (InsertOr it.place Abort (Values s.terms (length s.terms)) (on_conflict (at_tree (table_of k) n) s.base s.cells ∷ []))
put_means {k} {s} {text} of schema n it =
    upserts_mean schema text (table_of k) n it of.reads.read of.reads.unstamped of.key _ (of.reads.rows schema n) (of.reads.names n) s.base s.cells (of.reads.update schema it.place n)
    (of.accepted schema n it)

-- If the rows hold a content and one table changes as the put says, all rows hold the content after the put.
abbrev pub StaysBeside : OfficeTable → {K X : Type 0} → Form K X → Put → X → (Tables → List X) → Type 0
StaysBeside k f p x part =
    (t : Tables) (rows : OfficeTable → List Row) (changed : List Row) → Stands rows t → RowsStand f changed (row_put f.cmp f.key (part t) x) → Stands (with_rows rows k changed) (after_put p t)
