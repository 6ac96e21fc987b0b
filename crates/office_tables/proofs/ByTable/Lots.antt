-- Lots: what is shown of their table, of the text that puts one, and of each question.
use Rattle.office_tables.proofs.TableTools.{◌≡◌, inl, ◌&&◌, ◌∷◌, [], List, ℕ, pos, Some, codes, refl, ap, ap₂, ◌∙◌, map, slice_get, drop, option_map, range_with_len, Text, first_key, Row, value_cmp-Text, same_name, Schema, Select, alone, chosen, first_found, max_budget, first, everything, listing_schema, State, Shown, id_cmp, same_id, Tables, lots_exact, same_id_is, lots_total, text_column, IsIn, at_tree, IsIndexing, Holds, cast_null, cast_int, texts_equal, equal_texts, both_true, first_true, text_tested, and_true, pair_then, both_equal, indexed, StatementMeans, parsed_in, equals_e, both_e, names_of, outputs_of, Has, one_test, two_tests, select, columns_of, left, IsSelect, selects_mean, found_by_tree, gets, lists, Shape, behind_rowid, columns_in, rows_in, clause_in, IsStored, ReadsTable, ReadsIndex, creates_it, indexes_it, IsOfficeTable, IsPutText, IsPutOf, StaysBeside}
use Rattle.office_base.specs.declared.puts.Put.TheVariants as put
use Rattle.office_tables.proofs.Names.{LotRow, lot_at, lots_of_notice, create_lots, lots, create_lots_of_line, upsert_lots, lot_values, lot_read, lot_form, Lots}
use Rattle.office_base.specs.Tables.{lots_of_line}
use Rattle.office_tables.specs.Tables.Lots.{lots_of_line as lots_of_line_index}

-- ---- the table

create_read : ReadsTable create_lots lots (parsed_in (first create_lots))
unfolding everything parsed_in
create_read = record { def = _; is = refl; statement = refl; formats = refl; plainly = refl; defined = refl; whole = refl; covers = refl }

pub lots_made : IsOfficeTable Lots
unfolding same_name
lots_made = record { bare = record { childless = refl; key = indexed refl refl refl refl refl; uncounted = refl }; named = refl; created = creates_it create_lots lots (parsed_in (first create_lots)) create_read }

index_read : ReadsIndex create_lots_of_line lots lots_of_line_index (parsed_in (first create_lots_of_line))
unfolding everything parsed_in listing_schema
index_read = record { def = _; is = refl; statement = refl; formats = refl; plainly = refl; table_is = refl; defined = λ n. refl; covers = refl; unlisted = refl }

pub indexes_lots_of_line : IsIndexing create_lots_of_line lots lots_of_line_index
indexes_lots_of_line = indexes_it create_lots_of_line lots lots_of_line_index (parsed_in (first create_lots_of_line)) index_read

-- its columns have their names
has : (n : ℕ) → Has (at_tree lots n) max_budget (columns_of lots)
unfolding same_name
has n = (refl, refl, refl, (refl, refl, refl, (refl, refl, refl, (refl, refl, refl, (refl, refl, refl, (refl, refl, refl, (refl, refl, refl, (refl, refl, refl, (refl, refl, refl, tt)))))))))

-- ---- its put

abbrev pub lot_shape : Shape
lot_shape = behind_rowid 9 2

lot_stored : IsStored Lots lot_form lot_shape
unfolding first_key
lot_stored = record {
  total = lots_total;
  exact = lots_exact;
  computes = record { given = λ n x. refl; chosen = λ rows x. refl; numbered = λ m x. refl; kept = λ m x. refl; finds = λ x id more. refl };
  tries = λ n x. rw (cast_null, cast_int (pos x.estimate), cast_int (pos x.security), cast_int (pos x.reserved));
  stores = λ n m x. rw (cast_int m, cast_int (pos x.estimate), cast_int (pos x.security), cast_int (pos x.reserved));
  meets = λ u v x y e. both_true _ _ (texts_equal x.notice y.notice (ap (λ (q : List ℕ × List ℕ). q.0) e)) (texts_equal x.lot y.lot (ap (λ (q : List ℕ × List ℕ). q.1) e));
  met = λ u v x y h. let both = first_true _ _ h in ap₂ (λ a b. (a, b)) (equal_texts x.notice y.notice both.0) (equal_texts x.lot y.lot both.1);
  updates = λ n x y v more e. ap (λ (q : List ℕ × List ℕ). v ∷ v ∷ Text q.0 ∷ Text q.1 ∷ drop 2 (lot_values x)) e;
}

put_read : IsPutText Lots lot_shape upsert_lots
unfolding everything parsed_in columns_in rows_in clause_in
put_read = record { read = record { is = refl; statement = refl; formats = refl; targeted = refl; changes = refl }; unstamped = refl; one = record { whole = refl; given = refl }; rows = λ schema n. refl; names = λ n. refl; update = λ schema at n. refl }

pub lot_put : IsPutOf Lots lot_form lot_shape upsert_lots
lot_put = record { stored = lot_stored; reads = put_read; key = lots_made.bare.key; accepted = λ schema n it. rw (it.stored, found_by_tree schema lots n it) }

pub after_lot : (x : LotRow) → StaysBeside Lots lot_form (put.Lot x) x (λ t. t.lots)
after_lot x t rows changed was stand Lots = stand
after_lot x t rows changed was stand k = was k

-- ---- its questions

abbrev pub get_lot : List ℕ
get_lot = codes "SELECT notice, lot, title, line, estimate, security, items, state, reserved FROM lots WHERE notice = ?1 AND lot = ?2"

get_lot_read : IsSelect get_lot (codes "lots") (names_of (columns_of lots)) (Some (both_e (equals_e (codes "notice") 1) (equals_e (codes "lot") 2))) ([])
unfolding everything parsed_in
get_lot_read = record { is = refl; statement = refl; formats = refl }

pub get_lot_means : (schema : Schema) (n : ℕ) → IsIn schema lots n → StatementMeans schema get_lot (Select (record { lets = []; body = select n (1 ∷ 2 ∷ []) (range_with_len 1 9) ([]) }) (names_of (columns_of lots)))
unfolding same_name alone chosen first_found
get_lot_means schema n it =
    selects_mean schema lots n it (columns_of lots) ([]) get_lot (has n) (Some (both_e (equals_e (codes "notice") 1) (equals_e (codes "lot") 2))) _ _ _ get_lot_read
    (two_tests schema it.place (at_tree lots n) it.found lots.name (outputs_of (at_tree lots n) [] (columns_of lots)) (0, text_column (codes "notice")) (1, text_column (codes "lot")) 1 2 (left (columns_of lots)) _ refl (refl, refl, refl, tt) refl refl (inl (inl refl, refl), refl, refl) (refl, refl, refl, tt) refl refl (inl (inl refl, refl), refl, refl))
    tt tt (rw (it.stored, found_by_tree schema lots n it))

pub select_get_lot : (old new : State) (rows : List Row) (t : Tables) → Holds old.now t → (k : List ℕ) → (l : List ℕ) → Shown get_lot (Text k ∷ Text l ∷ []) old new rows → option_map lot_read (slice_get rows 0) ≡ lot_at (k, l) t
select_get_lot old new rows t was k l h =
    gets lot_form.cmp lots_total lots_exact lot_form.key lot_form.stored lot_form.back lot_form.row lot_form.read (λ v x. refl) old new rows (was.places Lots) t.lots (was.stands Lots) get_lot (Text k ∷ Text l ∷ []) (1 ∷ 2 ∷ []) (range_with_len 1 9) ([]) _ (get_lot_means old.now.schema (was.places Lots) (was.tables Lots)) (λ (x : LotRow). same_id x.notice k && same_id x.lot l) (λ v x. ap₂ (λ c d. c && d) (text_tested x.notice k) (and_true _ ∙ text_tested x.lot l))
    (k, l) (λ x. ap₂ (λ c d. c && d) (same_id_is x.notice k) (same_id_is x.lot l) ∙ both_equal (id_cmp k x.notice) (id_cmp l x.lot)) (λ v x. refl) (λ a b. refl) h

abbrev pub list_lots_of_notice : List ℕ
list_lots_of_notice = codes "SELECT notice, lot, title, line, estimate, security, items, state, reserved FROM lots WHERE notice = ?1 ORDER BY notice, lot"

list_lots_of_notice_read : IsSelect list_lots_of_notice (codes "lots") (names_of (columns_of lots)) (Some (equals_e (codes "notice") 1)) (codes "notice" ∷ codes "lot" ∷ [])
unfolding everything parsed_in
list_lots_of_notice_read = record { is = refl; statement = refl; formats = refl }

pub list_lots_of_notice_means : (schema : Schema) (n : ℕ) → IsIn schema lots n → StatementMeans schema list_lots_of_notice (Select (record { lets = []; body = select n (1 ∷ []) (range_with_len 1 9) (1 ∷ 2 ∷ []) }) (names_of (columns_of lots)))
unfolding same_name alone chosen first_found
list_lots_of_notice_means schema n it =
    selects_mean schema lots n it (columns_of lots) ((0, text_column (codes "notice")) ∷ (1, text_column (codes "lot")) ∷ []) list_lots_of_notice (has n) (Some (equals_e (codes "notice") 1)) _ _ _ list_lots_of_notice_read
    (one_test schema it.place (at_tree lots n) it.found lots.name (outputs_of (at_tree lots n) [] (columns_of lots)) (0, text_column (codes "notice")) 1 (left (columns_of lots)) _ (refl, refl, refl, tt) refl refl (inl (inl refl, refl), refl, refl))
    (refl, refl, refl, (refl, refl, refl, tt)) (refl, (refl, tt)) (rw (it.stored, found_by_tree schema lots n it))

pub select_list_lots_of_notice : (old new : State) (rows : List Row) (t : Tables) → Holds old.now t → (k : List ℕ) → Shown list_lots_of_notice (Text k ∷ []) old new rows → map lot_read rows ≡ lots_of_notice k t
select_list_lots_of_notice old new rows t was k h =
    lists lot_form.cmp lots_total lots_exact lot_form.key lot_form.stored lot_form.back lot_form.row lot_form.read (λ v x. refl) old new rows (was.places Lots) t.lots (was.stands Lots) list_lots_of_notice (Text k ∷ []) (1 ∷ []) (range_with_len 1 9) (1 ∷ 2 ∷ []) _ (list_lots_of_notice_means old.now.schema (was.places Lots) (was.tables Lots)) (λ (x : LotRow). same_id x.notice k) (λ v x. and_true _ ∙ text_tested x.notice k)
    (λ (x : LotRow). Text x.notice ∷ Text x.lot ∷ []) (λ v x. refl) (λ x y. pair_then _ _ _ _ (value_cmp-Text x.notice y.notice) (value_cmp-Text x.lot y.lot)) h

abbrev pub list_lots_of_line : List ℕ
list_lots_of_line = codes "SELECT notice, lot, title, line, estimate, security, items, state, reserved FROM lots WHERE line = ?1 ORDER BY notice, lot"

list_lots_of_line_read : IsSelect list_lots_of_line (codes "lots") (names_of (columns_of lots)) (Some (equals_e (codes "line") 1)) (codes "notice" ∷ codes "lot" ∷ [])
unfolding everything parsed_in
list_lots_of_line_read = record { is = refl; statement = refl; formats = refl }

pub list_lots_of_line_means : (schema : Schema) (n : ℕ) → IsIn schema lots n → StatementMeans schema list_lots_of_line (Select (record { lets = []; body = select n (4 ∷ []) (range_with_len 1 9) (1 ∷ 2 ∷ []) }) (names_of (columns_of lots)))
unfolding same_name alone chosen first_found
list_lots_of_line_means schema n it =
    selects_mean schema lots n it (columns_of lots) ((0, text_column (codes "notice")) ∷ (1, text_column (codes "lot")) ∷ []) list_lots_of_line (has n) (Some (equals_e (codes "line") 1)) _ _ _ list_lots_of_line_read
    (one_test schema it.place (at_tree lots n) it.found lots.name (outputs_of (at_tree lots n) [] (columns_of lots)) (3, text_column (codes "line")) 1 (left (columns_of lots)) _ (refl, refl, refl, tt) refl refl (inl (inl refl, refl), refl, refl))
    (refl, refl, refl, (refl, refl, refl, tt)) (refl, (refl, tt)) (rw (it.stored, found_by_tree schema lots n it))

pub select_list_lots_of_line : (old new : State) (rows : List Row) (t : Tables) → Holds old.now t → (k : List ℕ) → Shown list_lots_of_line (Text k ∷ []) old new rows → map lot_read rows ≡ lots_of_line k t
select_list_lots_of_line old new rows t was k h =
    lists lot_form.cmp lots_total lots_exact lot_form.key lot_form.stored lot_form.back lot_form.row lot_form.read (λ v x. refl) old new rows (was.places Lots) t.lots (was.stands Lots) list_lots_of_line (Text k ∷ []) (4 ∷ []) (range_with_len 1 9) (1 ∷ 2 ∷ []) _ (list_lots_of_line_means old.now.schema (was.places Lots) (was.tables Lots)) (λ (x : LotRow). same_id x.line k) (λ v x. and_true _ ∙ text_tested x.line k)
    (λ (x : LotRow). Text x.notice ∷ Text x.lot ∷ []) (λ v x. refl) (λ x y. pair_then _ _ _ _ (value_cmp-Text x.notice y.notice) (value_cmp-Text x.lot y.lot)) h
