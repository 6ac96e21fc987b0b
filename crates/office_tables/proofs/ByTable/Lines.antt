-- Budget lines: what is shown of their table, of the text that puts one, and of each question.
use Rattle.office_tables.proofs.TableTools.{◌≡◌, inl, ◌∷◌, [], List, ℕ, pos, None, Some, codes, refl, ap, ◌∙◌, true, map, slice_get, drop, option_map, range_with_len, is_lt, nat_list_cmp_total, Text, first_key, Row, value_cmp-Text, same_name, Schema, Select, alone, chosen, first_found, max_budget, first, everything, State, Shown, same_id, Tables, ids_exact, same_id_is, text_column, IsIn, at_tree, Holds, cast_null, cast_int, texts_equal, equal_texts, one_true, only_true, text_tested, and_true, then_equal, indexed, StatementMeans, parsed_in, equals_e, names_of, outputs_of, Has, no_test, one_test, select, columns_of, left, IsSelect, selects_mean, found_by_tree, gets, lists, filter-all, Shape, behind_rowid, columns_in, rows_in, clause_in, IsStored, ReadsTable, creates_it, IsOfficeTable, IsPutText, IsPutOf, StaysBeside}
use Rattle.office_base.specs.declared.puts.Put.TheVariants as put
use Rattle.office_tables.proofs.Names.{LineRow, line_at, create_lines, lines, upsert_lines, line_values, line_read, line_form, Lines}

-- ---- the table

create_read : ReadsTable create_lines lines (parsed_in (first create_lines))
unfolding everything parsed_in
create_read = record { def = _; is = refl; statement = refl; formats = refl; plainly = refl; defined = refl; whole = refl; covers = refl }

pub lines_made : IsOfficeTable Lines
unfolding same_name
lines_made = record { bare = record { childless = refl; key = indexed refl refl refl refl refl; uncounted = refl }; named = refl; created = creates_it create_lines lines (parsed_in (first create_lines)) create_read }

-- its columns have their names
has : (n : ℕ) → Has (at_tree lines n) max_budget (columns_of lines)
unfolding same_name
has n = (refl, refl, refl, (refl, refl, refl, (refl, refl, refl, (refl, refl, refl, tt))))

-- ---- its put

abbrev pub line_shape : Shape
line_shape = behind_rowid 4 1

line_stored : IsStored Lines line_form line_shape
unfolding first_key
line_stored = record {
  total = nat_list_cmp_total;
  exact = ids_exact;
  computes = record { given = λ n x. refl; chosen = λ rows x. refl; numbered = λ m x. refl; kept = λ m x. refl; finds = λ x id more. refl };
  tries = λ n x. rw (cast_null, cast_int (pos x.appropriation), cast_int (pos x.free));
  stores = λ n m x. rw (cast_int m, cast_int (pos x.appropriation), cast_int (pos x.free));
  meets = λ u v x y e. one_true _ (texts_equal x.line y.line e);
  met = λ u v x y h. equal_texts x.line y.line (only_true _ h);
  updates = λ n x y v more e. ap (λ q. v ∷ v ∷ Text q ∷ drop 1 (line_values x)) e;
}

put_read : IsPutText Lines line_shape upsert_lines
unfolding everything parsed_in columns_in rows_in clause_in
put_read = record { read = record { is = refl; statement = refl; formats = refl; targeted = refl; changes = refl }; unstamped = refl; one = record { whole = refl; given = refl }; rows = λ schema n. refl; names = λ n. refl; update = λ schema at n. refl }

pub line_put : IsPutOf Lines line_form line_shape upsert_lines
line_put = record { stored = line_stored; reads = put_read; key = lines_made.bare.key; accepted = λ schema n it. rw (it.stored, found_by_tree schema lines n it) }

pub after_line : (x : LineRow) → StaysBeside Lines line_form (put.Line x) x (λ t. t.lines)
after_line x t rows changed was stand Lines = stand
after_line x t rows changed was stand k = was k

-- ---- its questions

abbrev pub get_line : List ℕ
get_line = codes "SELECT line, title, appropriation, free FROM lines WHERE line = ?1"

get_line_read : IsSelect get_line (codes "lines") (names_of (columns_of lines)) (Some (equals_e (codes "line") 1)) ([])
unfolding everything parsed_in
get_line_read = record { is = refl; statement = refl; formats = refl }

pub get_line_means : (schema : Schema) (n : ℕ) → IsIn schema lines n → StatementMeans schema get_line (Select (record { lets = []; body = select n (1 ∷ []) (range_with_len 1 4) ([]) }) (names_of (columns_of lines)))
unfolding same_name alone chosen first_found
get_line_means schema n it =
    selects_mean schema lines n it (columns_of lines) ([]) get_line (has n) (Some (equals_e (codes "line") 1)) _ _ _ get_line_read
    (one_test schema it.place (at_tree lines n) it.found lines.name (outputs_of (at_tree lines n) [] (columns_of lines)) (0, text_column (codes "line")) 1 (left (columns_of lines)) _ (refl, refl, refl, tt) refl refl (inl (inl refl, refl), refl, refl))
    tt tt (rw (it.stored, found_by_tree schema lines n it))

pub select_get_line : (old new : State) (rows : List Row) (t : Tables) → Holds old.now t → (k : List ℕ) → Shown get_line (Text k ∷ []) old new rows → option_map line_read (slice_get rows 0) ≡ line_at k t
select_get_line old new rows t was k h =
    gets line_form.cmp nat_list_cmp_total ids_exact line_form.key line_form.stored line_form.back line_form.row line_form.read (λ v x. refl) old new rows (was.places Lines) t.lines (was.stands Lines) get_line (Text k ∷ []) (1 ∷ []) (range_with_len 1 4) ([]) _ (get_line_means old.now.schema (was.places Lines) (was.tables Lines)) (λ (x : LineRow). same_id x.line k) (λ v x. and_true _ ∙ text_tested x.line k)
    k (λ x. same_id_is x.line k) (λ v x. refl) (λ a b. refl) h

abbrev pub list_lines : List ℕ
list_lines = codes "SELECT line, title, appropriation, free FROM lines ORDER BY line"

list_lines_read : IsSelect list_lines (codes "lines") (names_of (columns_of lines)) None (codes "line" ∷ [])
unfolding everything parsed_in
list_lines_read = record { is = refl; statement = refl; formats = refl }

pub list_lines_means : (schema : Schema) (n : ℕ) → IsIn schema lines n → StatementMeans schema list_lines (Select (record { lets = []; body = select n ([]) (range_with_len 1 4) (1 ∷ []) }) (names_of (columns_of lines)))
unfolding same_name alone chosen first_found
list_lines_means schema n it =
    selects_mean schema lines n it (columns_of lines) ((0, text_column (codes "line")) ∷ []) list_lines (has n) None _ _ _ list_lines_read
    (no_test schema it.place (at_tree lines n) it.found lines.name (outputs_of (at_tree lines n) [] (columns_of lines)) (left (columns_of lines)) _)
    (refl, refl, refl, tt) (refl, tt) (rw (it.stored, found_by_tree schema lines n it))

pub select_list_lines : (old new : State) (rows : List Row) (t : Tables) → Holds old.now t → Shown list_lines ([]) old new rows → map line_read rows ≡ t.lines
select_list_lines old new rows t was h =
    lists line_form.cmp nat_list_cmp_total ids_exact line_form.key line_form.stored line_form.back line_form.row line_form.read (λ v x. refl) old new rows (was.places Lines) t.lines (was.stands Lines) list_lines ([]) ([]) (range_with_len 1 4) (1 ∷ []) _ (list_lines_means old.now.schema (was.places Lines) (was.tables Lines)) (λ (x : LineRow). true) (λ v x. refl)
    (λ (x : LineRow). Text x.line ∷ []) (λ v x. refl) (λ x y. then_equal _ ∙ ap is_lt (value_cmp-Text x.line y.line)) h ∙ filter-all t.lines
