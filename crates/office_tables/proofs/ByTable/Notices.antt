-- Notices: what is shown of their table, of the text that puts one, and of each question.
use Rattle.office_tables.proofs.TableTools.{◌≡◌, inl, ◌∷◌, [], List, ℕ, pos, None, Some, codes, refl, ap, ◌∙◌, true, map, slice_get, drop, option_map, range_with_len, is_lt, nat_list_cmp_total, Int, Text, Binary, first_key, Row, value_cmp-Text, col, op2, Compare, Gt, same_name, Schema, Select, alone, chosen, first_found, max_budget, first, everything, State, Shown, id_cmp, same_id, Tables, ids_exact, same_id_is, text_column, IsIn, at_tree, RowsStand, Holds, cast_null, cast_int, cast_perhaps, texts_equal, equal_texts, one_true, only_true, text_tested, and_true, then_equal, text_above, indexed, StatementMeans, parsed_in, parameter_counts, equals_e, above_e, count_e, names_of, outputs_of, Has, no_test, one_test, above_test, out_parameter, select, capped_select, columns_of, left, IsSelect, IsCapped, selects_mean, capped_selects_mean, found_by_tree, gets, lists, pages, filter-all, Shape, behind_rowid, columns_in, rows_in, clause_in, IsStored, ReadsTable, creates_it, IsOfficeTable, IsPutText, IsPutOf, StaysBeside}
use Rattle.office_base.specs.declared.puts.Put.TheVariants as put
use Rattle.office_tables.proofs.Names.{NoticeRow, notice_at, is_after, notices_after, create_notices, notices, upsert_notices, notice_values, notice_read, notice_form, create_former_notices, former_notices, former_read, former_form, Notices, FormerNotices}

-- ---- the table

create_read : ReadsTable create_notices notices (parsed_in (first create_notices))
unfolding everything parsed_in
create_read = record { def = _; is = refl; statement = refl; formats = refl; plainly = refl; defined = refl; whole = refl; covers = refl }

pub notices_made : IsOfficeTable Notices
unfolding same_name
notices_made = record { bare = record { childless = refl; key = indexed refl refl refl refl refl; uncounted = refl }; named = refl; created = creates_it create_notices notices (parsed_in (first create_notices)) create_read }

former_create_read : ReadsTable create_former_notices former_notices (parsed_in (first create_former_notices))
unfolding everything parsed_in
former_create_read = record { def = _; is = refl; statement = refl; formats = refl; plainly = refl; defined = refl; whole = refl; covers = refl }

pub former_notices_made : IsOfficeTable FormerNotices
unfolding same_name
former_notices_made = record { bare = record { childless = refl; key = indexed refl refl refl refl refl; uncounted = refl }; named = refl; created = creates_it create_former_notices former_notices (parsed_in (first create_former_notices)) former_create_read }

-- its columns have their names
has : (n : ℕ) → Has (at_tree notices n) max_budget (columns_of notices)
unfolding same_name
has n = (refl, refl, refl, (refl, refl, refl, (refl, refl, refl, (refl, refl, refl, (refl, refl, refl, (refl, refl, refl, (refl, refl, refl, (refl, refl, refl, (refl, refl, refl, (refl, refl, refl, (refl, refl, refl, (refl, refl, refl, tt))))))))))))

-- ---- its put

abbrev pub notice_shape : Shape
notice_shape = behind_rowid 12 1

notice_stored : IsStored Notices notice_form notice_shape
unfolding first_key
notice_stored = record {
  total = nat_list_cmp_total;
  exact = ids_exact;
  computes = record { given = λ n x. refl; chosen = λ rows x. refl; numbered = λ m x. refl; kept = λ m x. refl; finds = λ x id more. refl };
  tries = λ n x. rw (cast_null, cast_int (pos x.published), cast_int (pos x.deadline), cast_int (pos x.validity), cast_int (pos x.standstill), cast_int (pos x.weight), cast_perhaps x.opened, cast_int (pos x.amendments), cast_int (pos x.releases), cast_int (pos x.performance));
  stores = λ n m x. rw (cast_int m, cast_int (pos x.published), cast_int (pos x.deadline), cast_int (pos x.validity), cast_int (pos x.standstill), cast_int (pos x.weight), cast_perhaps x.opened, cast_int (pos x.amendments), cast_int (pos x.releases), cast_int (pos x.performance));
  meets = λ u v x y e. one_true _ (texts_equal x.notice y.notice e);
  met = λ u v x y h. equal_texts x.notice y.notice (only_true _ h);
  updates = λ n x y v more e. ap (λ q. v ∷ v ∷ Text q ∷ drop 1 (notice_values x)) e;
}

put_read : IsPutText Notices notice_shape upsert_notices
unfolding everything parsed_in columns_in rows_in clause_in
put_read = record { read = record { is = refl; statement = refl; formats = refl; targeted = refl; changes = refl }; unstamped = refl; one = record { whole = refl; given = refl }; rows = λ schema n. refl; names = λ n. refl; update = λ schema at n. refl }

pub notice_put : IsPutOf Notices notice_form notice_shape upsert_notices
notice_put = record { stored = notice_stored; reads = put_read; key = notices_made.bare.key; accepted = λ schema n it. rw (it.stored, found_by_tree schema notices n it) }

pub after_notice : (x : NoticeRow) → StaysBeside Notices notice_form (put.Notice x) x (λ t. t.notices)
after_notice x t rows changed was stand Notices = stand
after_notice x t rows changed was stand k = was k

-- ---- its questions

former_has : (n : ℕ) → Has (at_tree former_notices n) max_budget (columns_of former_notices)
unfolding same_name
former_has n = (refl, refl, refl, (refl, refl, refl, (refl, refl, refl, (refl, refl, refl, (refl, refl, refl, (refl, refl, refl, (refl, refl, refl, (refl, refl, refl, (refl, refl, refl, (refl, refl, refl, (refl, refl, refl, tt)))))))))))

abbrev pub get_notice : List ℕ
get_notice = codes "SELECT notice, title, published, deadline, validity, standstill, weight, state, opened, amendments, releases, performance FROM notices_2 WHERE notice = ?1"

get_notice_read : IsSelect get_notice (codes "notices_2") (names_of (columns_of notices)) (Some (equals_e (codes "notice") 1)) ([])
unfolding everything parsed_in
get_notice_read = record { is = refl; statement = refl; formats = refl }

pub get_notice_means : (schema : Schema) (n : ℕ) → IsIn schema notices n → StatementMeans schema get_notice (Select (record { lets = []; body = select n (1 ∷ []) (range_with_len 1 12) ([]) }) (names_of (columns_of notices)))
unfolding same_name alone chosen first_found
get_notice_means schema n it =
    selects_mean schema notices n it (columns_of notices) ([]) get_notice (has n) (Some (equals_e (codes "notice") 1)) _ _ _ get_notice_read
    (one_test schema it.place (at_tree notices n) it.found notices.name (outputs_of (at_tree notices n) [] (columns_of notices)) (0, text_column (codes "notice")) 1 (left (columns_of notices)) _ (refl, refl, refl, tt) refl refl (inl (inl refl, refl), refl, refl))
    tt tt (rw (it.stored, found_by_tree schema notices n it))

pub select_get_notice : (old new : State) (rows : List Row) (t : Tables) → Holds old.now t → (k : List ℕ) → Shown get_notice (Text k ∷ []) old new rows → option_map notice_read (slice_get rows 0) ≡ notice_at k t
select_get_notice old new rows t was k h =
    gets notice_form.cmp nat_list_cmp_total ids_exact notice_form.key notice_form.stored notice_form.back notice_form.row notice_form.read (λ v x. refl) old new rows (was.places Notices) t.notices (was.stands Notices) get_notice (Text k ∷ []) (1 ∷ []) (range_with_len 1 12) ([]) _ (get_notice_means old.now.schema (was.places Notices) (was.tables Notices)) (λ (x : NoticeRow). same_id x.notice k) (λ v x. and_true _ ∙ text_tested x.notice k)
    k (λ x. same_id_is x.notice k) (λ v x. refl) (λ a b. refl) h

abbrev pub list_first_notices : List ℕ
list_first_notices = codes "SELECT notice, title, published, deadline, validity, standstill, weight, state, opened, amendments, releases, performance FROM notices_2 ORDER BY notice LIMIT ?1"

list_first_notices_read : IsCapped list_first_notices (codes "notices_2") (names_of (columns_of notices)) None (codes "notice" ∷ []) (Some (count_e 1))
unfolding everything parsed_in
list_first_notices_read = record { is = refl; statement = refl; formats = refl }

pub list_first_notices_means : (schema : Schema) (n : ℕ) → IsIn schema notices n → StatementMeans schema list_first_notices (Select (record { lets = []; body = capped_select n [] (range_with_len 1 12) (1 ∷ []) (col 0 0) }) (names_of (columns_of notices)))
unfolding same_name alone chosen first_found
list_first_notices_means schema n it =
    capped_selects_mean schema notices n it (columns_of notices) ((0, text_column (codes "notice")) ∷ []) list_first_notices (has n) None _ _ _ (Some (count_e 1)) (col 0 0) list_first_notices_read
    (no_test schema it.place (at_tree notices n) it.found notices.name (outputs_of (at_tree notices n) [] (columns_of notices)) (left (columns_of notices)) _)
    (refl, refl, refl, tt) (refl, tt) (rw (it.stored, found_by_tree schema notices n it)) (parameter_counts schema _ (count_e 1) 1 (out_parameter 1))

pub select_list_first_notices : (old new : State) (rows : List Row) (t : Tables) → Holds old.now t → (most : ℕ) → Shown list_first_notices (Int (pos most) ∷ []) old new rows → map notice_read rows ≡ notices_after None most t
select_list_first_notices old new rows t was most h =
    pages notice_form.cmp nat_list_cmp_total ids_exact notice_form.key notice_form.stored notice_form.back notice_form.row notice_form.read (λ v x. refl) old new rows (was.places Notices) t.notices (was.stands Notices) list_first_notices (Int (pos most) ∷ []) ([]) (range_with_len 1 12) (1 ∷ []) (col 0 0) _ (list_first_notices_means old.now.schema (was.places Notices) (was.tables Notices)) (λ (x : NoticeRow). is_after id_cmp None x.notice) (λ v x. refl) most refl
    (λ (x : NoticeRow). Text x.notice ∷ []) (λ v x. refl) (λ x y. then_equal _ ∙ ap is_lt (value_cmp-Text x.notice y.notice)) h

abbrev pub list_notices_above : List ℕ
list_notices_above = codes "SELECT notice, title, published, deadline, validity, standstill, weight, state, opened, amendments, releases, performance FROM notices_2 WHERE notice > ?1 ORDER BY notice LIMIT ?2"

list_notices_above_read : IsCapped list_notices_above (codes "notices_2") (names_of (columns_of notices)) (Some (above_e (codes "notice") 1)) (codes "notice" ∷ []) (Some (count_e 2))
unfolding everything parsed_in
list_notices_above_read = record { is = refl; statement = refl; formats = refl }

pub list_notices_above_means : (schema : Schema) (n : ℕ) → IsIn schema notices n → StatementMeans schema list_notices_above (Select (record { lets = []; body = capped_select n (op2 (Compare Gt Binary) (col 1 1) (col 0 0) ∷ []) (range_with_len 1 12) (1 ∷ []) (col 0 1) }) (names_of (columns_of notices)))
unfolding same_name alone chosen first_found
list_notices_above_means schema n it =
    capped_selects_mean schema notices n it (columns_of notices) ((0, text_column (codes "notice")) ∷ []) list_notices_above (has n) (Some (above_e (codes "notice") 1)) _ _ _ (Some (count_e 2)) (col 0 1) list_notices_above_read
    (above_test schema it.place (at_tree notices n) it.found notices.name (outputs_of (at_tree notices n) [] (columns_of notices)) (0, text_column (codes "notice")) 1 (left (columns_of notices)) _ (refl, refl, refl, tt) refl refl (inl (inl refl, refl), refl, refl))
    (refl, refl, refl, tt) (refl, tt) (rw (it.stored, found_by_tree schema notices n it)) (parameter_counts schema _ (count_e 2) 2 (out_parameter 2))

pub select_list_notices_above : (old new : State) (rows : List Row) (t : Tables) → Holds old.now t → (k : List ℕ) (most : ℕ) → Shown list_notices_above (Text k ∷ Int (pos most) ∷ []) old new rows → map notice_read rows ≡ notices_after (Some k) most t
select_list_notices_above old new rows t was k most h =
    pages notice_form.cmp nat_list_cmp_total ids_exact notice_form.key notice_form.stored notice_form.back notice_form.row notice_form.read (λ v x. refl) old new rows (was.places Notices) t.notices (was.stands Notices) list_notices_above (Text k ∷ Int (pos most) ∷ []) (op2 (Compare Gt Binary) (col 1 1) (col 0 0) ∷ []) (range_with_len 1 12) (1 ∷ []) (col 0 1) _ (list_notices_above_means old.now.schema (was.places Notices) (was.tables Notices)) (λ (x : NoticeRow). is_after id_cmp (Some k) x.notice) (λ v x. and_true _ ∙ text_above x.notice k) most refl
    (λ (x : NoticeRow). Text x.notice ∷ []) (λ v x. refl) (λ x y. then_equal _ ∙ ap is_lt (value_cmp-Text x.notice y.notice)) h

abbrev pub list_former : List ℕ
list_former = codes "SELECT notice, title, published, deadline, validity, standstill, weight, state, opened, amendments, releases FROM notices ORDER BY notice"

list_former_read : IsSelect list_former (codes "notices") (names_of (columns_of former_notices)) None (codes "notice" ∷ [])
unfolding everything parsed_in
list_former_read = record { is = refl; statement = refl; formats = refl }

pub list_former_means : (schema : Schema) (n : ℕ) → IsIn schema former_notices n → StatementMeans schema list_former (Select (record { lets = []; body = select n ([]) (range_with_len 1 11) (1 ∷ []) }) (names_of (columns_of former_notices)))
unfolding same_name alone chosen first_found
list_former_means schema n it =
    selects_mean schema former_notices n it (columns_of former_notices) ((0, text_column (codes "notice")) ∷ []) list_former (former_has n) None _ _ _ list_former_read
    (no_test schema it.place (at_tree former_notices n) it.found former_notices.name (outputs_of (at_tree former_notices n) [] (columns_of former_notices)) (left (columns_of former_notices)) _)
    (refl, refl, refl, tt) (refl, tt) (rw (it.stored, found_by_tree schema former_notices n it))

pub select_list_former : (old new : State) (rows : List Row) (place : ℕ) (table : IsIn old.now.schema former_notices place) (xs : List NoticeRow) → RowsStand former_form (old.now.trees place) xs → Shown list_former ([]) old new rows → map former_read rows ≡ xs
select_list_former old new rows place table xs stand h =
    lists former_form.cmp nat_list_cmp_total ids_exact former_form.key former_form.stored former_form.back former_form.row former_form.read (λ v x. refl) old new rows place xs stand list_former ([]) ([]) (range_with_len 1 11) (1 ∷ []) _ (list_former_means old.now.schema place table) (λ (x : NoticeRow). true) (λ v x. refl)
    (λ (x : NoticeRow). Text x.notice ∷ []) (λ v x. refl) (λ x y. then_equal _ ∙ ap is_lt (value_cmp-Text x.notice y.notice)) h ∙ filter-all xs
