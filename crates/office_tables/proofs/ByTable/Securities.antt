-- Tender securities: what is shown of their table, of the text that puts one, and of each question.
use Rattle.office_tables.proofs.TableTools.{◌≡◌, inl, inr, ◌&&◌, ◌∷◌, [], List, ℕ, pos, Some, codes, refl, ap, ap₂, ◌∙◌, map, slice_get, drop, option_map, range_with_len, is_lt, nat_cmp_total, numbers_exact, Null, Int, Text, first_key, Row, same_name, Schema, Select, alone, chosen, first_found, max_budget, first, everything, listing_schema, State, Shown, same_id, Tables, same_number, text_column, number_column, IsIn, at_tree, IsIndexing, Holds, cast_null, cast_int, numbers_equal, equal_numbers, one_true, only_true, text_tested, number_tested, numbers_cmp, and_true, then_equal, same_number_is, numbered, StatementMeans, parsed_in, equals_e, both_e, names_of, outputs_of, Has, one_test, two_tests, select, columns_of, left, IsSelect, selects_mean, found_by_tree, gets, lists, Shape, at_rowid, columns_in, rows_in, clause_in, IsStored, ReadsTable, ReadsIndex, creates_it, indexes_it, IsOfficeTable, IsPutText, IsPutOf, StaysBeside}
use Rattle.office_base.specs.declared.puts.Put.TheVariants as put
use Rattle.office_tables.proofs.Names.{SecurityRow, security_at, securities_of_lot, create_securities, securities, create_securities_of_notice, upsert_securities, security_values, security_read, security_form, Securities}
use Rattle.office_base.specs.Tables.{securities_of_notice}
use Rattle.office_tables.specs.Tables.Securities.{securities_of_notice as securities_of_notice_index}

-- ---- the table

create_read : ReadsTable create_securities securities (parsed_in (first create_securities))
unfolding everything parsed_in
create_read = record { def = _; is = refl; statement = refl; formats = refl; plainly = refl; defined = refl; whole = refl; covers = refl }

pub securities_made : IsOfficeTable Securities
unfolding same_name
securities_made = record { bare = record { childless = refl; key = numbered refl refl refl; uncounted = refl }; named = refl; created = creates_it create_securities securities (parsed_in (first create_securities)) create_read }

index_read : ReadsIndex create_securities_of_notice securities securities_of_notice_index (parsed_in (first create_securities_of_notice))
unfolding everything parsed_in listing_schema
index_read = record { def = _; is = refl; statement = refl; formats = refl; plainly = refl; table_is = refl; defined = λ n. refl; covers = refl; unlisted = refl }

pub indexes_securities_of_notice : IsIndexing create_securities_of_notice securities securities_of_notice_index
indexes_securities_of_notice = indexes_it create_securities_of_notice securities securities_of_notice_index (parsed_in (first create_securities_of_notice)) index_read

-- its columns have their names
has : (n : ℕ) → Has (at_tree securities n) max_budget (columns_of securities)
unfolding same_name
has n = (refl, refl, refl, (refl, refl, refl, (refl, refl, refl, (refl, refl, refl, (refl, refl, refl, (refl, refl, refl, (refl, refl, refl, tt)))))))

-- ---- its put

abbrev pub security_shape : Shape
security_shape = at_rowid 7

security_stored : IsStored Securities security_form security_shape
unfolding first_key
security_stored = record {
  total = nat_cmp_total;
  exact = numbers_exact;
  computes = record { given = λ n x. refl; chosen = λ rows x. refl; numbered = λ m x. refl; kept = λ m x. refl; finds = λ x id more. refl };
  tries = λ n x. rw (cast_null, cast_int (pos x.security), cast_int (pos x.amount));
  stores = λ n m x. rw (cast_null, cast_int (pos x.security), cast_int (pos x.amount));
  meets = λ u v x y e. one_true _ (numbers_equal x.security y.security e);
  met = λ u v x y h. equal_numbers x.security y.security (only_true _ h);
  updates = λ n x y v more e. ap (λ q. Int (pos y.security) ∷ Int (pos q) ∷ Null ∷ drop 1 (security_values x)) e;
}

put_read : IsPutText Securities security_shape upsert_securities
unfolding everything parsed_in columns_in rows_in clause_in
put_read = record { read = record { is = refl; statement = refl; formats = refl; targeted = refl; changes = refl }; unstamped = refl; one = record { whole = refl; given = refl }; rows = λ schema n. refl; names = λ n. refl; update = λ schema at n. refl }

pub security_put : IsPutOf Securities security_form security_shape upsert_securities
security_put = record { stored = security_stored; reads = put_read; key = securities_made.bare.key; accepted = λ schema n it. rw (it.stored, found_by_tree schema securities n it) }

pub after_security : (x : SecurityRow) → StaysBeside Securities security_form (put.Security x) x (λ t. t.securities)
after_security x t rows changed was stand Securities = stand
after_security x t rows changed was stand k = was k

-- ---- its questions

abbrev pub get_security : List ℕ
get_security = codes "SELECT security, tenderer, notice, lot, reference, amount, state FROM securities WHERE security = ?1"

get_security_read : IsSelect get_security (codes "securities") (names_of (columns_of securities)) (Some (equals_e (codes "security") 1)) ([])
unfolding everything parsed_in
get_security_read = record { is = refl; statement = refl; formats = refl }

pub get_security_means : (schema : Schema) (n : ℕ) → IsIn schema securities n → StatementMeans schema get_security (Select (record { lets = []; body = select n (0 ∷ []) (0 ∷ range_with_len 2 6) ([]) }) (names_of (columns_of securities)))
unfolding same_name alone chosen first_found
get_security_means schema n it =
    selects_mean schema securities n it (columns_of securities) ([]) get_security (has n) (Some (equals_e (codes "security") 1)) _ _ _ get_security_read
    (one_test schema it.place (at_tree securities n) it.found securities.name (outputs_of (at_tree securities n) [] (columns_of securities)) (0, number_column (codes "security")) 1 (left (columns_of securities)) _ (refl, refl, refl, tt) refl refl (inr refl, refl, refl))
    tt tt (rw (it.stored, found_by_tree schema securities n it))

pub select_get_security : (old new : State) (rows : List Row) (t : Tables) → Holds old.now t → (k : ℕ) → Shown get_security (Int (pos k) ∷ []) old new rows → option_map security_read (slice_get rows 0) ≡ security_at k t
select_get_security old new rows t was k h =
    gets security_form.cmp nat_cmp_total numbers_exact security_form.key security_form.stored security_form.back security_form.row security_form.read (λ v x. refl) old new rows (was.places Securities) t.securities (was.stands Securities) get_security (Int (pos k) ∷ []) (0 ∷ []) (0 ∷ range_with_len 2 6) ([]) _ (get_security_means old.now.schema (was.places Securities) (was.tables Securities)) (λ (x : SecurityRow). same_number x.security k) (λ v x. and_true _ ∙ number_tested x.security k)
    k (λ x. same_number_is x.security k) (λ v x. refl) (λ a b. refl) h

abbrev pub list_securities_of_notice : List ℕ
list_securities_of_notice = codes "SELECT security, tenderer, notice, lot, reference, amount, state FROM securities WHERE notice = ?1 ORDER BY security"

list_securities_of_notice_read : IsSelect list_securities_of_notice (codes "securities") (names_of (columns_of securities)) (Some (equals_e (codes "notice") 1)) (codes "security" ∷ [])
unfolding everything parsed_in
list_securities_of_notice_read = record { is = refl; statement = refl; formats = refl }

pub list_securities_of_notice_means : (schema : Schema) (n : ℕ) → IsIn schema securities n → StatementMeans schema list_securities_of_notice (Select (record { lets = []; body = select n (3 ∷ []) (0 ∷ range_with_len 2 6) (0 ∷ []) }) (names_of (columns_of securities)))
unfolding same_name alone chosen first_found
list_securities_of_notice_means schema n it =
    selects_mean schema securities n it (columns_of securities) ((0, number_column (codes "security")) ∷ []) list_securities_of_notice (has n) (Some (equals_e (codes "notice") 1)) _ _ _ list_securities_of_notice_read
    (one_test schema it.place (at_tree securities n) it.found securities.name (outputs_of (at_tree securities n) [] (columns_of securities)) (2, text_column (codes "notice")) 1 (left (columns_of securities)) _ (refl, refl, refl, tt) refl refl (inl (inl refl, refl), refl, refl))
    (refl, refl, refl, tt) (refl, tt) (rw (it.stored, found_by_tree schema securities n it))

pub select_list_securities_of_notice : (old new : State) (rows : List Row) (t : Tables) → Holds old.now t → (k : List ℕ) → Shown list_securities_of_notice (Text k ∷ []) old new rows → map security_read rows ≡ securities_of_notice k t
select_list_securities_of_notice old new rows t was k h =
    lists security_form.cmp nat_cmp_total numbers_exact security_form.key security_form.stored security_form.back security_form.row security_form.read (λ v x. refl) old new rows (was.places Securities) t.securities (was.stands Securities) list_securities_of_notice (Text k ∷ []) (3 ∷ []) (0 ∷ range_with_len 2 6) (0 ∷ []) _ (list_securities_of_notice_means old.now.schema (was.places Securities) (was.tables Securities)) (λ (x : SecurityRow). same_id x.notice k) (λ v x. and_true _ ∙ text_tested x.notice k)
    (λ (x : SecurityRow). Int (pos x.security) ∷ []) (λ v x. refl) (λ x y. then_equal _ ∙ ap is_lt (numbers_cmp x.security y.security)) h

abbrev pub list_securities_of_lot : List ℕ
list_securities_of_lot = codes "SELECT security, tenderer, notice, lot, reference, amount, state FROM securities WHERE notice = ?1 AND lot = ?2 ORDER BY security"

list_securities_of_lot_read : IsSelect list_securities_of_lot (codes "securities") (names_of (columns_of securities)) (Some (both_e (equals_e (codes "notice") 1) (equals_e (codes "lot") 2))) (codes "security" ∷ [])
unfolding everything parsed_in
list_securities_of_lot_read = record { is = refl; statement = refl; formats = refl }

pub list_securities_of_lot_means : (schema : Schema) (n : ℕ) → IsIn schema securities n → StatementMeans schema list_securities_of_lot (Select (record { lets = []; body = select n (3 ∷ 4 ∷ []) (0 ∷ range_with_len 2 6) (0 ∷ []) }) (names_of (columns_of securities)))
unfolding same_name alone chosen first_found
list_securities_of_lot_means schema n it =
    selects_mean schema securities n it (columns_of securities) ((0, number_column (codes "security")) ∷ []) list_securities_of_lot (has n) (Some (both_e (equals_e (codes "notice") 1) (equals_e (codes "lot") 2))) _ _ _ list_securities_of_lot_read
    (two_tests schema it.place (at_tree securities n) it.found securities.name (outputs_of (at_tree securities n) [] (columns_of securities)) (2, text_column (codes "notice")) (3, text_column (codes "lot")) 1 2 (left (columns_of securities)) _ refl
    (refl, refl, refl, tt) refl refl (inl (inl refl, refl), refl, refl) (refl, refl, refl, tt) refl refl (inl (inl refl, refl), refl, refl))
    (refl, refl, refl, tt) (refl, tt) (rw (it.stored, found_by_tree schema securities n it))

pub select_list_securities_of_lot : (old new : State) (rows : List Row) (t : Tables) → Holds old.now t → (k l : List ℕ) → Shown list_securities_of_lot (Text k ∷ Text l ∷ []) old new rows → map security_read rows ≡ securities_of_lot k l t
select_list_securities_of_lot old new rows t was k l h =
    lists security_form.cmp nat_cmp_total numbers_exact security_form.key security_form.stored security_form.back security_form.row security_form.read (λ v x. refl) old new rows (was.places Securities) t.securities (was.stands Securities) list_securities_of_lot (Text k ∷ Text l ∷ []) (3 ∷ 4 ∷ []) (0 ∷ range_with_len 2 6) (0 ∷ []) _ (list_securities_of_lot_means old.now.schema (was.places Securities) (was.tables Securities)) (λ (x : SecurityRow). same_id x.notice k && same_id x.lot l) (λ v x. ap₂ (λ c d. c && d) (text_tested x.notice k) (and_true _ ∙ text_tested x.lot l))
    (λ (x : SecurityRow). Int (pos x.security) ∷ []) (λ v x. refl) (λ x y. then_equal _ ∙ ap is_lt (numbers_cmp x.security y.security)) h
