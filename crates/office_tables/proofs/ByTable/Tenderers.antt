-- Tenderers: what is shown of their table, of the text that puts one, and of each question.
use Rattle.office_tables.proofs.TableTools.{◌≡◌, inl, ◌∷◌, [], List, ℕ, pos, None, Some, codes, refl, ap, ◌∙◌, map, slice_get, drop, option_map, range_with_len, is_lt, nat_list_cmp_total, Int, Text, Binary, first_key, Row, value_cmp-Text, col, op2, Compare, Gt, same_name, Schema, Select, alone, chosen, first_found, max_budget, first, everything, State, Shown, id_cmp, same_id, Tables, ids_exact, same_id_is, text_column, IsIn, at_tree, Holds, cast_null, cast_int, texts_equal, equal_texts, one_true, only_true, text_tested, and_true, then_equal, text_above, indexed, StatementMeans, parsed_in, parameter_counts, equals_e, above_e, count_e, names_of, outputs_of, Has, no_test, one_test, above_test, out_parameter, select, capped_select, columns_of, left, IsSelect, IsCapped, selects_mean, capped_selects_mean, found_by_tree, gets, pages, Shape, behind_rowid, columns_in, rows_in, clause_in, IsStored, ReadsTable, creates_it, IsOfficeTable, IsPutText, IsPutOf, StaysBeside}
use Rattle.office_base.specs.declared.puts.Put.TheVariants as put
use Rattle.office_tables.proofs.Names.{TendererRow, tenderer_at, is_after, tenderers_after, create_tenderers, tenderers, upsert_tenderers, tenderer_values, tenderer_read, tenderer_form, Tenderers}

-- ---- the table

create_read : ReadsTable create_tenderers tenderers (parsed_in (first create_tenderers))
unfolding everything parsed_in
create_read = record { def = _; is = refl; statement = refl; formats = refl; plainly = refl; defined = refl; whole = refl; covers = refl }

pub tenderers_made : IsOfficeTable Tenderers
unfolding same_name
tenderers_made = record { bare = record { childless = refl; key = indexed refl refl refl refl refl; uncounted = refl }; named = refl; created = creates_it create_tenderers tenderers (parsed_in (first create_tenderers)) create_read }

-- its columns have their names
has : (n : ℕ) → Has (at_tree tenderers n) max_budget (columns_of tenderers)
unfolding same_name
has n = (refl, refl, refl, (refl, refl, refl, (refl, refl, refl, (refl, refl, refl, tt))))

-- ---- its put

abbrev pub tenderer_shape : Shape
tenderer_shape = behind_rowid 4 1

tenderer_stored : IsStored Tenderers tenderer_form tenderer_shape
unfolding first_key
tenderer_stored = record {
  total = nat_list_cmp_total;
  exact = ids_exact;
  computes = record { given = λ n x. refl; chosen = λ rows x. refl; numbered = λ m x. refl; kept = λ m x. refl; finds = λ x id more. refl };
  tries = λ n x. rw (cast_null);
  stores = λ n m x. rw (cast_int m);
  meets = λ u v x y e. one_true _ (texts_equal x.tenderer y.tenderer e);
  met = λ u v x y h. equal_texts x.tenderer y.tenderer (only_true _ h);
  updates = λ n x y v more e. ap (λ q. v ∷ v ∷ Text q ∷ drop 1 (tenderer_values x)) e;
}

put_read : IsPutText Tenderers tenderer_shape upsert_tenderers
unfolding everything parsed_in columns_in rows_in clause_in
put_read = record { read = record { is = refl; statement = refl; formats = refl; targeted = refl; changes = refl }; unstamped = refl; one = record { whole = refl; given = refl }; rows = λ schema n. refl; names = λ n. refl; update = λ schema at n. refl }

pub tenderer_put : IsPutOf Tenderers tenderer_form tenderer_shape upsert_tenderers
tenderer_put = record { stored = tenderer_stored; reads = put_read; key = tenderers_made.bare.key; accepted = λ schema n it. rw (it.stored, found_by_tree schema tenderers n it) }

pub after_tenderer : (x : TendererRow) → StaysBeside Tenderers tenderer_form (put.Tenderer x) x (λ t. t.tenderers)
after_tenderer x t rows changed was stand Tenderers = stand
after_tenderer x t rows changed was stand k = was k

-- ---- its questions

abbrev pub get_tenderer : List ℕ
get_tenderer = codes "SELECT tenderer, name, address, key FROM tenderers WHERE tenderer = ?1"

get_tenderer_read : IsSelect get_tenderer (codes "tenderers") (names_of (columns_of tenderers)) (Some (equals_e (codes "tenderer") 1)) ([])
unfolding everything parsed_in
get_tenderer_read = record { is = refl; statement = refl; formats = refl }

pub get_tenderer_means : (schema : Schema) (n : ℕ) → IsIn schema tenderers n → StatementMeans schema get_tenderer (Select (record { lets = []; body = select n (1 ∷ []) (range_with_len 1 4) ([]) }) (names_of (columns_of tenderers)))
unfolding same_name alone chosen first_found
get_tenderer_means schema n it =
    selects_mean schema tenderers n it (columns_of tenderers) ([]) get_tenderer (has n) (Some (equals_e (codes "tenderer") 1)) _ _ _ get_tenderer_read
    (one_test schema it.place (at_tree tenderers n) it.found tenderers.name (outputs_of (at_tree tenderers n) [] (columns_of tenderers)) (0, text_column (codes "tenderer")) 1 (left (columns_of tenderers)) _ (refl, refl, refl, tt) refl refl (inl (inl refl, refl), refl, refl))
    tt tt (rw (it.stored, found_by_tree schema tenderers n it))

pub select_get_tenderer : (old new : State) (rows : List Row) (t : Tables) → Holds old.now t → (k : List ℕ) → Shown get_tenderer (Text k ∷ []) old new rows → option_map tenderer_read (slice_get rows 0) ≡ tenderer_at k t
select_get_tenderer old new rows t was k h =
    gets tenderer_form.cmp nat_list_cmp_total ids_exact tenderer_form.key tenderer_form.stored tenderer_form.back tenderer_form.row tenderer_form.read (λ v x. refl) old new rows (was.places Tenderers) t.tenderers (was.stands Tenderers) get_tenderer (Text k ∷ []) (1 ∷ []) (range_with_len 1 4) ([]) _ (get_tenderer_means old.now.schema (was.places Tenderers) (was.tables Tenderers)) (λ (x : TendererRow). same_id x.tenderer k) (λ v x. and_true _ ∙ text_tested x.tenderer k)
    k (λ x. same_id_is x.tenderer k) (λ v x. refl) (λ a b. refl) h

abbrev pub list_first_tenderers : List ℕ
list_first_tenderers = codes "SELECT tenderer, name, address, key FROM tenderers ORDER BY tenderer LIMIT ?1"

list_first_tenderers_read : IsCapped list_first_tenderers (codes "tenderers") (names_of (columns_of tenderers)) None (codes "tenderer" ∷ []) (Some (count_e 1))
unfolding everything parsed_in
list_first_tenderers_read = record { is = refl; statement = refl; formats = refl }

pub list_first_tenderers_means : (schema : Schema) (n : ℕ) → IsIn schema tenderers n → StatementMeans schema list_first_tenderers (Select (record { lets = []; body = capped_select n [] (range_with_len 1 4) (1 ∷ []) (col 0 0) }) (names_of (columns_of tenderers)))
unfolding same_name alone chosen first_found
list_first_tenderers_means schema n it =
    capped_selects_mean schema tenderers n it (columns_of tenderers) ((0, text_column (codes "tenderer")) ∷ []) list_first_tenderers (has n) None _ _ _ (Some (count_e 1)) (col 0 0) list_first_tenderers_read
    (no_test schema it.place (at_tree tenderers n) it.found tenderers.name (outputs_of (at_tree tenderers n) [] (columns_of tenderers)) (left (columns_of tenderers)) _)
    (refl, refl, refl, tt) (refl, tt) (rw (it.stored, found_by_tree schema tenderers n it)) (parameter_counts schema _ (count_e 1) 1 (out_parameter 1))

pub select_list_first_tenderers : (old new : State) (rows : List Row) (t : Tables) → Holds old.now t → (most : ℕ) → Shown list_first_tenderers (Int (pos most) ∷ []) old new rows → map tenderer_read rows ≡ tenderers_after None most t
select_list_first_tenderers old new rows t was most h =
    pages tenderer_form.cmp nat_list_cmp_total ids_exact tenderer_form.key tenderer_form.stored tenderer_form.back tenderer_form.row tenderer_form.read (λ v x. refl) old new rows (was.places Tenderers) t.tenderers (was.stands Tenderers) list_first_tenderers (Int (pos most) ∷ []) ([]) (range_with_len 1 4) (1 ∷ []) (col 0 0) _ (list_first_tenderers_means old.now.schema (was.places Tenderers) (was.tables Tenderers)) (λ (x : TendererRow). is_after id_cmp None x.tenderer) (λ v x. refl) most refl
    (λ (x : TendererRow). Text x.tenderer ∷ []) (λ v x. refl) (λ x y. then_equal _ ∙ ap is_lt (value_cmp-Text x.tenderer y.tenderer)) h

abbrev pub list_tenderers_above : List ℕ
list_tenderers_above = codes "SELECT tenderer, name, address, key FROM tenderers WHERE tenderer > ?1 ORDER BY tenderer LIMIT ?2"

list_tenderers_above_read : IsCapped list_tenderers_above (codes "tenderers") (names_of (columns_of tenderers)) (Some (above_e (codes "tenderer") 1)) (codes "tenderer" ∷ []) (Some (count_e 2))
unfolding everything parsed_in
list_tenderers_above_read = record { is = refl; statement = refl; formats = refl }

pub list_tenderers_above_means : (schema : Schema) (n : ℕ) → IsIn schema tenderers n → StatementMeans schema list_tenderers_above (Select (record { lets = []; body = capped_select n (op2 (Compare Gt Binary) (col 1 1) (col 0 0) ∷ []) (range_with_len 1 4) (1 ∷ []) (col 0 1) }) (names_of (columns_of tenderers)))
unfolding same_name alone chosen first_found
list_tenderers_above_means schema n it =
    capped_selects_mean schema tenderers n it (columns_of tenderers) ((0, text_column (codes "tenderer")) ∷ []) list_tenderers_above (has n) (Some (above_e (codes "tenderer") 1)) _ _ _ (Some (count_e 2)) (col 0 1) list_tenderers_above_read
    (above_test schema it.place (at_tree tenderers n) it.found tenderers.name (outputs_of (at_tree tenderers n) [] (columns_of tenderers)) (0, text_column (codes "tenderer")) 1 (left (columns_of tenderers)) _ (refl, refl, refl, tt) refl refl (inl (inl refl, refl), refl, refl))
    (refl, refl, refl, tt) (refl, tt) (rw (it.stored, found_by_tree schema tenderers n it)) (parameter_counts schema _ (count_e 2) 2 (out_parameter 2))

pub select_list_tenderers_above : (old new : State) (rows : List Row) (t : Tables) → Holds old.now t → (k : List ℕ) (most : ℕ) → Shown list_tenderers_above (Text k ∷ Int (pos most) ∷ []) old new rows → map tenderer_read rows ≡ tenderers_after (Some k) most t
select_list_tenderers_above old new rows t was k most h =
    pages tenderer_form.cmp nat_list_cmp_total ids_exact tenderer_form.key tenderer_form.stored tenderer_form.back tenderer_form.row tenderer_form.read (λ v x. refl) old new rows (was.places Tenderers) t.tenderers (was.stands Tenderers) list_tenderers_above (Text k ∷ Int (pos most) ∷ []) (op2 (Compare Gt Binary) (col 1 1) (col 0 0) ∷ []) (range_with_len 1 4) (1 ∷ []) (col 0 1) _ (list_tenderers_above_means old.now.schema (was.places Tenderers) (was.tables Tenderers)) (λ (x : TendererRow). is_after id_cmp (Some k) x.tenderer) (λ v x. and_true _ ∙ text_above x.tenderer k) most refl
    (λ (x : TendererRow). Text x.tenderer ∷ []) (λ v x. refl) (λ x y. then_equal _ ∙ ap is_lt (value_cmp-Text x.tenderer y.tenderer)) h
