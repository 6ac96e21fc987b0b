-- Tenders: what is shown of their table, of the text that puts one, and of each question.
use Rattle.office_tables.proofs.TableTools.{◌≡◌, inl, inr, ◌&&◌, ◌∷◌, [], List, ℕ, pos, Some, codes, refl, ap, ap₂, ◌∙◌, map, slice_get, drop, option_map, range_with_len, is_lt, nat_cmp_total, numbers_exact, Null, Int, Text, first_key, Row, same_name, Schema, Select, alone, chosen, first_found, max_budget, first, everything, listing_schema, State, Shown, same_id, Tables, same_number, text_column, number_column, IsIn, at_tree, IsIndexing, Holds, cast_null, cast_int, cast_perhaps, cast_words, numbers_equal, equal_numbers, one_true, only_true, text_tested, number_tested, three_tested, numbers_cmp, and_true, then_equal, same_number_is, numbered, StatementMeans, parsed_in, equals_e, both_e, names_of, outputs_of, Has, one_test, two_tests, three_tests, select, columns_of, left, IsSelect, selects_mean, found_by_tree, gets, lists, Shape, at_rowid, columns_in, rows_in, clause_in, IsStored, ReadsTable, ReadsIndex, creates_it, indexes_it, IsOfficeTable, IsPutText, IsPutOf, StaysBeside}
use Rattle.office_base.specs.declared.puts.Put.TheVariants as put
use Rattle.office_tables.proofs.Names.{EnvelopeRow, envelope_at, envelopes_of_lot, of_tenderer, envelopes_of_tenderer, create_envelopes, envelopes, create_envelopes_of_notice, upsert_envelopes, envelope_values, envelope_read, envelope_form, reading_word, stated_price, corrected_price, count_of_corrections, as_number, Envelopes}
use Rattle.office_base.specs.Tables.{envelopes_of_notice}
use Rattle.office_tables.specs.Tables.Envelopes.{envelopes_of_notice as envelopes_of_notice_index}

-- ---- the table

create_read : ReadsTable create_envelopes envelopes (parsed_in (first create_envelopes))
unfolding everything parsed_in
create_read = record { def = _; is = refl; statement = refl; formats = refl; plainly = refl; defined = refl; whole = refl; covers = refl }

pub envelopes_made : IsOfficeTable Envelopes
unfolding same_name
envelopes_made = record { bare = record { childless = refl; key = numbered refl refl refl; uncounted = refl }; named = refl; created = creates_it create_envelopes envelopes (parsed_in (first create_envelopes)) create_read }

index_read : ReadsIndex create_envelopes_of_notice envelopes envelopes_of_notice_index (parsed_in (first create_envelopes_of_notice))
unfolding everything parsed_in listing_schema
index_read = record { def = _; is = refl; statement = refl; formats = refl; plainly = refl; table_is = refl; defined = λ n. refl; covers = refl; unlisted = refl }

pub indexes_envelopes_of_notice : IsIndexing create_envelopes_of_notice envelopes envelopes_of_notice_index
indexes_envelopes_of_notice = indexes_it create_envelopes_of_notice envelopes envelopes_of_notice_index (parsed_in (first create_envelopes_of_notice)) index_read

-- its columns have their names
has : (n : ℕ) → Has (at_tree envelopes n) max_budget (columns_of envelopes)
unfolding same_name
has n = (refl, refl, refl, (refl, refl, refl, (refl, refl, refl, (refl, refl, refl, (refl, refl, refl, (refl, refl, refl, (refl, refl, refl, (refl, refl, refl, (refl, refl, refl, (refl, refl, refl, (refl, refl, refl, (refl, refl, refl, (refl, refl, refl, (refl, refl, refl, (refl, refl, refl, (refl, refl, refl, tt))))))))))))))))

-- ---- its put

abbrev pub envelope_shape : Shape
envelope_shape = at_rowid 16

envelope_stored : IsStored Envelopes envelope_form envelope_shape
unfolding first_key
envelope_stored = record {
  total = nat_cmp_total;
  exact = numbers_exact;
  computes = record { given = λ n x. refl; chosen = λ rows x. refl; numbered = λ m x. refl; kept = λ m x. refl; finds = λ x id more. refl };
  tries = λ n x. rw (cast_null, cast_int (pos x.receipt), cast_int (pos x.moment), cast_int (pos x.length), cast_perhaps x.security, cast_words (option_map reading_word x.reading), cast_perhaps (stated_price x.reading), cast_perhaps (corrected_price x.reading), cast_perhaps (count_of_corrections x.reading), cast_perhaps (option_map as_number x.responsive), cast_perhaps x.quality, cast_int (pos (as_number x.failed)));
  stores = λ n m x. rw (cast_null, cast_int (pos x.receipt), cast_int (pos x.moment), cast_int (pos x.length), cast_perhaps x.security, cast_words (option_map reading_word x.reading), cast_perhaps (stated_price x.reading), cast_perhaps (corrected_price x.reading), cast_perhaps (count_of_corrections x.reading), cast_perhaps (option_map as_number x.responsive), cast_perhaps x.quality, cast_int (pos (as_number x.failed)));
  meets = λ u v x y e. one_true _ (numbers_equal x.receipt y.receipt e);
  met = λ u v x y h. equal_numbers x.receipt y.receipt (only_true _ h);
  updates = λ n x y v more e. ap (λ q. Int (pos y.receipt) ∷ Int (pos q) ∷ Null ∷ drop 1 (envelope_values x)) e;
}

put_read : IsPutText Envelopes envelope_shape upsert_envelopes
unfolding everything parsed_in columns_in rows_in clause_in
put_read = record { read = record { is = refl; statement = refl; formats = refl; targeted = refl; changes = refl }; unstamped = refl; one = record { whole = refl; given = refl }; rows = λ schema n. refl; names = λ n. refl; update = λ schema at n. refl }

pub envelope_put : IsPutOf Envelopes envelope_form envelope_shape upsert_envelopes
envelope_put = record { stored = envelope_stored; reads = put_read; key = envelopes_made.bare.key; accepted = λ schema n it. rw (it.stored, found_by_tree schema envelopes n it) }

pub after_envelope : (x : EnvelopeRow) → StaysBeside Envelopes envelope_form (put.Envelope x) x (λ t. t.envelopes)
after_envelope x t rows changed was stand Envelopes = stand
after_envelope x t rows changed was stand k = was k

-- ---- its questions

abbrev pub get_envelope : List ℕ
get_envelope = codes "SELECT receipt, notice, lot, tenderer, moment, length, digest, security, state, reading, stated, corrected, corrections, responsive, quality, failed FROM envelopes WHERE receipt = ?1"

get_envelope_read : IsSelect get_envelope (codes "envelopes") (names_of (columns_of envelopes)) (Some (equals_e (codes "receipt") 1)) ([])
unfolding everything parsed_in
get_envelope_read = record { is = refl; statement = refl; formats = refl }

pub get_envelope_means : (schema : Schema) (n : ℕ) → IsIn schema envelopes n → StatementMeans schema get_envelope (Select (record { lets = []; body = select n (0 ∷ []) (0 ∷ range_with_len 2 15) ([]) }) (names_of (columns_of envelopes)))
unfolding same_name alone chosen first_found
get_envelope_means schema n it =
    selects_mean schema envelopes n it (columns_of envelopes) ([]) get_envelope (has n) (Some (equals_e (codes "receipt") 1)) _ _ _ get_envelope_read
    (one_test schema it.place (at_tree envelopes n) it.found envelopes.name (outputs_of (at_tree envelopes n) [] (columns_of envelopes)) (0, number_column (codes "receipt")) 1 (left (columns_of envelopes)) _ (refl, refl, refl, tt) refl refl (inr refl, refl, refl))
    tt tt (rw (it.stored, found_by_tree schema envelopes n it))

pub select_get_envelope : (old new : State) (rows : List Row) (t : Tables) → Holds old.now t → (k : ℕ) → Shown get_envelope (Int (pos k) ∷ []) old new rows → option_map envelope_read (slice_get rows 0) ≡ envelope_at k t
select_get_envelope old new rows t was k h =
    gets envelope_form.cmp nat_cmp_total numbers_exact envelope_form.key envelope_form.stored envelope_form.back envelope_form.row envelope_form.read (λ v x. refl) old new rows (was.places Envelopes) t.envelopes (was.stands Envelopes) get_envelope (Int (pos k) ∷ []) (0 ∷ []) (0 ∷ range_with_len 2 15) ([]) _ (get_envelope_means old.now.schema (was.places Envelopes) (was.tables Envelopes)) (λ (x : EnvelopeRow). same_number x.receipt k) (λ v x. and_true _ ∙ number_tested x.receipt k)
    k (λ x. same_number_is x.receipt k) (λ v x. refl) (λ a b. refl) h

abbrev pub list_envelopes_of_notice : List ℕ
list_envelopes_of_notice = codes "SELECT receipt, notice, lot, tenderer, moment, length, digest, security, state, reading, stated, corrected, corrections, responsive, quality, failed FROM envelopes WHERE notice = ?1 ORDER BY receipt"

list_envelopes_of_notice_read : IsSelect list_envelopes_of_notice (codes "envelopes") (names_of (columns_of envelopes)) (Some (equals_e (codes "notice") 1)) (codes "receipt" ∷ [])
unfolding everything parsed_in
list_envelopes_of_notice_read = record { is = refl; statement = refl; formats = refl }

pub list_envelopes_of_notice_means : (schema : Schema) (n : ℕ) → IsIn schema envelopes n → StatementMeans schema list_envelopes_of_notice (Select (record { lets = []; body = select n (2 ∷ []) (0 ∷ range_with_len 2 15) (0 ∷ []) }) (names_of (columns_of envelopes)))
unfolding same_name alone chosen first_found
list_envelopes_of_notice_means schema n it =
    selects_mean schema envelopes n it (columns_of envelopes) ((0, number_column (codes "receipt")) ∷ []) list_envelopes_of_notice (has n) (Some (equals_e (codes "notice") 1)) _ _ _ list_envelopes_of_notice_read
    (one_test schema it.place (at_tree envelopes n) it.found envelopes.name (outputs_of (at_tree envelopes n) [] (columns_of envelopes)) (1, text_column (codes "notice")) 1 (left (columns_of envelopes)) _ (refl, refl, refl, tt) refl refl (inl (inl refl, refl), refl, refl))
    (refl, refl, refl, tt) (refl, tt) (rw (it.stored, found_by_tree schema envelopes n it))

pub select_list_envelopes_of_notice : (old new : State) (rows : List Row) (t : Tables) → Holds old.now t → (k : List ℕ) → Shown list_envelopes_of_notice (Text k ∷ []) old new rows → map envelope_read rows ≡ envelopes_of_notice k t
select_list_envelopes_of_notice old new rows t was k h =
    lists envelope_form.cmp nat_cmp_total numbers_exact envelope_form.key envelope_form.stored envelope_form.back envelope_form.row envelope_form.read (λ v x. refl) old new rows (was.places Envelopes) t.envelopes (was.stands Envelopes) list_envelopes_of_notice (Text k ∷ []) (2 ∷ []) (0 ∷ range_with_len 2 15) (0 ∷ []) _ (list_envelopes_of_notice_means old.now.schema (was.places Envelopes) (was.tables Envelopes)) (λ (x : EnvelopeRow). same_id x.notice k) (λ v x. and_true _ ∙ text_tested x.notice k)
    (λ (x : EnvelopeRow). Int (pos x.receipt) ∷ []) (λ v x. refl) (λ x y. then_equal _ ∙ ap is_lt (numbers_cmp x.receipt y.receipt)) h

abbrev pub list_envelopes_of_lot : List ℕ
list_envelopes_of_lot = codes "SELECT receipt, notice, lot, tenderer, moment, length, digest, security, state, reading, stated, corrected, corrections, responsive, quality, failed FROM envelopes WHERE notice = ?1 AND lot = ?2 ORDER BY receipt"

list_envelopes_of_lot_read : IsSelect list_envelopes_of_lot (codes "envelopes") (names_of (columns_of envelopes)) (Some (both_e (equals_e (codes "notice") 1) (equals_e (codes "lot") 2))) (codes "receipt" ∷ [])
unfolding everything parsed_in
list_envelopes_of_lot_read = record { is = refl; statement = refl; formats = refl }

pub list_envelopes_of_lot_means : (schema : Schema) (n : ℕ) → IsIn schema envelopes n → StatementMeans schema list_envelopes_of_lot (Select (record { lets = []; body = select n (2 ∷ 3 ∷ []) (0 ∷ range_with_len 2 15) (0 ∷ []) }) (names_of (columns_of envelopes)))
unfolding same_name alone chosen first_found
list_envelopes_of_lot_means schema n it =
    selects_mean schema envelopes n it (columns_of envelopes) ((0, number_column (codes "receipt")) ∷ []) list_envelopes_of_lot (has n) (Some (both_e (equals_e (codes "notice") 1) (equals_e (codes "lot") 2))) _ _ _ list_envelopes_of_lot_read
    (two_tests schema it.place (at_tree envelopes n) it.found envelopes.name (outputs_of (at_tree envelopes n) [] (columns_of envelopes)) (1, text_column (codes "notice")) (2, text_column (codes "lot")) 1 2 (left (columns_of envelopes)) _ refl
    (refl, refl, refl, tt) refl refl (inl (inl refl, refl), refl, refl) (refl, refl, refl, tt) refl refl (inl (inl refl, refl), refl, refl))
    (refl, refl, refl, tt) (refl, tt) (rw (it.stored, found_by_tree schema envelopes n it))

pub select_list_envelopes_of_lot : (old new : State) (rows : List Row) (t : Tables) → Holds old.now t → (k l : List ℕ) → Shown list_envelopes_of_lot (Text k ∷ Text l ∷ []) old new rows → map envelope_read rows ≡ envelopes_of_lot k l t
select_list_envelopes_of_lot old new rows t was k l h =
    lists envelope_form.cmp nat_cmp_total numbers_exact envelope_form.key envelope_form.stored envelope_form.back envelope_form.row envelope_form.read (λ v x. refl) old new rows (was.places Envelopes) t.envelopes (was.stands Envelopes) list_envelopes_of_lot (Text k ∷ Text l ∷ []) (2 ∷ 3 ∷ []) (0 ∷ range_with_len 2 15) (0 ∷ []) _ (list_envelopes_of_lot_means old.now.schema (was.places Envelopes) (was.tables Envelopes)) (λ (x : EnvelopeRow). same_id x.notice k && same_id x.lot l) (λ v x. ap₂ (λ c d. c && d) (text_tested x.notice k) (and_true _ ∙ text_tested x.lot l))
    (λ (x : EnvelopeRow). Int (pos x.receipt) ∷ []) (λ v x. refl) (λ x y. then_equal _ ∙ ap is_lt (numbers_cmp x.receipt y.receipt)) h

abbrev pub list_envelopes_of_tenderer : List ℕ
list_envelopes_of_tenderer = codes "SELECT receipt, notice, lot, tenderer, moment, length, digest, security, state, reading, stated, corrected, corrections, responsive, quality, failed FROM envelopes WHERE notice = ?1 AND lot = ?2 AND tenderer = ?3 ORDER BY receipt"

list_envelopes_of_tenderer_read : IsSelect list_envelopes_of_tenderer (codes "envelopes") (names_of (columns_of envelopes)) (Some (both_e (both_e (equals_e (codes "notice") 1) (equals_e (codes "lot") 2)) (equals_e (codes "tenderer") 3))) (codes "receipt" ∷ [])
unfolding everything parsed_in
list_envelopes_of_tenderer_read = record { is = refl; statement = refl; formats = refl }

pub list_envelopes_of_tenderer_means : (schema : Schema) (n : ℕ) → IsIn schema envelopes n → StatementMeans schema list_envelopes_of_tenderer (Select (record { lets = []; body = select n (2 ∷ 3 ∷ 4 ∷ []) (0 ∷ range_with_len 2 15) (0 ∷ []) }) (names_of (columns_of envelopes)))
unfolding same_name alone chosen first_found
list_envelopes_of_tenderer_means schema n it =
    selects_mean schema envelopes n it (columns_of envelopes) ((0, number_column (codes "receipt")) ∷ []) list_envelopes_of_tenderer (has n) (Some (both_e (both_e (equals_e (codes "notice") 1) (equals_e (codes "lot") 2)) (equals_e (codes "tenderer") 3))) _ _ _ list_envelopes_of_tenderer_read
    (three_tests schema it.place (at_tree envelopes n) it.found envelopes.name (outputs_of (at_tree envelopes n) [] (columns_of envelopes)) (1, text_column (codes "notice")) (2, text_column (codes "lot")) (3, text_column (codes "tenderer")) 1 2 3 (left (columns_of envelopes)) _ refl refl
    (refl, refl, refl, tt) refl refl (inl (inl refl, refl), refl, refl) (refl, refl, refl, tt) refl refl (inl (inl refl, refl), refl, refl) (refl, refl, refl, tt) refl refl (inl (inl refl, refl), refl, refl))
    (refl, refl, refl, tt) (refl, tt) (rw (it.stored, found_by_tree schema envelopes n it))

pub select_list_envelopes_of_tenderer : (old new : State) (rows : List Row) (t : Tables) → Holds old.now t → (k l m : List ℕ) → Shown list_envelopes_of_tenderer (Text k ∷ Text l ∷ Text m ∷ []) old new rows → map envelope_read rows ≡ envelopes_of_tenderer k l m t
select_list_envelopes_of_tenderer old new rows t was k l m h =
    lists envelope_form.cmp nat_cmp_total numbers_exact envelope_form.key envelope_form.stored envelope_form.back envelope_form.row envelope_form.read (λ v x. refl) old new rows (was.places Envelopes) t.envelopes (was.stands Envelopes) list_envelopes_of_tenderer (Text k ∷ Text l ∷ Text m ∷ []) (2 ∷ 3 ∷ 4 ∷ []) (0 ∷ range_with_len 2 15) (0 ∷ []) _ (list_envelopes_of_tenderer_means old.now.schema (was.places Envelopes) (was.tables Envelopes)) (of_tenderer k l m) (λ v x. three_tested x.notice x.lot x.tenderer k l m)
    (λ (x : EnvelopeRow). Int (pos x.receipt) ∷ []) (λ v x. refl) (λ x y. then_equal _ ∙ ap is_lt (numbers_cmp x.receipt y.receipt)) h
