-- Budget files: what is shown of their table, of the text that puts one, and of each question.
use Rattle.office_tables.proofs.TableTools.{◌≡◌, inl, ◌∷◌, [], List, ℕ, pos, Some, codes, refl, ap, ◌∙◌, slice_get, drop, option_map, range_with_len, nat_list_cmp_total, Text, first_key, Row, same_name, Schema, Select, alone, chosen, first_found, max_budget, first, everything, State, Shown, same_id, Tables, ids_exact, same_id_is, text_column, IsIn, at_tree, Holds, cast_null, cast_int, texts_equal, equal_texts, one_true, only_true, text_tested, and_true, indexed, StatementMeans, parsed_in, equals_e, names_of, outputs_of, Has, one_test, select, columns_of, left, IsSelect, selects_mean, found_by_tree, gets, Shape, behind_rowid, columns_in, rows_in, clause_in, IsStored, ReadsTable, creates_it, IsOfficeTable, IsPutText, IsPutOf, StaysBeside}
use Rattle.office_base.specs.declared.puts.Put.TheVariants as put
use Rattle.office_tables.proofs.Names.{BatchRow, batch_at, create_batches, batches, upsert_batches, batch_values, batch_read, batch_form, Batches}

-- ---- the table

create_read : ReadsTable create_batches batches (parsed_in (first create_batches))
unfolding everything parsed_in
create_read = record { def = _; is = refl; statement = refl; formats = refl; plainly = refl; defined = refl; whole = refl; covers = refl }

pub batches_made : IsOfficeTable Batches
unfolding same_name
batches_made = record { bare = record { childless = refl; key = indexed refl refl refl refl refl; uncounted = refl }; named = refl; created = creates_it create_batches batches (parsed_in (first create_batches)) create_read }

-- its columns have their names
has : (n : ℕ) → Has (at_tree batches n) max_budget (columns_of batches)
unfolding same_name
has n = (refl, refl, refl, (refl, refl, refl, (refl, refl, refl, tt)))

-- ---- its put

abbrev pub batch_shape : Shape
batch_shape = behind_rowid 3 1

batch_stored : IsStored Batches batch_form batch_shape
unfolding first_key
batch_stored = record {
  total = nat_list_cmp_total;
  exact = ids_exact;
  computes = record { given = λ n x. refl; chosen = λ rows x. refl; numbered = λ m x. refl; kept = λ m x. refl; finds = λ x id more. refl };
  tries = λ n x. rw (cast_null, cast_int (pos x.moment), cast_int (pos x.rows));
  stores = λ n m x. rw (cast_int m, cast_int (pos x.moment), cast_int (pos x.rows));
  meets = λ u v x y e. one_true _ (texts_equal x.batch y.batch e);
  met = λ u v x y h. equal_texts x.batch y.batch (only_true _ h);
  updates = λ n x y v more e. ap (λ q. v ∷ v ∷ Text q ∷ drop 1 (batch_values x)) e;
}

put_read : IsPutText Batches batch_shape upsert_batches
unfolding everything parsed_in columns_in rows_in clause_in
put_read = record { read = record { is = refl; statement = refl; formats = refl; targeted = refl; changes = refl }; unstamped = refl; one = record { whole = refl; given = refl }; rows = λ schema n. refl; names = λ n. refl; update = λ schema at n. refl }

pub batch_put : IsPutOf Batches batch_form batch_shape upsert_batches
batch_put = record { stored = batch_stored; reads = put_read; key = batches_made.bare.key; accepted = λ schema n it. rw (it.stored, found_by_tree schema batches n it) }

pub after_batch : (x : BatchRow) → StaysBeside Batches batch_form (put.Batch x) x (λ t. t.batches)
after_batch x t rows changed was stand Batches = stand
after_batch x t rows changed was stand k = was k

-- ---- its questions

abbrev pub get_batch : List ℕ
get_batch = codes "SELECT batch, moment, rows FROM batches WHERE batch = ?1"

get_batch_read : IsSelect get_batch (codes "batches") (names_of (columns_of batches)) (Some (equals_e (codes "batch") 1)) ([])
unfolding everything parsed_in
get_batch_read = record { is = refl; statement = refl; formats = refl }

pub get_batch_means : (schema : Schema) (n : ℕ) → IsIn schema batches n → StatementMeans schema get_batch (Select (record { lets = []; body = select n (1 ∷ []) (range_with_len 1 3) ([]) }) (names_of (columns_of batches)))
unfolding same_name alone chosen first_found
get_batch_means schema n it =
    selects_mean schema batches n it (columns_of batches) ([]) get_batch (has n) (Some (equals_e (codes "batch") 1)) _ _ _ get_batch_read
    (one_test schema it.place (at_tree batches n) it.found batches.name (outputs_of (at_tree batches n) [] (columns_of batches)) (0, text_column (codes "batch")) 1 (left (columns_of batches)) _ (refl, refl, refl, tt) refl refl (inl (inl refl, refl), refl, refl))
    tt tt (rw (it.stored, found_by_tree schema batches n it))

pub select_get_batch : (old new : State) (rows : List Row) (t : Tables) → Holds old.now t → (k : List ℕ) → Shown get_batch (Text k ∷ []) old new rows → option_map batch_read (slice_get rows 0) ≡ batch_at k t
select_get_batch old new rows t was k h =
    gets batch_form.cmp nat_list_cmp_total ids_exact batch_form.key batch_form.stored batch_form.back batch_form.row batch_form.read (λ v x. refl) old new rows (was.places Batches) t.batches (was.stands Batches) get_batch (Text k ∷ []) (1 ∷ []) (range_with_len 1 3) ([]) _ (get_batch_means old.now.schema (was.places Batches) (was.tables Batches)) (λ (x : BatchRow). same_id x.batch k) (λ v x. and_true _ ∙ text_tested x.batch k)
    k (λ x. same_id_is x.batch k) (λ v x. refl) (λ a b. refl) h
