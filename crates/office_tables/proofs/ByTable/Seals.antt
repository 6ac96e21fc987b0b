-- The bytes of tenders: what is shown of their table, of the text that puts one, and of each question.
use Rattle.office_tables.proofs.TableTools.{◌≡◌, inr, ◌∷◌, [], List, ℕ, pos, Some, codes, refl, ap, ◌∙◌, slice_get, drop, option_map, range_with_len, nat_cmp_total, numbers_exact, Null, Int, first_key, Row, same_name, Schema, Select, Delete, alone, chosen, first_found, max_budget, nothing, first, everything, State, Shown, Tables, same_number, after_put, number_column, IsIn, at_tree, Holds, cast_null, cast_int, numbers_equal, equal_numbers, one_true, only_true, number_tested, and_true, same_number_is, numbered, StatementMeans, IsOne, parsed_in, equals_e, names_of, outputs_of, Has, one_test, select, columns_of, left, IsSelect, selects_mean, found_by_tree, gets, Shape, at_rowid, columns_in, rows_in, clause_in, IsStored, with_rows, OfficeTable, StandFor, Stands, ReadsTable, creates_it, IsDelete, delete_means, IsOfficeTable, IsPutText, IsPutOf, StaysBeside}
use Rattle.office_base.specs.declared.puts.Put.TheVariants as put
use Rattle.office_tables.proofs.Names.{SealRow, seal_at, create_seals, seals, upsert_seals, delete_seal, seal_values, seal_read, seal_form, Seals}

-- ---- the table

create_read : ReadsTable create_seals seals (parsed_in (first create_seals))
unfolding everything parsed_in
create_read = record { def = _; is = refl; statement = refl; formats = refl; plainly = refl; defined = refl; whole = refl; covers = refl }

pub seals_made : IsOfficeTable Seals
unfolding same_name
seals_made = record { bare = record { childless = refl; key = numbered refl refl refl; uncounted = refl }; named = refl; created = creates_it create_seals seals (parsed_in (first create_seals)) create_read }

-- its columns have their names
has : (n : ℕ) → Has (at_tree seals n) max_budget (columns_of seals)
unfolding same_name
has n = (refl, refl, refl, (refl, refl, refl, tt))

-- ---- its put

abbrev pub seal_shape : Shape
seal_shape = at_rowid 2

seal_stored : IsStored Seals seal_form seal_shape
unfolding first_key
seal_stored = record {
  total = nat_cmp_total;
  exact = numbers_exact;
  computes = record { given = λ n x. refl; chosen = λ rows x. refl; numbered = λ m x. refl; kept = λ m x. refl; finds = λ x id more. refl };
  tries = λ n x. rw (cast_null, cast_int (pos x.receipt));
  stores = λ n m x. rw (cast_null, cast_int (pos x.receipt));
  meets = λ u v x y e. one_true _ (numbers_equal x.receipt y.receipt e);
  met = λ u v x y h. equal_numbers x.receipt y.receipt (only_true _ h);
  updates = λ n x y v more e. ap (λ q. Int (pos y.receipt) ∷ Int (pos q) ∷ Null ∷ drop 1 (seal_values x)) e;
}

put_read : IsPutText Seals seal_shape upsert_seals
unfolding everything parsed_in columns_in rows_in clause_in
put_read = record { read = record { is = refl; statement = refl; formats = refl; targeted = refl; changes = refl }; unstamped = refl; one = record { whole = refl; given = refl }; rows = λ schema n. refl; names = λ n. refl; update = λ schema at n. refl }

pub seal_put : IsPutOf Seals seal_form seal_shape upsert_seals
seal_put = record { stored = seal_stored; reads = put_read; key = seals_made.bare.key; accepted = λ schema n it. rw (it.stored, found_by_tree schema seals n it) }

pub after_seal : (x : SealRow) → StaysBeside Seals seal_form (put.Seal x) x (λ t. t.seals)
after_seal x t rows changed was stand Seals = stand
after_seal x t rows changed was stand k = was k

-- ---- its drop

drop_seal_read : IsDelete delete_seal (codes "seals") (Some (equals_e (codes "receipt") 1)) (parsed_in (first delete_seal))
unfolding everything parsed_in
drop_seal_read = record { is = refl; statement = refl; formats = refl }

pub drop_seal_one : IsOne delete_seal 1
unfolding everything parsed_in
drop_seal_one = record { whole = refl; given = refl }

pub drop_seal_means : (schema : Schema) (n : ℕ) (it : IsIn schema seals n) → StatementMeans schema delete_seal (Delete it.place (record { lets = []; body = select n (0 ∷ []) (0 ∷ []) [] }))
unfolding same_name alone chosen first_found
drop_seal_means schema n it =
    delete_means schema seals n it refl delete_seal (Some (equals_e (codes "receipt") 1)) _ drop_seal_read (0 ∷ []) _ _
    (one_test schema it.place (at_tree seals n) it.found seals.name [] (0, number_column (codes "receipt")) 1 max_budget nothing (refl, refl, refl, tt) refl refl (inr refl, refl, refl))
    (rw (it.stored, found_by_tree schema seals n it))

pub after_drop : (rows : OfficeTable → List Row) (changed : List Row) (t : Tables) (n : ℕ) → Stands rows t → StandFor Seals changed (after_put (put.DropSeal n) t) → Stands (with_rows rows Seals changed) (after_put (put.DropSeal n) t)
after_drop rows changed t n was stand Seals = stand
after_drop rows changed t n was stand k = was k

-- ---- its questions

abbrev pub get_seal : List ℕ
get_seal = codes "SELECT receipt, bytes FROM seals WHERE receipt = ?1"

get_seal_read : IsSelect get_seal (codes "seals") (names_of (columns_of seals)) (Some (equals_e (codes "receipt") 1)) ([])
unfolding everything parsed_in
get_seal_read = record { is = refl; statement = refl; formats = refl }

pub get_seal_means : (schema : Schema) (n : ℕ) → IsIn schema seals n → StatementMeans schema get_seal (Select (record { lets = []; body = select n (0 ∷ []) (0 ∷ range_with_len 2 1) ([]) }) (names_of (columns_of seals)))
unfolding same_name alone chosen first_found
get_seal_means schema n it =
    selects_mean schema seals n it (columns_of seals) ([]) get_seal (has n) (Some (equals_e (codes "receipt") 1)) _ _ _ get_seal_read
    (one_test schema it.place (at_tree seals n) it.found seals.name (outputs_of (at_tree seals n) [] (columns_of seals)) (0, number_column (codes "receipt")) 1 (left (columns_of seals)) _ (refl, refl, refl, tt) refl refl (inr refl, refl, refl))
    tt tt (rw (it.stored, found_by_tree schema seals n it))

pub select_get_seal : (old new : State) (rows : List Row) (t : Tables) → Holds old.now t → (k : ℕ) → Shown get_seal (Int (pos k) ∷ []) old new rows → option_map seal_read (slice_get rows 0) ≡ seal_at k t
select_get_seal old new rows t was k h =
    gets seal_form.cmp nat_cmp_total numbers_exact seal_form.key seal_form.stored seal_form.back seal_form.row seal_form.read (λ v x. refl) old new rows (was.places Seals) t.seals (was.stands Seals) get_seal (Int (pos k) ∷ []) (0 ∷ []) (0 ∷ range_with_len 2 1) ([]) _ (get_seal_means old.now.schema (was.places Seals) (was.tables Seals)) (λ (x : SealRow). same_number x.receipt k) (λ v x. and_true _ ∙ number_tested x.receipt k)
    k (λ x. same_number_is x.receipt k) (λ v x. refl) (λ a b. refl) h
