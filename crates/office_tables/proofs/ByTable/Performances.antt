-- Performance securities: what is shown of their table, of the text that puts one, and of each question.
use Rattle.office_tables.proofs.TableTools.{◌≡◌, inr, ◌∷◌, [], List, ℕ, pos, Some, codes, refl, ap, ◌∙◌, slice_get, drop, option_map, range_with_len, nat_cmp_total, numbers_exact, Null, Int, first_key, Row, same_name, Schema, Select, alone, chosen, first_found, max_budget, first, everything, State, Shown, Tables, same_number, number_column, IsIn, at_tree, Holds, cast_null, cast_int, numbers_equal, equal_numbers, one_true, only_true, number_tested, and_true, same_number_is, numbered, StatementMeans, parsed_in, equals_e, names_of, outputs_of, Has, one_test, select, columns_of, left, IsSelect, selects_mean, found_by_tree, gets, Shape, at_rowid, columns_in, rows_in, clause_in, IsStored, ReadsTable, creates_it, IsOfficeTable, IsPutText, IsPutOf, StaysBeside}
use Rattle.office_base.specs.declared.puts.Put.TheVariants as put
use Rattle.office_tables.proofs.Names.{PerformanceRow, performance_at, create_performance, performance, upsert_performance, performance_values, performance_read, performance_form, Performances}

-- ---- the table

create_read : ReadsTable create_performance performance (parsed_in (first create_performance))
unfolding everything parsed_in
create_read = record { def = _; is = refl; statement = refl; formats = refl; plainly = refl; defined = refl; whole = refl; covers = refl }

pub performances_made : IsOfficeTable Performances
unfolding same_name
performances_made = record { bare = record { childless = refl; key = numbered refl refl refl; uncounted = refl }; named = refl; created = creates_it create_performance performance (parsed_in (first create_performance)) create_read }

-- its columns have their names
has : (n : ℕ) → Has (at_tree performance n) max_budget (columns_of performance)
unfolding same_name
has n = (refl, refl, refl, (refl, refl, refl, (refl, refl, refl, (refl, refl, refl, tt))))

-- ---- its put

abbrev pub performance_shape : Shape
performance_shape = at_rowid 4

performance_stored : IsStored Performances performance_form performance_shape
unfolding first_key
performance_stored = record {
  total = nat_cmp_total;
  exact = numbers_exact;
  computes = record { given = λ n x. refl; chosen = λ rows x. refl; numbered = λ m x. refl; kept = λ m x. refl; finds = λ x id more. refl };
  tries = λ n x. rw (cast_null, cast_int (pos x.contract), cast_int (pos x.amount));
  stores = λ n m x. rw (cast_null, cast_int (pos x.contract), cast_int (pos x.amount));
  meets = λ u v x y e. one_true _ (numbers_equal x.contract y.contract e);
  met = λ u v x y h. equal_numbers x.contract y.contract (only_true _ h);
  updates = λ n x y v more e. ap (λ q. Int (pos y.contract) ∷ Int (pos q) ∷ Null ∷ drop 1 (performance_values x)) e;
}

put_read : IsPutText Performances performance_shape upsert_performance
unfolding everything parsed_in columns_in rows_in clause_in
put_read = record { read = record { is = refl; statement = refl; formats = refl; targeted = refl; changes = refl }; unstamped = refl; one = record { whole = refl; given = refl }; rows = λ schema n. refl; names = λ n. refl; update = λ schema at n. refl }

pub performance_put : IsPutOf Performances performance_form performance_shape upsert_performance
performance_put = record { stored = performance_stored; reads = put_read; key = performances_made.bare.key; accepted = λ schema n it. rw (it.stored, found_by_tree schema performance n it) }

pub after_performance : (x : PerformanceRow) → StaysBeside Performances performance_form (put.Performance x) x (λ t. t.performances)
after_performance x t rows changed was stand Performances = stand
after_performance x t rows changed was stand k = was k

-- ---- its questions

abbrev pub get_performance : List ℕ
get_performance = codes "SELECT contract, reference, amount, state FROM performance WHERE contract = ?1"

get_performance_read : IsSelect get_performance (codes "performance") (names_of (columns_of performance)) (Some (equals_e (codes "contract") 1)) ([])
unfolding everything parsed_in
get_performance_read = record { is = refl; statement = refl; formats = refl }

pub get_performance_means : (schema : Schema) (n : ℕ) → IsIn schema performance n → StatementMeans schema get_performance (Select (record { lets = []; body = select n (0 ∷ []) (0 ∷ range_with_len 2 3) ([]) }) (names_of (columns_of performance)))
unfolding same_name alone chosen first_found
get_performance_means schema n it =
    selects_mean schema performance n it (columns_of performance) ([]) get_performance (has n) (Some (equals_e (codes "contract") 1)) _ _ _ get_performance_read
    (one_test schema it.place (at_tree performance n) it.found performance.name (outputs_of (at_tree performance n) [] (columns_of performance)) (0, number_column (codes "contract")) 1 (left (columns_of performance)) _ (refl, refl, refl, tt) refl refl (inr refl, refl, refl))
    tt tt (rw (it.stored, found_by_tree schema performance n it))

pub select_get_performance : (old new : State) (rows : List Row) (t : Tables) → Holds old.now t → (k : ℕ) → Shown get_performance (Int (pos k) ∷ []) old new rows → option_map performance_read (slice_get rows 0) ≡ performance_at k t
select_get_performance old new rows t was k h =
    gets performance_form.cmp nat_cmp_total numbers_exact performance_form.key performance_form.stored performance_form.back performance_form.row performance_form.read (λ v x. refl) old new rows (was.places Performances) t.performances (was.stands Performances) get_performance (Int (pos k) ∷ []) (0 ∷ []) (0 ∷ range_with_len 2 3) ([]) _ (get_performance_means old.now.schema (was.places Performances) (was.tables Performances)) (λ (x : PerformanceRow). same_number x.contract k) (λ v x. and_true _ ∙ number_tested x.contract k)
    k (λ x. same_number_is x.contract k) (λ v x. refl) (λ a b. refl) h
