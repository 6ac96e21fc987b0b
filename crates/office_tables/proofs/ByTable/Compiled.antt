-- Merges of a notice's releases: what is shown of their table, of the text that puts one, and of each question.
use Rattle.office_tables.proofs.TableTools.{◌≡◌, inl, ◌∷◌, [], List, ℕ, Some, codes, refl, ap, ◌∙◌, slice_get, drop, option_map, range_with_len, nat_list_cmp_total, Text, first_key, Row, same_name, Schema, Select, alone, chosen, first_found, max_budget, first, everything, State, Shown, same_id, Tables, ids_exact, same_id_is, text_column, IsIn, at_tree, Holds, cast_null, cast_int, texts_equal, equal_texts, one_true, only_true, text_tested, and_true, indexed, StatementMeans, parsed_in, equals_e, names_of, outputs_of, Has, one_test, select, columns_of, left, IsSelect, selects_mean, found_by_tree, gets, Shape, behind_rowid, columns_in, rows_in, clause_in, IsStored, ReadsTable, creates_it, IsOfficeTable, IsPutText, IsPutOf, StaysBeside}
use Rattle.office_base.specs.declared.puts.Put.TheVariants as put
use Rattle.office_tables.proofs.Names.{CompiledRow, compiled_at, create_compiled, upsert_compiled, compiled_values, compiled_read, compiled_form}
use Rattle.office_tables.specs.Tables.Compiled.{compiled}
use Rattle.office_tables.specs.Schema.OfficeTable.{Compiled}

-- ---- the table

create_read : ReadsTable create_compiled compiled (parsed_in (first create_compiled))
unfolding everything parsed_in
create_read = record { def = _; is = refl; statement = refl; formats = refl; plainly = refl; defined = refl; whole = refl; covers = refl }

pub compiled_made : IsOfficeTable Compiled
unfolding same_name
compiled_made = record { bare = record { childless = refl; key = indexed refl refl refl refl refl; uncounted = refl }; named = refl; created = creates_it create_compiled compiled (parsed_in (first create_compiled)) create_read }

-- its columns have their names
has : (n : ℕ) → Has (at_tree compiled n) max_budget (columns_of compiled)
unfolding same_name
has n = (refl, refl, refl, (refl, refl, refl, tt))

-- ---- its put

abbrev pub compiled_shape : Shape
compiled_shape = behind_rowid 2 1

compiled_stored : IsStored Compiled compiled_form compiled_shape
unfolding first_key
compiled_stored = record {
  total = nat_list_cmp_total;
  exact = ids_exact;
  computes = record { given = λ n x. refl; chosen = λ rows x. refl; numbered = λ m x. refl; kept = λ m x. refl; finds = λ x id more. refl };
  tries = λ n x. rw (cast_null);
  stores = λ n m x. rw (cast_int m);
  meets = λ u v x y e. one_true _ (texts_equal x.notice y.notice e);
  met = λ u v x y h. equal_texts x.notice y.notice (only_true _ h);
  updates = λ n x y v more e. ap (λ q. v ∷ v ∷ Text q ∷ drop 1 (compiled_values x)) e;
}

put_read : IsPutText Compiled compiled_shape upsert_compiled
unfolding everything parsed_in columns_in rows_in clause_in
put_read = record { read = record { is = refl; statement = refl; formats = refl; targeted = refl; changes = refl }; unstamped = refl; one = record { whole = refl; given = refl }; rows = λ schema n. refl; names = λ n. refl; update = λ schema at n. refl }

pub compiled_put : IsPutOf Compiled compiled_form compiled_shape upsert_compiled
compiled_put = record { stored = compiled_stored; reads = put_read; key = compiled_made.bare.key; accepted = λ schema n it. rw (it.stored, found_by_tree schema compiled n it) }

pub after_compiled : (x : CompiledRow) → StaysBeside Compiled compiled_form (put.Compiled x) x (λ t. t.compiled)
after_compiled x t rows changed was stand Compiled = stand
after_compiled x t rows changed was stand k = was k

-- ---- its questions

abbrev pub get_compiled : List ℕ
get_compiled = codes "SELECT notice, text FROM compiled WHERE notice = ?1"

get_compiled_read : IsSelect get_compiled (codes "compiled") (names_of (columns_of compiled)) (Some (equals_e (codes "notice") 1)) ([])
unfolding everything parsed_in
get_compiled_read = record { is = refl; statement = refl; formats = refl }

pub get_compiled_means : (schema : Schema) (n : ℕ) → IsIn schema compiled n → StatementMeans schema get_compiled (Select (record { lets = []; body = select n (1 ∷ []) (range_with_len 1 2) ([]) }) (names_of (columns_of compiled)))
unfolding same_name alone chosen first_found
get_compiled_means schema n it =
    selects_mean schema compiled n it (columns_of compiled) ([]) get_compiled (has n) (Some (equals_e (codes "notice") 1)) _ _ _ get_compiled_read
    (one_test schema it.place (at_tree compiled n) it.found compiled.name (outputs_of (at_tree compiled n) [] (columns_of compiled)) (0, text_column (codes "notice")) 1 (left (columns_of compiled)) _ (refl, refl, refl, tt) refl refl (inl (inl refl, refl), refl, refl))
    tt tt (rw (it.stored, found_by_tree schema compiled n it))

pub select_get_compiled : (old new : State) (rows : List Row) (t : Tables) → Holds old.now t → (k : List ℕ) → Shown get_compiled (Text k ∷ []) old new rows → option_map compiled_read (slice_get rows 0) ≡ compiled_at k t
select_get_compiled old new rows t was k h =
    gets compiled_form.cmp nat_list_cmp_total ids_exact compiled_form.key compiled_form.stored compiled_form.back compiled_form.row compiled_form.read (λ v x. refl) old new rows (was.places Compiled) t.compiled (was.stands Compiled) get_compiled (Text k ∷ []) (1 ∷ []) (range_with_len 1 2) ([]) _ (get_compiled_means old.now.schema (was.places Compiled) (was.tables Compiled)) (λ (x : CompiledRow). same_id x.notice k) (λ v x. and_true _ ∙ text_tested x.notice k)
    k (λ x. same_id_is x.notice k) (λ v x. refl) (λ a b. refl) h
