-- Late withdrawals: what is shown of their table, of the text that puts one, and of each look-up.
use Rattle.office_tables.proofs.TableTools.{◌≡◌, inl, ◌∷◌, [], List, ℕ, Some, codes, refl, ◌∙◌, slice_get, option_map, range_with_len, nat_list_cmp_total, Text, first_key, Row, same_name, Schema, Select, alone, chosen, first_found, max_budget, first, everything, State, Shown, same_id, Tables, ids_exact, same_id_is, text_column, IsIn, at_tree, Holds, cast_null, cast_int, texts_equal, equal_texts, one_true, only_true, text_tested, and_true, indexed, StatementMeans, parsed_in, equals_e, names_of, outputs_of, Has, one_test, select, columns_of, left, IsSelect, selects_mean, found_by_tree, gets, Shape, behind_rowid, columns_in, rows_in, clause_in, IsStored, ReadsTable, creates_it, IsOfficeTable, IsPutText, IsPutOf, StaysBeside}
use Rattle.office_base.specs.declared.puts.Put.TheVariants as put
use Rattle.office_tables.proofs.Names.{LateRow, late_at, create_late_rules, late_rules, upsert_late_rules, late_read, late_form, LateRules}

-- ---- the table

create_read : ReadsTable create_late_rules late_rules (parsed_in (first create_late_rules))
unfolding everything parsed_in
create_read = record { def = _; is = refl; statement = refl; formats = refl; plainly = refl; defined = refl; whole = refl; covers = refl }

pub late_rules_made : IsOfficeTable LateRules
unfolding same_name
late_rules_made = record { bare = record { childless = refl; key = indexed refl refl refl refl refl; uncounted = refl }; named = refl; created = creates_it create_late_rules late_rules (parsed_in (first create_late_rules)) create_read }

-- its columns have their names
has : (n : ℕ) → Has (at_tree late_rules n) max_budget (columns_of late_rules)
unfolding same_name
has n = (refl, refl, refl, tt)

-- ---- its put

abbrev pub late_shape : Shape
late_shape = behind_rowid 1 0

late_stored : IsStored LateRules late_form late_shape
unfolding first_key
late_stored = record {
  total = nat_list_cmp_total;
  exact = ids_exact;
  computes = record { given = λ n x. refl; chosen = λ rows x. refl; numbered = λ m x. refl; kept = λ m x. refl; finds = λ x id more. refl };
  tries = λ n x. rw (cast_null);
  stores = λ n m x. rw (cast_int m);
  meets = λ u v x y e. one_true _ (texts_equal x.notice y.notice e);
  met = λ u v x y h. equal_texts x.notice y.notice (only_true _ h);
  updates = λ n x y v more e. refl;
}

put_read : IsPutText LateRules late_shape upsert_late_rules
unfolding everything parsed_in columns_in rows_in clause_in
put_read = record { read = record { is = refl; statement = refl; formats = refl; targeted = refl; changes = refl }; unstamped = refl; one = record { whole = refl; given = refl }; rows = λ schema n. refl; names = λ n. refl; update = λ schema at n. refl }

pub late_put : IsPutOf LateRules late_form late_shape upsert_late_rules
late_put = record { stored = late_stored; reads = put_read; key = late_rules_made.bare.key; accepted = λ schema n it. rw (it.stored, found_by_tree schema late_rules n it) }

pub after_late : (x : LateRow) → StaysBeside LateRules late_form (put.Late x) x (λ t. t.late_rules)
after_late x t rows changed was stand LateRules = stand
after_late x t rows changed was stand k = was k

-- ---- its questions

abbrev pub get_late : List ℕ
get_late = codes "SELECT notice FROM late_rules WHERE notice = ?1"

get_late_read : IsSelect get_late (codes "late_rules") (names_of (columns_of late_rules)) (Some (equals_e (codes "notice") 1)) ([])
unfolding everything parsed_in
get_late_read = record { is = refl; statement = refl; formats = refl }

pub get_late_means : (schema : Schema) (n : ℕ) → IsIn schema late_rules n → StatementMeans schema get_late (Select (record { lets = []; body = select n (1 ∷ []) (range_with_len 1 1) ([]) }) (names_of (columns_of late_rules)))
unfolding same_name alone chosen first_found
get_late_means schema n it =
    selects_mean schema late_rules n it (columns_of late_rules) ([]) get_late (has n) (Some (equals_e (codes "notice") 1)) _ _ _ get_late_read
    (one_test schema it.place (at_tree late_rules n) it.found late_rules.name (outputs_of (at_tree late_rules n) [] (columns_of late_rules)) (0, text_column (codes "notice")) 1 (left (columns_of late_rules)) _ (refl, refl, refl, tt) refl refl (inl (inl refl, refl), refl, refl))
    tt tt (rw (it.stored, found_by_tree schema late_rules n it))

pub select_get_late : (old new : State) (rows : List Row) (t : Tables) → Holds old.now t → (k : List ℕ) → Shown get_late (Text k ∷ []) old new rows → option_map late_read (slice_get rows 0) ≡ late_at k t
select_get_late old new rows t was k h =
    gets late_form.cmp nat_list_cmp_total ids_exact late_form.key late_form.stored late_form.back late_form.row late_form.read (λ v x. refl) old new rows (was.places LateRules) t.late_rules (was.stands LateRules) get_late (Text k ∷ []) (1 ∷ []) (range_with_len 1 1) ([]) _ (get_late_means old.now.schema (was.places LateRules) (was.tables LateRules)) (λ (x : LateRow). same_id x.notice k) (λ v x. and_true _ ∙ text_tested x.notice k)
    k (λ x. same_id_is x.notice k) (λ v x. refl) (λ a b. refl) h
