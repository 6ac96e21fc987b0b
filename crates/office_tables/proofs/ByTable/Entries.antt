-- Entries of contracts: what is shown of their table, of the text that puts one, and of each question.
use Rattle.office_tables.proofs.TableTools.{◌≡◌, inl, inr, ◌&&◌, ◌∷◌, [], List, ℕ, pos, Some, codes, refl, ap, ap₂, ◌∙◌, map, slice_get, drop, option_map, range_with_len, nat_cmp, Int, Text, first_key, Row, value_cmp-Text, same_name, Schema, Select, alone, chosen, first_found, max_budget, first, everything, State, Shown, id_cmp, same_id, Tables, same_number, entries_exact, same_id_is, entries_total, text_column, number_column, IsIn, at_tree, Holds, cast_null, cast_int, cast_words, texts_equal, equal_texts, numbers_equal, equal_numbers, both_true, first_true, text_tested, number_tested, numbers_cmp, and_true, pair_then, both_equal, same_number_is, indexed, StatementMeans, parsed_in, equals_e, both_e, names_of, outputs_of, Has, one_test, two_tests, select, columns_of, left, IsSelect, selects_mean, found_by_tree, gets, lists, Shape, behind_rowid, columns_in, rows_in, clause_in, IsStored, ReadsTable, creates_it, IsOfficeTable, IsPutText, IsPutOf, StaysBeside}
use Rattle.office_base.specs.declared.puts.Put.TheVariants as put
use Rattle.office_tables.proofs.Names.{EntryRow, entry_at, entries_of_contract, create_entries, entries, upsert_entries, entry_values, entry_read, entry_form, Entries}

-- ---- the table

create_read : ReadsTable create_entries entries (parsed_in (first create_entries))
unfolding everything parsed_in
create_read = record { def = _; is = refl; statement = refl; formats = refl; plainly = refl; defined = refl; whole = refl; covers = refl }

pub entries_made : IsOfficeTable Entries
unfolding same_name
entries_made = record { bare = record { childless = refl; key = indexed refl refl refl refl refl; uncounted = refl }; named = refl; created = creates_it create_entries entries (parsed_in (first create_entries)) create_read }

-- its columns have their names
has : (n : ℕ) → Has (at_tree entries n) max_budget (columns_of entries)
unfolding same_name
has n = (refl, refl, refl, (refl, refl, refl, (refl, refl, refl, (refl, refl, refl, (refl, refl, refl, (refl, refl, refl, tt))))))

-- ---- its put

abbrev pub entry_shape : Shape
entry_shape = behind_rowid 6 2

entry_stored : IsStored Entries entry_form entry_shape
unfolding first_key
entry_stored = record {
  total = entries_total;
  exact = entries_exact;
  computes = record { given = λ n x. refl; chosen = λ rows x. refl; numbered = λ m x. refl; kept = λ m x. refl; finds = λ x id more. refl };
  tries = λ n x. rw (cast_null, cast_int (pos x.contract), cast_int (pos x.amount), cast_int (pos x.moment), cast_words x.rationale);
  stores = λ n m x. rw (cast_int m, cast_int (pos x.contract), cast_int (pos x.amount), cast_int (pos x.moment), cast_words x.rationale);
  meets = λ u v x y e. both_true _ _ (numbers_equal x.contract y.contract (ap (λ (q : ℕ × List ℕ). q.0) e)) (texts_equal x.entry y.entry (ap (λ (q : ℕ × List ℕ). q.1) e));
  met = λ u v x y h. let both = first_true _ _ h in ap₂ (λ a b. (a, b)) (equal_numbers x.contract y.contract both.0) (equal_texts x.entry y.entry both.1);
  updates = λ n x y v more e. ap (λ (q : ℕ × List ℕ). v ∷ v ∷ Int (pos q.0) ∷ Text q.1 ∷ drop 2 (entry_values x)) e;
}

put_read : IsPutText Entries entry_shape upsert_entries
unfolding everything parsed_in columns_in rows_in clause_in
put_read = record { read = record { is = refl; statement = refl; formats = refl; targeted = refl; changes = refl }; unstamped = refl; one = record { whole = refl; given = refl }; rows = λ schema n. refl; names = λ n. refl; update = λ schema at n. refl }

pub entry_put : IsPutOf Entries entry_form entry_shape upsert_entries
entry_put = record { stored = entry_stored; reads = put_read; key = entries_made.bare.key; accepted = λ schema n it. rw (it.stored, found_by_tree schema entries n it) }

pub after_entry : (x : EntryRow) → StaysBeside Entries entry_form (put.Entry x) x (λ t. t.entries)
after_entry x t rows changed was stand Entries = stand
after_entry x t rows changed was stand k = was k

-- ---- its questions

abbrev pub get_entry : List ℕ
get_entry = codes "SELECT contract, entry, kind, amount, moment, rationale FROM entries WHERE contract = ?1 AND entry = ?2"

get_entry_read : IsSelect get_entry (codes "entries") (names_of (columns_of entries)) (Some (both_e (equals_e (codes "contract") 1) (equals_e (codes "entry") 2))) ([])
unfolding everything parsed_in
get_entry_read = record { is = refl; statement = refl; formats = refl }

pub get_entry_means : (schema : Schema) (n : ℕ) → IsIn schema entries n → StatementMeans schema get_entry (Select (record { lets = []; body = select n (1 ∷ 2 ∷ []) (range_with_len 1 6) ([]) }) (names_of (columns_of entries)))
unfolding same_name alone chosen first_found
get_entry_means schema n it =
    selects_mean schema entries n it (columns_of entries) ([]) get_entry (has n) (Some (both_e (equals_e (codes "contract") 1) (equals_e (codes "entry") 2))) _ _ _ get_entry_read
    (two_tests schema it.place (at_tree entries n) it.found entries.name (outputs_of (at_tree entries n) [] (columns_of entries)) (0, number_column (codes "contract")) (1, text_column (codes "entry")) 1 2 (left (columns_of entries)) _ refl (refl, refl, refl, tt) refl refl (inl (inr refl, refl), refl, refl) (refl, refl, refl, tt) refl refl (inl (inl refl, refl), refl, refl))
    tt tt (rw (it.stored, found_by_tree schema entries n it))

pub select_get_entry : (old new : State) (rows : List Row) (t : Tables) → Holds old.now t → (k : ℕ) → (l : List ℕ) → Shown get_entry (Int (pos k) ∷ Text l ∷ []) old new rows → option_map entry_read (slice_get rows 0) ≡ entry_at (k, l) t
select_get_entry old new rows t was k l h =
    gets entry_form.cmp entries_total entries_exact entry_form.key entry_form.stored entry_form.back entry_form.row entry_form.read (λ v x. refl) old new rows (was.places Entries) t.entries (was.stands Entries) get_entry (Int (pos k) ∷ Text l ∷ []) (1 ∷ 2 ∷ []) (range_with_len 1 6) ([]) _ (get_entry_means old.now.schema (was.places Entries) (was.tables Entries)) (λ (x : EntryRow). same_number x.contract k && same_id x.entry l) (λ v x. ap₂ (λ c d. c && d) (number_tested x.contract k) (and_true _ ∙ text_tested x.entry l))
    (k, l) (λ x. ap₂ (λ c d. c && d) (same_number_is x.contract k) (same_id_is x.entry l) ∙ both_equal (nat_cmp k x.contract) (id_cmp l x.entry)) (λ v x. refl) (λ a b. refl) h

abbrev pub list_entries_of_contract : List ℕ
list_entries_of_contract = codes "SELECT contract, entry, kind, amount, moment, rationale FROM entries WHERE contract = ?1 ORDER BY contract, entry"

list_entries_of_contract_read : IsSelect list_entries_of_contract (codes "entries") (names_of (columns_of entries)) (Some (equals_e (codes "contract") 1)) (codes "contract" ∷ codes "entry" ∷ [])
unfolding everything parsed_in
list_entries_of_contract_read = record { is = refl; statement = refl; formats = refl }

pub list_entries_of_contract_means : (schema : Schema) (n : ℕ) → IsIn schema entries n → StatementMeans schema list_entries_of_contract (Select (record { lets = []; body = select n (1 ∷ []) (range_with_len 1 6) (1 ∷ 2 ∷ []) }) (names_of (columns_of entries)))
unfolding same_name alone chosen first_found
list_entries_of_contract_means schema n it =
    selects_mean schema entries n it (columns_of entries) ((0, number_column (codes "contract")) ∷ (1, text_column (codes "entry")) ∷ []) list_entries_of_contract (has n) (Some (equals_e (codes "contract") 1)) _ _ _ list_entries_of_contract_read
    (one_test schema it.place (at_tree entries n) it.found entries.name (outputs_of (at_tree entries n) [] (columns_of entries)) (0, number_column (codes "contract")) 1 (left (columns_of entries)) _ (refl, refl, refl, tt) refl refl (inl (inr refl, refl), refl, refl))
    (refl, refl, refl, (refl, refl, refl, tt)) (refl, (refl, tt)) (rw (it.stored, found_by_tree schema entries n it))

pub select_list_entries_of_contract : (old new : State) (rows : List Row) (t : Tables) → Holds old.now t → (k : ℕ) → Shown list_entries_of_contract (Int (pos k) ∷ []) old new rows → map entry_read rows ≡ entries_of_contract k t
select_list_entries_of_contract old new rows t was k h =
    lists entry_form.cmp entries_total entries_exact entry_form.key entry_form.stored entry_form.back entry_form.row entry_form.read (λ v x. refl) old new rows (was.places Entries) t.entries (was.stands Entries) list_entries_of_contract (Int (pos k) ∷ []) (1 ∷ []) (range_with_len 1 6) (1 ∷ 2 ∷ []) _ (list_entries_of_contract_means old.now.schema (was.places Entries) (was.tables Entries)) (λ (x : EntryRow). same_number x.contract k) (λ v x. and_true _ ∙ number_tested x.contract k)
    (λ (x : EntryRow). Int (pos x.contract) ∷ Text x.entry ∷ []) (λ v x. refl) (λ x y. pair_then _ _ _ _ (numbers_cmp x.contract y.contract) (value_cmp-Text x.entry y.entry)) h
