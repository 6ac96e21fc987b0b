-- Releases: what is shown of their table, of the text that puts one, and of each question.
use Rattle.office_tables.proofs.TableTools.{◌≡◌, inl, inr, ◌&&◌, ◌∷◌, [], List, ℕ, pos, Some, codes, refl, ap, ap₂, ◌∙◌, map, slice_get, drop, option_map, range_with_len, nat_cmp, Int, Text, first_key, Row, value_cmp-Text, same_name, Schema, Select, alone, chosen, first_found, max_budget, first, everything, State, Shown, id_cmp, same_id, Tables, same_number, releases_exact, same_id_is, releases_total, text_column, number_column, IsIn, at_tree, Holds, cast_null, cast_int, texts_equal, equal_texts, numbers_equal, equal_numbers, both_true, first_true, text_tested, number_tested, numbers_cmp, and_true, pair_then, both_equal, same_number_is, indexed, StatementMeans, parsed_in, equals_e, both_e, names_of, outputs_of, Has, one_test, two_tests, select, columns_of, left, IsSelect, selects_mean, found_by_tree, gets, lists, shows_rows, Shape, behind_rowid, columns_in, rows_in, clause_in, IsStored, ReadsTable, creates_it, IsOfficeTable, IsPutText, IsPutOf, StaysBeside}
use Rattle.office_base.specs.declared.puts.Put.TheVariants as put
use Rattle.office_tables.proofs.Names.{ReleaseRow, Column, release_at, release_numbers, releases_of_notice, create_releases, releases, upsert_releases, release_values, release_read, release_form, number_read, number_row, Releases}
use Rattle.sqlite_sql.specs.Query.{Output}

-- ---- the table

create_read : ReadsTable create_releases releases (parsed_in (first create_releases))
unfolding everything parsed_in
create_read = record { def = _; is = refl; statement = refl; formats = refl; plainly = refl; defined = refl; whole = refl; covers = refl }

pub releases_made : IsOfficeTable Releases
unfolding same_name
releases_made = record { bare = record { childless = refl; key = indexed refl refl refl refl refl; uncounted = refl }; named = refl; created = creates_it create_releases releases (parsed_in (first create_releases)) create_read }

-- its columns have their names
has : (n : ℕ) → Has (at_tree releases n) max_budget (columns_of releases)
unfolding same_name
has n = (refl, refl, refl, (refl, refl, refl, (refl, refl, refl, (refl, refl, refl, tt))))

-- ---- its put

abbrev pub release_shape : Shape
release_shape = behind_rowid 4 2

release_stored : IsStored Releases release_form release_shape
unfolding first_key
release_stored = record {
  total = releases_total;
  exact = releases_exact;
  computes = record { given = λ n x. refl; chosen = λ rows x. refl; numbered = λ m x. refl; kept = λ m x. refl; finds = λ x id more. refl };
  tries = λ n x. rw (cast_null, cast_int (pos x.seq), cast_int (pos x.moment));
  stores = λ n m x. rw (cast_int m, cast_int (pos x.seq), cast_int (pos x.moment));
  meets = λ u v x y e. both_true _ _ (texts_equal x.notice y.notice (ap (λ (q : List ℕ × ℕ). q.0) e)) (numbers_equal x.seq y.seq (ap (λ (q : List ℕ × ℕ). q.1) e));
  met = λ u v x y h. let both = first_true _ _ h in ap₂ (λ a b. (a, b)) (equal_texts x.notice y.notice both.0) (equal_numbers x.seq y.seq both.1);
  updates = λ n x y v more e. ap (λ (q : List ℕ × ℕ). v ∷ v ∷ Text q.0 ∷ Int (pos q.1) ∷ drop 2 (release_values x)) e;
}

put_read : IsPutText Releases release_shape upsert_releases
unfolding everything parsed_in columns_in rows_in clause_in
put_read = record { read = record { is = refl; statement = refl; formats = refl; targeted = refl; changes = refl }; unstamped = refl; one = record { whole = refl; given = refl }; rows = λ schema n. refl; names = λ n. refl; update = λ schema at n. refl }

pub release_put : IsPutOf Releases release_form release_shape upsert_releases
release_put = record { stored = release_stored; reads = put_read; key = releases_made.bare.key; accepted = λ schema n it. rw (it.stored, found_by_tree schema releases n it) }

pub after_release : (x : ReleaseRow) → StaysBeside Releases release_form (put.Release x) x (λ t. t.releases)
after_release x t rows changed was stand Releases = stand
after_release x t rows changed was stand k = was k

-- ---- its questions

abbrev pub get_release : List ℕ
get_release = codes "SELECT notice, seq, moment, text FROM releases WHERE notice = ?1 AND seq = ?2"

get_release_read : IsSelect get_release (codes "releases") (names_of (columns_of releases)) (Some (both_e (equals_e (codes "notice") 1) (equals_e (codes "seq") 2))) ([])
unfolding everything parsed_in
get_release_read = record { is = refl; statement = refl; formats = refl }

pub get_release_means : (schema : Schema) (n : ℕ) → IsIn schema releases n → StatementMeans schema get_release (Select (record { lets = []; body = select n (1 ∷ 2 ∷ []) (range_with_len 1 4) ([]) }) (names_of (columns_of releases)))
unfolding same_name alone chosen first_found
get_release_means schema n it =
    selects_mean schema releases n it (columns_of releases) ([]) get_release (has n) (Some (both_e (equals_e (codes "notice") 1) (equals_e (codes "seq") 2))) _ _ _ get_release_read
    (two_tests schema it.place (at_tree releases n) it.found releases.name (outputs_of (at_tree releases n) [] (columns_of releases)) (0, text_column (codes "notice")) (1, number_column (codes "seq")) 1 2 (left (columns_of releases)) _ refl (refl, refl, refl, tt) refl refl (inl (inl refl, refl), refl, refl) (refl, refl, refl, tt) refl refl (inl (inr refl, refl), refl, refl))
    tt tt (rw (it.stored, found_by_tree schema releases n it))

pub select_get_release : (old new : State) (rows : List Row) (t : Tables) → Holds old.now t → (k : List ℕ) → (l : ℕ) → Shown get_release (Text k ∷ Int (pos l) ∷ []) old new rows → option_map release_read (slice_get rows 0) ≡ release_at (k, l) t
select_get_release old new rows t was k l h =
    gets release_form.cmp releases_total releases_exact release_form.key release_form.stored release_form.back release_form.row release_form.read (λ v x. refl) old new rows (was.places Releases) t.releases (was.stands Releases) get_release (Text k ∷ Int (pos l) ∷ []) (1 ∷ 2 ∷ []) (range_with_len 1 4) ([]) _ (get_release_means old.now.schema (was.places Releases) (was.tables Releases)) (λ (x : ReleaseRow). same_id x.notice k && same_number x.seq l) (λ v x. ap₂ (λ c d. c && d) (text_tested x.notice k) (and_true _ ∙ number_tested x.seq l))
    (k, l) (λ x. ap₂ (λ c d. c && d) (same_id_is x.notice k) (same_number_is x.seq l) ∙ both_equal (id_cmp k x.notice) (nat_cmp l x.seq)) (λ v x. refl) (λ a b. refl) h

abbrev pub list_releases_of_notice : List ℕ
list_releases_of_notice = codes "SELECT notice, seq, moment, text FROM releases WHERE notice = ?1 ORDER BY notice, seq"

list_releases_of_notice_read : IsSelect list_releases_of_notice (codes "releases") (names_of (columns_of releases)) (Some (equals_e (codes "notice") 1)) (codes "notice" ∷ codes "seq" ∷ [])
unfolding everything parsed_in
list_releases_of_notice_read = record { is = refl; statement = refl; formats = refl }

pub list_releases_of_notice_means : (schema : Schema) (n : ℕ) → IsIn schema releases n → StatementMeans schema list_releases_of_notice (Select (record { lets = []; body = select n (1 ∷ []) (range_with_len 1 4) (1 ∷ 2 ∷ []) }) (names_of (columns_of releases)))
unfolding same_name alone chosen first_found
list_releases_of_notice_means schema n it =
    selects_mean schema releases n it (columns_of releases) ((0, text_column (codes "notice")) ∷ (1, number_column (codes "seq")) ∷ []) list_releases_of_notice (has n) (Some (equals_e (codes "notice") 1)) _ _ _ list_releases_of_notice_read
    (one_test schema it.place (at_tree releases n) it.found releases.name (outputs_of (at_tree releases n) [] (columns_of releases)) (0, text_column (codes "notice")) 1 (left (columns_of releases)) _ (refl, refl, refl, tt) refl refl (inl (inl refl, refl), refl, refl))
    (refl, refl, refl, (refl, refl, refl, tt)) (refl, (refl, tt)) (rw (it.stored, found_by_tree schema releases n it))

pub select_list_releases_of_notice : (old new : State) (rows : List Row) (t : Tables) → Holds old.now t → (k : List ℕ) → Shown list_releases_of_notice (Text k ∷ []) old new rows → map release_read rows ≡ releases_of_notice k t
select_list_releases_of_notice old new rows t was k h =
    lists release_form.cmp releases_total releases_exact release_form.key release_form.stored release_form.back release_form.row release_form.read (λ v x. refl) old new rows (was.places Releases) t.releases (was.stands Releases) list_releases_of_notice (Text k ∷ []) (1 ∷ []) (range_with_len 1 4) (1 ∷ 2 ∷ []) _ (list_releases_of_notice_means old.now.schema (was.places Releases) (was.tables Releases)) (λ (x : ReleaseRow). same_id x.notice k) (λ v x. and_true _ ∙ text_tested x.notice k)
    (λ (x : ReleaseRow). Text x.notice ∷ Int (pos x.seq) ∷ []) (λ v x. refl) (λ x y. pair_then _ _ _ _ (value_cmp-Text x.notice y.notice) (numbers_cmp x.seq y.seq)) h

-- the column of the number, with its place in the table
abbrev number_alone : List (ℕ × Column)
number_alone = (1, number_column (codes "seq")) ∷ []

abbrev pub list_release_numbers : List ℕ
list_release_numbers = codes "SELECT seq FROM releases WHERE notice = ?1 ORDER BY notice, seq"

list_release_numbers_read : IsSelect list_release_numbers (codes "releases") (names_of number_alone) (Some (equals_e (codes "notice") 1)) (codes "notice" ∷ codes "seq" ∷ [])
unfolding everything parsed_in
list_release_numbers_read = record { is = refl; statement = refl; formats = refl }

pub list_release_numbers_means : (schema : Schema) (n : ℕ) → IsIn schema releases n → StatementMeans schema list_release_numbers (Select (record { lets = []; body = select n (1 ∷ []) (2 ∷ []) (1 ∷ 2 ∷ []) }) (names_of number_alone))
unfolding same_name alone chosen first_found
list_release_numbers_means schema n it =
    selects_mean schema releases n it number_alone ((0, text_column (codes "notice")) ∷ (1, number_column (codes "seq")) ∷ []) list_release_numbers (refl, refl, refl, tt) (Some (equals_e (codes "notice") 1)) _ _ _ list_release_numbers_read
    (one_test schema it.place (at_tree releases n) it.found releases.name (outputs_of (at_tree releases n) [] number_alone) (0, text_column (codes "notice")) 1 (left number_alone) _ (refl, refl, refl, tt) refl refl (inl (inl refl, refl), refl, refl))
    (refl, refl, refl, (refl, refl, refl, tt)) (refl, (refl, tt)) (rw (it.stored, found_by_tree schema releases n it))

-- a release in the order of the question, and its number alone
abbrev numbered_output : ReleaseRow → Output
numbered_output x = (Text x.notice ∷ Int (pos x.seq) ∷ [], number_row x.seq)

-- the numbers are read back from their rows
numbers_back : (xs : List ReleaseRow) → map number_read (map (λ (o : Output). o.1) (map numbered_output xs)) ≡ map (λ (r : ReleaseRow). r.seq) xs
numbers_back [] = refl
numbers_back (x ∷ xs) = ap (λ (ns : List ℕ). x.seq ∷ ns) (numbers_back xs)

pub select_list_release_numbers : (old new : State) (rows : List Row) (t : Tables) → Holds old.now t → (k : List ℕ) → Shown list_release_numbers (Text k ∷ []) old new rows → map number_read rows ≡ release_numbers k t
select_list_release_numbers old new rows t was k h =
    ap (map number_read)
    (shows_rows release_form.cmp releases_total releases_exact release_form.key release_form.stored release_form.back release_form.row release_form.read (λ v x. refl) old new rows (was.places Releases) t.releases (was.stands Releases) list_release_numbers (Text k ∷ []) (1 ∷ []) (2 ∷ []) (1 ∷ 2 ∷ []) _ (list_release_numbers_means old.now.schema (was.places Releases) (was.tables Releases)) (λ (x : ReleaseRow). same_id x.notice k) (λ v x. and_true _ ∙ text_tested x.notice k)
    numbered_output (λ v x. refl) (λ x y a b. pair_then _ _ _ _ (value_cmp-Text x.notice y.notice) (numbers_cmp x.seq y.seq)) h)
    ∙ numbers_back (releases_of_notice k t)
