-- Awards: what is shown of their table, of the text that puts one, and of each question.
use Rattle.office_tables.proofs.TableTools.{◌≡◌, inl, inr, ◌∷◌, [], List, ℕ, pos, Some, codes, refl, ap, ◌∙◌, map, slice_get, drop, option_map, range_with_len, is_lt, nat_cmp_total, numbers_exact, Null, Int, Text, first_key, Row, same_name, Schema, Select, alone, chosen, first_found, max_budget, first, everything, listing_schema, State, Shown, same_id, Tables, same_number, text_column, number_column, IsIn, at_tree, IsIndexing, Holds, cast_null, cast_int, numbers_equal, equal_numbers, one_true, only_true, text_tested, number_tested, numbers_cmp, and_true, then_equal, same_number_is, numbered, StatementMeans, parsed_in, equals_e, names_of, outputs_of, Has, one_test, select, columns_of, left, IsSelect, selects_mean, found_by_tree, gets, lists, Shape, at_rowid, columns_in, rows_in, clause_in, IsStored, ReadsTable, ReadsIndex, creates_it, indexes_it, IsOfficeTable, IsPutText, IsPutOf, StaysBeside}
use Rattle.office_base.specs.declared.puts.Put.TheVariants as put
use Rattle.office_tables.proofs.Names.{AwardRow, award_at, create_awards, awards, create_awards_of_notice, upsert_awards, award_values, award_read, award_form, Awards}
use Rattle.office_base.specs.Tables.{awards_of_notice}
use Rattle.office_tables.specs.Tables.Awards.{awards_of_notice as awards_of_notice_index}

-- ---- the table

create_read : ReadsTable create_awards awards (parsed_in (first create_awards))
unfolding everything parsed_in
create_read = record { def = _; is = refl; statement = refl; formats = refl; plainly = refl; defined = refl; whole = refl; covers = refl }

pub awards_made : IsOfficeTable Awards
unfolding same_name
awards_made = record { bare = record { childless = refl; key = numbered refl refl refl; uncounted = refl }; named = refl; created = creates_it create_awards awards (parsed_in (first create_awards)) create_read }

index_read : ReadsIndex create_awards_of_notice awards awards_of_notice_index (parsed_in (first create_awards_of_notice))
unfolding everything parsed_in listing_schema
index_read = record { def = _; is = refl; statement = refl; formats = refl; plainly = refl; table_is = refl; defined = λ n. refl; covers = refl; unlisted = refl }

pub indexes_awards_of_notice : IsIndexing create_awards_of_notice awards awards_of_notice_index
indexes_awards_of_notice = indexes_it create_awards_of_notice awards awards_of_notice_index (parsed_in (first create_awards_of_notice)) index_read

-- its columns have their names
has : (n : ℕ) → Has (at_tree awards n) max_budget (columns_of awards)
unfolding same_name
has n = (refl, refl, refl, (refl, refl, refl, (refl, refl, refl, (refl, refl, refl, (refl, refl, refl, (refl, refl, refl, (refl, refl, refl, tt)))))))

-- ---- its put

abbrev pub award_shape : Shape
award_shape = at_rowid 7

award_stored : IsStored Awards award_form award_shape
unfolding first_key
award_stored = record {
  total = nat_cmp_total;
  exact = numbers_exact;
  computes = record { given = λ n x. refl; chosen = λ rows x. refl; numbered = λ m x. refl; kept = λ m x. refl; finds = λ x id more. refl };
  tries = λ n x. rw (cast_null, cast_int (pos x.award), cast_int (pos x.receipt), cast_int (pos x.price), cast_int (pos x.moment));
  stores = λ n m x. rw (cast_null, cast_int (pos x.award), cast_int (pos x.receipt), cast_int (pos x.price), cast_int (pos x.moment));
  meets = λ u v x y e. one_true _ (numbers_equal x.award y.award e);
  met = λ u v x y h. equal_numbers x.award y.award (only_true _ h);
  updates = λ n x y v more e. ap (λ q. Int (pos y.award) ∷ Int (pos q) ∷ Null ∷ drop 1 (award_values x)) e;
}

put_read : IsPutText Awards award_shape upsert_awards
unfolding everything parsed_in columns_in rows_in clause_in
put_read = record { read = record { is = refl; statement = refl; formats = refl; targeted = refl; changes = refl }; unstamped = refl; one = record { whole = refl; given = refl }; rows = λ schema n. refl; names = λ n. refl; update = λ schema at n. refl }

pub award_put : IsPutOf Awards award_form award_shape upsert_awards
award_put = record { stored = award_stored; reads = put_read; key = awards_made.bare.key; accepted = λ schema n it. rw (it.stored, found_by_tree schema awards n it) }

pub after_award : (x : AwardRow) → StaysBeside Awards award_form (put.Award x) x (λ t. t.awards)
after_award x t rows changed was stand Awards = stand
after_award x t rows changed was stand k = was k

-- ---- its questions

abbrev pub get_award : List ℕ
get_award = codes "SELECT award, notice, lot, receipt, price, moment, state FROM awards WHERE award = ?1"

get_award_read : IsSelect get_award (codes "awards") (names_of (columns_of awards)) (Some (equals_e (codes "award") 1)) ([])
unfolding everything parsed_in
get_award_read = record { is = refl; statement = refl; formats = refl }

pub get_award_means : (schema : Schema) (n : ℕ) → IsIn schema awards n → StatementMeans schema get_award (Select (record { lets = []; body = select n (0 ∷ []) (0 ∷ range_with_len 2 6) ([]) }) (names_of (columns_of awards)))
unfolding same_name alone chosen first_found
get_award_means schema n it =
    selects_mean schema awards n it (columns_of awards) ([]) get_award (has n) (Some (equals_e (codes "award") 1)) _ _ _ get_award_read
    (one_test schema it.place (at_tree awards n) it.found awards.name (outputs_of (at_tree awards n) [] (columns_of awards)) (0, number_column (codes "award")) 1 (left (columns_of awards)) _ (refl, refl, refl, tt) refl refl (inr refl, refl, refl))
    tt tt (rw (it.stored, found_by_tree schema awards n it))

pub select_get_award : (old new : State) (rows : List Row) (t : Tables) → Holds old.now t → (k : ℕ) → Shown get_award (Int (pos k) ∷ []) old new rows → option_map award_read (slice_get rows 0) ≡ award_at k t
select_get_award old new rows t was k h =
    gets award_form.cmp nat_cmp_total numbers_exact award_form.key award_form.stored award_form.back award_form.row award_form.read (λ v x. refl) old new rows (was.places Awards) t.awards (was.stands Awards) get_award (Int (pos k) ∷ []) (0 ∷ []) (0 ∷ range_with_len 2 6) ([]) _ (get_award_means old.now.schema (was.places Awards) (was.tables Awards)) (λ (x : AwardRow). same_number x.award k) (λ v x. and_true _ ∙ number_tested x.award k)
    k (λ x. same_number_is x.award k) (λ v x. refl) (λ a b. refl) h

abbrev pub list_awards_of_notice : List ℕ
list_awards_of_notice = codes "SELECT award, notice, lot, receipt, price, moment, state FROM awards WHERE notice = ?1 ORDER BY award"

list_awards_of_notice_read : IsSelect list_awards_of_notice (codes "awards") (names_of (columns_of awards)) (Some (equals_e (codes "notice") 1)) (codes "award" ∷ [])
unfolding everything parsed_in
list_awards_of_notice_read = record { is = refl; statement = refl; formats = refl }

pub list_awards_of_notice_means : (schema : Schema) (n : ℕ) → IsIn schema awards n → StatementMeans schema list_awards_of_notice (Select (record { lets = []; body = select n (2 ∷ []) (0 ∷ range_with_len 2 6) (0 ∷ []) }) (names_of (columns_of awards)))
unfolding same_name alone chosen first_found
list_awards_of_notice_means schema n it =
    selects_mean schema awards n it (columns_of awards) ((0, number_column (codes "award")) ∷ []) list_awards_of_notice (has n) (Some (equals_e (codes "notice") 1)) _ _ _ list_awards_of_notice_read
    (one_test schema it.place (at_tree awards n) it.found awards.name (outputs_of (at_tree awards n) [] (columns_of awards)) (1, text_column (codes "notice")) 1 (left (columns_of awards)) _ (refl, refl, refl, tt) refl refl (inl (inl refl, refl), refl, refl))
    (refl, refl, refl, tt) (refl, tt) (rw (it.stored, found_by_tree schema awards n it))

pub select_list_awards_of_notice : (old new : State) (rows : List Row) (t : Tables) → Holds old.now t → (k : List ℕ) → Shown list_awards_of_notice (Text k ∷ []) old new rows → map award_read rows ≡ awards_of_notice k t
select_list_awards_of_notice old new rows t was k h =
    lists award_form.cmp nat_cmp_total numbers_exact award_form.key award_form.stored award_form.back award_form.row award_form.read (λ v x. refl) old new rows (was.places Awards) t.awards (was.stands Awards) list_awards_of_notice (Text k ∷ []) (2 ∷ []) (0 ∷ range_with_len 2 6) (0 ∷ []) _ (list_awards_of_notice_means old.now.schema (was.places Awards) (was.tables Awards)) (λ (x : AwardRow). same_id x.notice k) (λ v x. and_true _ ∙ text_tested x.notice k)
    (λ (x : AwardRow). Int (pos x.award) ∷ []) (λ v x. refl) (λ x y. then_equal _ ∙ ap is_lt (numbers_cmp x.award y.award)) h
