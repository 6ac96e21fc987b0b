-- The clock: what is shown of its table, of the text that puts it, and of its question.
use Rattle.office_tables.proofs.TableTools.{◌≡◌, ◌∷◌, [], List, ℕ, pos, None, codes, refl, true, map, range_with_len, IsTotalOrder, IsAntisymmetric, Int, first_key, Row, same_name, Schema, Select, alone, chosen, first_found, max_budget, first, everything, State, Shown, row_put, Tables, number_column, IsIn, at_tree, Holds, cast_null, cast_int, numbers_equal, one_true, numbered, StatementMeans, IsOne, parsed_in, names_of, outputs_of, Has, no_test, select, columns_of, left, IsSelect, selects_mean, found_by_tree, lists, shows_rows, Shape, at_rowid, columns_in, rows_in, clause_in, IsStored, ReadsTable, creates_it, IsOfficeTable, IsPutText, IsPutOf, StaysBeside}
use Rattle.office_base.specs.declared.puts.Put.TheVariants as put
use Rattle.office_tables.proofs.Names.{ClockRow, this_version, create_office, office, upsert_office, clock_cmp, clock_read, clock_form_of, clock_form, get_version, HasVersion, Office}

-- ---- the table

create_read : ReadsTable create_office office (parsed_in (first create_office))
unfolding everything parsed_in
create_read = record { def = _; is = refl; statement = refl; formats = refl; plainly = refl; defined = refl; whole = refl; covers = refl }

pub office_made : IsOfficeTable Office
unfolding same_name
office_made = record { bare = record { childless = refl; key = numbered refl refl refl; uncounted = refl }; named = refl; created = creates_it create_office office (parsed_in (first create_office)) create_read }

-- its columns have their names
has : (n : ℕ) → Has (at_tree office n) max_budget (columns_of office)
unfolding same_name
has n = (refl, refl, refl, (refl, refl, refl, (refl, refl, refl, (refl, refl, refl, tt))))

-- the order of its keys is total, and only equal keys tie
clock_total : IsTotalOrder clock_cmp
clock_total = record { antisymm = λ a b. refl; trans = λ a b c h k. h; congr = λ a b c h. refl }

clock_exact : IsAntisymmetric clock_cmp
clock_exact a b h = refl

-- ---- its put

abbrev pub clock_shape : Shape
clock_shape = at_rowid 4

clock_stored : IsStored Office clock_form clock_shape
unfolding first_key
clock_stored = record {
  total = clock_total;
  exact = clock_exact;
  computes = record { given = λ n x. refl; chosen = λ rows x. refl; numbered = λ m x. refl; kept = λ m x. refl; finds = λ x id more. refl };
  tries = λ n x. rw (cast_null, cast_int (pos this_version), cast_int (pos x.moment), cast_int (pos x.receipts), cast_int (pos x.awards));
  stores = λ n m x. rw (cast_null, cast_int (pos this_version), cast_int (pos x.moment), cast_int (pos x.receipts), cast_int (pos x.awards));
  meets = λ u v x y e. one_true _ (numbers_equal this_version this_version refl);
  met = λ u v x y h. refl;
  updates = λ n x y v more e. refl;
}

put_read : IsPutText Office clock_shape upsert_office
unfolding everything parsed_in columns_in rows_in clause_in
put_read = record { read = record { is = refl; statement = refl; formats = refl; targeted = refl; changes = refl }; unstamped = refl; one = record { whole = refl; given = refl }; rows = λ schema n. refl; names = λ n. refl; update = λ schema at n. refl }

pub clock_put : IsPutOf Office clock_form clock_shape upsert_office
clock_put = record { stored = clock_stored; reads = put_read; key = office_made.bare.key; accepted = λ schema n it. rw (it.stored, found_by_tree schema office n it) }

pub after_clock : (x : ClockRow) → StaysBeside Office clock_form (put.Clock x) x (λ t. (t.clock ∷ []))
unfolding row_put
after_clock x t rows changed was stand Office = stand
after_clock x t rows changed was stand k = was k

-- ---- its questions

abbrev pub get_clock : List ℕ
get_clock = codes "SELECT version, moment, receipts, awards FROM office"

get_clock_read : IsSelect get_clock (codes "office") (names_of (columns_of office)) None ([])
unfolding everything parsed_in
get_clock_read = record { is = refl; statement = refl; formats = refl }

pub get_clock_means : (schema : Schema) (n : ℕ) → IsIn schema office n → StatementMeans schema get_clock (Select (record { lets = []; body = select n ([]) (0 ∷ range_with_len 2 3) ([]) }) (names_of (columns_of office)))
unfolding same_name alone chosen first_found
get_clock_means schema n it =
    selects_mean schema office n it (columns_of office) ([]) get_clock (has n) None _ _ _ get_clock_read
    (no_test schema it.place (at_tree office n) it.found office.name (outputs_of (at_tree office n) [] (columns_of office)) (left (columns_of office)) _)
    tt tt (rw (it.stored, found_by_tree schema office n it))

pub select_clock : (n : ℕ) (clock : ClockRow) (old new : State) (rows : List Row) → HasVersion n clock old.now → Shown get_clock ([]) old new rows → map clock_read rows ≡ clock ∷ []
select_clock n clock old new rows was h =
    lists (clock_form_of n).cmp clock_total clock_exact (clock_form_of n).key (clock_form_of n).stored (clock_form_of n).back (clock_form_of n).row (clock_form_of n).read (λ v x. refl) old new rows was.place (clock ∷ []) was.stand get_clock ([]) ([]) (0 ∷ range_with_len 2 3) ([]) _ (get_clock_means old.now.schema was.place was.table) (λ (x : ClockRow). true) (λ v x. refl)
    (λ (x : ClockRow). []) (λ v x. refl) (λ x y. refl) h

pub select_get_clock : (old new : State) (rows : List Row) (t : Tables) → Holds old.now t → Shown get_clock ([]) old new rows → map clock_read rows ≡ t.clock ∷ []
select_get_clock old new rows t was h =
    lists clock_form.cmp clock_total clock_exact clock_form.key clock_form.stored clock_form.back clock_form.row clock_form.read (λ v x. refl) old new rows (was.places Office) (t.clock ∷ []) (was.stands Office) get_clock ([]) ([]) (0 ∷ range_with_len 2 3) ([]) _ (get_clock_means old.now.schema (was.places Office) (was.tables Office)) (λ (x : ClockRow). true) (λ v x. refl)
    (λ (x : ClockRow). []) (λ v x. refl) (λ x y. refl) h

get_version_read : IsSelect get_version (codes "office") (names_of ((0, number_column (codes "version")) ∷ [])) None ([])
unfolding everything parsed_in
get_version_read = record { is = refl; statement = refl; formats = refl }

pub get_version_one : IsOne get_version 0
unfolding everything parsed_in
get_version_one = record { whole = refl; given = refl }

pub get_version_means : (schema : Schema) (n : ℕ) → IsIn schema office n → StatementMeans schema get_version (Select (record { lets = []; body = select n ([]) (0 ∷ []) ([]) }) (names_of ((0, number_column (codes "version")) ∷ [])))
unfolding same_name alone chosen first_found
get_version_means schema n it =
    selects_mean schema office n it ((0, number_column (codes "version")) ∷ []) ([]) get_version (refl, refl, refl, tt) None _ _ _ get_version_read
    (no_test schema it.place (at_tree office n) it.found office.name (outputs_of (at_tree office n) [] ((0, number_column (codes "version")) ∷ [])) (left ((0, number_column (codes "version")) ∷ [])) _)
    tt tt (rw (it.stored, found_by_tree schema office n it))

pub select_get_version : (n : ℕ) (clock : ClockRow) (old new : State) (rows : List Row) → HasVersion n clock old.now → Shown get_version ([]) old new rows → rows ≡ (Int (pos n) ∷ []) ∷ []
select_get_version n clock old new rows was h =
    shows_rows (clock_form_of n).cmp clock_total clock_exact (clock_form_of n).key (clock_form_of n).stored (clock_form_of n).back (clock_form_of n).row (clock_form_of n).read (λ v x. refl) old new rows was.place (clock ∷ []) was.stand get_version ([]) ([]) (0 ∷ []) ([]) _ (get_version_means old.now.schema was.place was.table) (λ (x : ClockRow). true) (λ v x. refl)
    (λ (x : ClockRow). ([], Int (pos n) ∷ [])) (λ v x. refl) (λ x y a b. refl) h
