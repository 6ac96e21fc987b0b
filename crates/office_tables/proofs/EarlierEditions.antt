-- An office of an earlier edition: its version, which tables it has, and the first half of its migration.
use Rattle.office_tables.proofs.Names.{◌≡◌, ◌⊎◌, inl, inr, ℕ, zero, suc, Bool, List, [], ◌∷◌, Option, None, Some, map, append-nil, true, false, refl, ap, sym, subst, ◌∙◌, true≢false, arith, IsTrue, option_map, codes, is_some, nat_lt, ltb-true, le-ltb, AllByRecursion, Ordering, Value, Row, rowid, Trees, is_int, same_name, Schema, Table, Delete, max_budget, Has, all_has, everything, Ghosts, Database, IsDatabase, Held, state, nat_list_cmp_total, id_cmp, row_put, IsInOrder, Tables, notice_key, ids_exact, all-put, ClockRow, NoticeRow, this_version, office, clock_values, clock_read, upsert_office, clock_form, clock_form_of, former_read, former_notices, former_form, AddsNoReference, LeadsInside, had_former, former_part, besides_former, FormerStand, StandForEdition, StandsOrMissing, HoldsEdition, changed_where, IsMigrated, MakesMissing, drop_notices, drop_version, DropsFormer, Renews, Begins, lacks_table, version_of, edition_of, has_late, Stand, IsIn, Places, HasTables, at_tree, KnowsNoPerformances, AreMade, KeepsOffice, OfficeTable, table_of, StandFor, Stands, Holds, Refused, number_in_value, HasVersion, RowsStand, FormerClock, FormerNotice, Notices, LateRules, FormerNotices, Performances, Office}
use Rattle.sqlite_value.specs.Order.{column}
use Rattle.sqlite_resolve.specs.Compile.{first as parsed}
use Rattle.sqlite_resolve.specs.Lowering.{nothing}
use Rattle.sqlite.specs.State.{State}
use Rattle.office_tables.specs.Kept.{rows_kept as records_of}
use Rattle.office_tables.specs.Steps.{Goes}
use Rattle.office_tables.proofs.Deletes.{IsDelete, delete_means}
use Rattle.office_tables.proofs.Emptied.{empties}
use Rattle.office_tables.proofs.Held.{goes_on}
use Rattle.office_tables.proofs.KeptRows.{in_order-rows_kept}
use Rattle.office_tables.proofs.Made.{made_of}
use Rattle.office_tables.proofs.MakingSteps.{goes_then, goes_refused}
use Rattle.office_tables.proofs.Meanings.{StatementMeans, parsed_in}
use Rattle.office_tables.proofs.PutsApart.{clock_apart}
use Rattle.office_tables.proofs.Selecting.{select, found_by_tree}
use Rattle.office_tables.proofs.Simple.{no_test}
use Rattle.office_tables.proofs.Writes.{puts_row, changed, with_rows}
use Rattle.office_tables.proofs.ByTable.Office.{clock_shape, clock_put}
use Rattle.office_tables.proofs.Each.{bare, nothing as no_rows}
use Rattle.office_tables.proofs.TableTools.{put_means}

-- ---- its edition and its notices

-- every edition has the tables of edition 0
none_lacks : (edition : ℕ) → nat_lt edition 0 ≡ false
none_lacks edition = le-ltb edition 0 (omega arith)

clock_there : (edition : ℕ) (db : Database) (t : Tables) (n : ℕ) → StandsOrMissing edition db t Office n → IsIn db.schema office n × RowsStand (clock_form_of (version_of edition)) (db.trees n) (t.clock ∷ [])
clock_there edition db t n (inl it) = (it.1, it.2)
clock_there edition db t n (inr it) = absurd (true≢false (sym it.0 ∙ none_lacks edition))

pub edition_version : (edition : ℕ) (db : Database) (t : Tables) → HoldsEdition edition db t → HasVersion (version_of edition) t.clock db
edition_version edition db t was =
    let it = clock_there edition db t (was.places Office) (was.each Office) in
    record { place = was.places Office; table = it.0; stand = it.1 }

pub current_version : (db : Database) (t : Tables) → Holds db t → HasVersion this_version t.clock db
current_version db t was = record { place = was.places Office; table = was.tables Office; stand = was.stands Office }

-- edition 0 has no table of late withdrawals; each later edition has it
no_late : (db : Database) (t : Tables) (n : ℕ) → StandsOrMissing 0 db t LateRules n → has_late db.schema ≡ false
no_late db t n (inl it) = absurd (true≢false it.0)
no_late db t n (inr it) = it.1

late_there : (edition : ℕ) (db : Database) (t : Tables) (n : ℕ) → StandsOrMissing (suc edition) db t LateRules n → has_late db.schema ≡ true
late_there edition db t n (inl it) = ap is_some it.1.named
late_there edition db t n (inr it) = absurd (omega (arith, ltb-true (suc edition) 1 it.0))

-- the edition follows from its version and from whether that table exists
pub edition_is : (edition : ℕ) (db : Database) (t : Tables) → HoldsEdition edition db t → edition_of (version_of edition) (has_late db.schema) ≡ edition
edition_is zero db t was = ap (edition_of 1) (no_late db t (was.places LateRules) (was.each LateRules))
edition_is (suc edition) db t was = ap (edition_of (suc edition)) (late_there edition db t (was.places LateRules) (was.each LateRules))

pub current_is : (db : Database) (t : Tables) → Holds db t → edition_of this_version (has_late db.schema) ≡ this_version
current_is db t was = ap (λ (o : Option ℕ). edition_of this_version (is_some o)) (was.tables LateRules).named

-- the records of `notices` are its notices, if the edition uses it; else none
former_rows : (had : Bool) (rows : List Row) (notices : List NoticeRow) → FormerStand had rows notices → RowsStand former_form rows (former_part had notices)
former_rows true rows notices stand = stand
former_rows false rows notices none = no_rows none

pub former_there : (edition : ℕ) (db : Database) (t : Tables) (n : ℕ) → StandsOrMissing edition db t FormerNotices n
    → IsIn db.schema former_notices n × RowsStand former_form (db.trees n) (former_part (had_former edition) t.notices)
former_there edition db t n (inl it) = (it.1, former_rows (had_former edition) (db.trees n) t.notices it.2)
former_there edition db t n (inr it) = absurd (true≢false (sym it.0 ∙ none_lacks edition))

-- they are in the order of their identifiers
pub former_sorted : (edition : ℕ) (db : Database) (t : Tables) → HoldsEdition edition db t → IsInOrder id_cmp notice_key (former_part (had_former edition) t.notices)
former_sorted edition db t was =
    let stand = (former_there edition db t (was.places FormerNotices) (was.each FormerNotices)).1 in
    subst (IsInOrder id_cmp notice_key) stand.is (in_order-rows_kept id_cmp nat_list_cmp_total ids_exact notice_key former_form.stored former_form.back (db.trees (was.places FormerNotices)))

-- they ask for no performance security, and none exists
asks_none : (rows : List Row) → AllByRecursion (λ (n : NoticeRow). n.performance ≡ 0) (records_of former_form.cmp former_form.key former_form.stored former_form.back rows)
asks_none [] = tt
asks_none (r ∷ rows) =
    all-put nat_list_cmp_total notice_key (λ (n : NoticeRow). n.performance ≡ 0) (records_of former_form.cmp former_form.key former_form.stored former_form.back rows) (former_form.back r) refl (asks_none rows)

has_no_performances : (edition : ℕ) (db : Database) (t : Tables) (n : ℕ) → nat_lt edition 2 ≡ true → StandsOrMissing edition db t Performances n → t.performances ≡ []
has_no_performances edition db t n early (inl it) = absurd (true≢false (sym early ∙ it.0))
has_no_performances edition db t n early (inr it) = sym it.2.is

pub no_performances : (edition : ℕ) (db : Database) (t : Tables) → IsTrue (nat_lt edition 2) → HoldsEdition edition db t → KnowsNoPerformances t
no_performances edition db t early was =
    let stand = (former_there edition db t (was.places FormerNotices) (was.each FormerNotices)).1 in
    record {
      notices = subst (λ had. AllByRecursion (λ (n : NoticeRow). n.performance ≡ 0) (former_part had t.notices)) early
          (subst (AllByRecursion (λ (n : NoticeRow). n.performance ≡ 0)) stand.is (asks_none (db.trees (was.places FormerNotices))));
      securities = has_no_performances edition db t (was.places Performances) early (was.each Performances);
    }

-- the clock in the row that was found
abbrev pub former_clock_in : Row → FormerClock
former_clock_in r = record { version = number_in_value (column r 0); row = clock_read r }

pub clock_found : (o : Option Row) → option_map (λ (c : FormerClock). c.row) (option_map former_clock_in o) ≡ option_map clock_read o
clock_found None = refl
clock_found (Some r) = refl

-- the notice in a row
abbrev pub former_notice_in : Row → FormerNotice
former_notice_in r = record { row = former_read r }

pub notices_read : (rows : List Row) → map (λ (n : FormerNotice). n.row) (map former_notice_in rows) ≡ map former_read rows
notices_read [] = refl
notices_read (r ∷ rows) = ap (λ l. former_read r ∷ l) (notices_read rows)

-- ---- the tables that it lacks are made

-- The rows of a table hold its part as before. Or the table was made: then it has no rows, and the content nothing for it.
abbrev StandsOrMade : ℕ → OfficeTable → List Row → Tables → Type 0
StandsOrMade edition k rows t =
    ((lacks_table edition k ≡ false) × StandForEdition edition k rows t) ⊎ ((lacks_table edition k ≡ true) × (rows ≡ []) × StandFor k [] (besides_former edition t))

record IsReady (edition : ℕ) (db : Database) (t : Tables) : Type 0 where
  sound : IsDatabase db
  places : Places
  tables : HasTables db.schema places
  stands : (k : OfficeTable) → StandsOrMade edition k (db.trees (places k)) t

stands_or_made : (edition : ℕ) (old new : Database) (t : Tables) (ks : List OfficeTable) → ((k : OfficeTable) → lacks_table edition k ≡ true → Has ks k) → AreMade ks new → KeepsOffice old new → (k : OfficeTable) (n : ℕ)
    → StandsOrMissing edition old t k n → (m : ℕ) × IsIn new.schema (table_of k) m × StandsOrMade edition k (new.trees m) t
stands_or_made edition old new t ks all made stays k n (inl it) =
    let kept = stays k n it.1 in
    (n, kept.0, inl (it.0, subst (λ rows. StandForEdition edition k rows t) (sym kept.1) it.2))
stands_or_made edition old new t ks all made stays k n (inr it) =
    let fresh = all_has (λ (j : OfficeTable). (m : ℕ) × IsIn new.schema (table_of j) m × (new.trees m ≡ [])) ks k made.each (all k it.0) in
    (fresh.0, fresh.1, inr (it.0, fresh.2, it.2))

ready : (edition : ℕ) (old new : Database) (t : Tables) (ks : List OfficeTable) → ((k : OfficeTable) → lacks_table edition k ≡ true → Has ks k) → AreMade ks new → KeepsOffice old new → HoldsEdition edition old t
    → IsReady edition new t
ready edition old new t ks all made stays was =
    let stands : (k : OfficeTable) → (m : ℕ) × IsIn new.schema (table_of k) m × StandsOrMade edition k (new.trees m) t = λ k. stands_or_made edition old new t ks all made stays k (was.places k) (was.each k) in
    record { sound = made.sound; places = λ k. (stands k).0; tables = λ k. (stands k).1; stands = λ k. (stands k).2 }

-- `notices` and `office` existed before
former_stands : (edition : ℕ) (rows : List Row) (t : Tables) → StandsOrMade edition FormerNotices rows t → FormerStand (had_former edition) rows t.notices
former_stands edition rows t (inl it) = it.1
former_stands edition rows t (inr it) = absurd (true≢false (sym it.0 ∙ none_lacks edition))

clock_stands : (edition : ℕ) (rows : List Row) (t : Tables) → StandsOrMade edition Office rows t → RowsStand (clock_form_of (version_of edition)) rows (t.clock ∷ [])
clock_stands edition rows t (inl it) = it.1
clock_stands edition rows t (inr it) = absurd (true≢false (sym it.0 ∙ none_lacks edition))

-- ---- the rows of two tables are deleted

drop_notices_read : IsDelete drop_notices (codes "notices") None (parsed_in (parsed drop_notices))
unfolding everything parsed_in
drop_notices_read = record { is = refl; statement = refl; formats = refl }

drop_notices_means : (schema : Schema) (n : ℕ) (it : IsIn schema former_notices n) → StatementMeans schema drop_notices (Delete it.place (record { lets = []; body = select n [] (0 ∷ []) [] }))
unfolding same_name
drop_notices_means schema n it =
    delete_means schema former_notices n it refl drop_notices None _ drop_notices_read [] _ _ (no_test schema it.place (at_tree former_notices n) it.found former_notices.name [] max_budget nothing)
    (rw (it.stored, found_by_tree schema former_notices n it))

drop_version_read : IsDelete drop_version (codes "office") None (parsed_in (parsed drop_version))
unfolding everything parsed_in
drop_version_read = record { is = refl; statement = refl; formats = refl }

drop_version_means : (schema : Schema) (n : ℕ) (it : IsIn schema office n) → StatementMeans schema drop_version (Delete it.place (record { lets = []; body = select n [] (0 ∷ []) [] }))
unfolding same_name
drop_version_means schema n it =
    delete_means schema office n it refl drop_version None _ drop_version_read [] _ _ (no_test schema it.place (at_tree office n) it.found office.name [] max_budget nothing)
    (rw (it.stored, found_by_tree schema office n it))

-- the rowids of rows that hold records are numbers
numbered : {K X : Type 0} {R : K → K → Ordering} {key : X → K} {form : Value → X → Row} {decode : Row → X} {rows : List Row} {xs : List X} → Stand R key form decode rows xs → (r : Row) → Has rows r → is_int (rowid r) ≡ true
numbered {rows} stand r there = (all_has _ rows r stand.kept.each there).0

-- `notices` has no rows any more; the other tables of the office and the tables apart are as before
record IsCleared (had : Bool) (old new : Database) (p : Places) : Type 0 where
  schema : new.schema ≡ old.schema
  sound : IsDatabase new
  rows : (λ j. new.trees (p j)) ≡ with_rows (λ j. old.trees (p j)) FormerNotices []
  apart : (marked : ℕ → Bool) → LeadsInside old.schema marked → (had ≡ true → marked (p FormerNotices) ≡ false) → (u : Table) → Has old.schema.tables u → marked u.tree ≡ true → new.trees u.tree ≡ old.trees u.tree

cleared : {S : Type 0} (g : Ghosts S) (had : Bool) (from to : Held S) (p : Places) (notices : List NoticeRow) → HasTables (state g from).now.schema p → IsDatabase (state g from).now
    → FormerStand had ((state g from).now.trees (p FormerNotices)) notices → DropsFormer g had from to → IsCleared had (state g from).now (state g to).now p
cleared g true from to p notices tables sound stand it =
    let old = state g from in
    let one = empties FormerNotices bare old (state g to) p tables drop_notices it.0 (drop_notices_means old.now.schema (p FormerNotices) (tables FormerNotices)) (numbered stand) it.1.0 in
    record { schema = one.schema; sound = one.sound; rows = one.rows; apart = λ marked inside out u there is_marked. one.apart marked inside (out refl) u there is_marked }
cleared {S} g false from to p notices tables sound none same =
    let db : Trees = (state g from).now.trees in
    record {
      schema = ap (λ (h : Held S). (state g h).now.schema) same;
      sound = subst (λ (h : Held S). IsDatabase (state g h).now) (sym same) sound;
      rows = ap {B = OfficeTable → List Row} (λ (h : Held S) (j : OfficeTable). (state g h).now.trees (p j)) same ∙ changed (state g from).now.schema p tables db db FormerNotices (λ j other. refl)
          ∙ ap (with_rows (λ j. db (p j)) FormerNotices) none;
      apart = λ marked inside out u there is_marked. ap (λ (h : Held S). (state g h).now.trees u.tree) same;
    }

-- the tables that the migration changes have these among them
office_changes : (had : Bool) → Has (changed_where had) Office
office_changes true = inl refl
office_changes false = inl refl

former_changes : (had : Bool) → had ≡ true → Has (changed_where had) FormerNotices
former_changes true is = inr (inl refl)
former_changes false is = absurd (true≢false (sym is))

pub notices_change : (had : Bool) → had ≡ true → Has (changed_where had) Notices
notices_change true is = inr (inr (inl refl))
notices_change false is = absurd (true≢false (sym is))

-- ---- this program's version is put

-- the rows now hold an office without the notices that were in `notices`
renewed_stands : (edition : ℕ) (rows : OfficeTable → List Row) (now : List Row) (t : Tables) → ((k : OfficeTable) → StandsOrMade edition k (rows k) t) → StandFor Office now t
    → Stands (with_rows (with_rows (with_rows rows FormerNotices []) Office []) Office now) (besides_former edition t)
renewed_stands edition rows now t stood clock FormerNotices = refl
renewed_stands edition rows now t stood clock Office = clock
renewed_stands edition rows now t stood clock k = elim (stood k) [
  | inl it ↦ it.1
  | inr it ↦ subst (λ (r : List Row). StandFor k r (besides_former edition t)) (sym it.1) it.2
]

module _ {S : Type 0} (g : Ghosts S) (edition : ℕ) (clock : ClockRow) (old : State) (from to : Held S) (made : MakesMissing edition old (state g from)) (it : Renews g edition clock from to) where
  abbrev mid : State
  mid = state g from

  abbrev first : State
  first = state g it.first

  abbrev second : State
  second = state g it.second

  abbrev new : State
  new = state g to

  migrated : (t : Tables) → HoldsEdition edition old.now t → t.clock ≡ clock → IsMigrated edition (besides_former edition t) old.now new.now
  unfolding row_put
  migrated t was same =
      let all = made.2.made [] (record { sound = was.sound; each = tt }) in
      let there = ready edition old.now mid.now t made.0 made.1 (subst (λ l. AreMade l mid.now) (append-nil made.0) all) made.2.stays was in
      let p = there.places in
      let one = cleared g (had_former edition) from it.first p t.notices there.tables there.sound (former_stands edition (mid.now.trees (p FormerNotices)) t (there.stands FormerNotices)) it.dropped in
      let tables_1 : HasTables first.now.schema p = subst (λ s. HasTables s p) (sym one.schema) there.tables in
      let clock_at : first.now.trees (p Office) ≡ mid.now.trees (p Office) = ap (λ (f : OfficeTable → List Row). f Office) one.rows in
      let two = empties Office bare first second p tables_1 drop_version it.freed.0 (drop_version_means first.now.schema (p Office) (tables_1 Office))
      (numbered (clock_stands edition (first.now.trees (p Office)) t (subst (λ rows. StandsOrMade edition Office rows t) (sym clock_at) (there.stands Office)))) it.freed.1.0 in
      let tables_2 : HasTables second.now.schema p = subst (λ s. HasTables s p) (sym two.schema) tables_1 in
      let empty : second.now.trees (p Office) ≡ [] = ap (λ (f : OfficeTable → List Row). f Office) two.rows in
      let none : RowsStand clock_form (second.now.trees (p Office)) [] = no_rows empty in
      let done = puts_row Office bare clock_form clock_shape clock_put.stored second new p tables_2 upsert_office clock it.put.0 []
      (put_means clock_put second.now.schema (p Office) (tables_2 Office)) (λ v. refl) none it.put.1.0 in
      let rows : (λ j. new.now.trees (p j)) ≡ with_rows (with_rows (with_rows (λ j. mid.now.trees (p j)) FormerNotices []) Office []) Office (new.now.trees (p Office)) =
      done.rows ∙ ap (λ r. with_rows r Office (new.now.trees (p Office))) (two.rows ∙ ap (λ r. with_rows r Office []) one.rows) in
      let kept = clock_apart second.step_limit clock second.now new.now (p Office) (tables_2 Office)
      (made_of upsert_office (clock_values clock) second new _ (put_means clock_put second.now.schema (p Office) (tables_2 Office)) refl refl it.put.0 it.put.1.0) in
      let schema_2 : second.now.schema ≡ mid.now.schema = two.schema ∙ one.schema in
      let tables_3 : HasTables new.now.schema p = subst (λ s. HasTables s p) (sym done.schema) tables_2 in
      record {
        held = record {
          sound = done.sound;
          places = p;
          tables = tables_3;
          stands = subst (λ r. Stands r (besides_former edition t)) (sym rows)
              (renewed_stands edition (λ j. mid.now.trees (p j)) (new.now.trees (p Office)) t there.stands
              (subst (λ c. StandFor Office (new.now.trees (p Office)) (record t { clock = c })) (sym same) done.stand));
        };
        others = λ u stood.
            let first_kept = made.2.others u stood in
            let here : Has second.now.schema.tables u = subst (λ (s : Schema). Has s.tables u) (sym schema_2) first_kept.0 in (
              subst (λ (s : Schema). Has s.tables u) (sym done.schema) here,
              λ marked apart is_marked.
                  let inside_2 : LeadsInside second.now.schema marked = subst (λ s. LeadsInside s marked) done.schema apart.inside in
                  let inside_1 : LeadsInside first.now.schema marked = subst (λ s. LeadsInside s marked) two.schema inside_2 in
                  let inside : LeadsInside mid.now.schema marked = subst (λ s. LeadsInside s marked) one.schema inside_1 in
                  let clock_out : marked (p Office) ≡ false = apart.others Office (office_changes (had_former edition)) (p Office) (tables_3 Office) in
                  kept.1 marked inside_2 clock_out u here is_marked
                  ∙ two.apart marked inside_1 clock_out u (subst (λ (s : Schema). Has s.tables u) (sym one.schema) first_kept.0) is_marked
                  ∙ one.apart marked inside (λ had. apart.others FormerNotices (former_changes (had_former edition) had) (p FormerNotices) (tables_3 FormerNotices)) u first_kept.0 is_marked
                  ∙ first_kept.1,
            );
        added = subst (AddsNoReference old.now.schema) (sym (done.schema ∙ schema_2)) made.2.added;
      }

-- ---- if the edition doesn't use `notices`, nothing is deleted there

drops_goes : {S : Type 0} (g : Ghosts S) (had : Bool) (a : State) (b c : Held S) → Goes a (state g b) → DropsFormer g had b c → Goes a (state g c)
drops_goes g true a b c goes it = goes_then a (state g b) (state g c) goes (goes_on (state g b) (state g c) it.1.1)
drops_goes {S} g false a b c goes same = subst (λ (h : Held S). Goes a (state g h)) (sym same) goes

pub drops_inside : {S : Type 0} (g : Ghosts S) (had : Bool) (b c : Held S) → IsTrue (state g b).in_transaction → DropsFormer g had b c → IsTrue (state g c).in_transaction
drops_inside g true b c inside it = (goes_on (state g b) (state g c) it.1.1).mode
drops_inside {S} g false b c inside same = subst (λ (h : Held S). IsTrue (state g h).in_transaction) (sym same) inside

pub drops_refused : {S : Type 0} (g : Ghosts S) (had : Bool) (a b : Held S) (c : State) → DropsFormer g had a b → Refused (state g b) c → Refused (state g a) c
drops_refused g true a b c it refused = goes_refused (state g a) (state g b) c (goes_on (state g a) (state g b) it.1.1) refused
drops_refused {S} g false a b c same refused = subst (λ (h : Held S). Refused (state g h) c) same refused

pub begins : {S : Type 0} (g : Ghosts S) (edition : ℕ) (clock : ClockRow) (old : State) (from to : Held S) → MakesMissing edition old (state g from) → Renews g edition clock from to
    → Begins edition clock old (state g to)
begins g edition clock old from to made it = record {
  goes = goes_then old (state g it.first) (state g to) (drops_goes g (had_former edition) old from it.first made.2.goes it.dropped)
      (goes_then (state g it.first) (state g it.second) (state g to) (goes_on (state g it.first) (state g it.second) it.freed.1.1) (goes_on (state g it.second) (state g to) it.put.1.1));
  tables = migrated g edition clock old from to made it;
}
