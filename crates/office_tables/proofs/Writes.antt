-- The put of one record into one table of the office.
use Rattle.office_tables.proofs.Names.{◌≡◌, ◌≢◌, inl, inr, ℕ, ℤ, true, false, not, cond, ◌&&◌, List, [], ◌∷◌, ◌++◌, map, drop, Option, None, Some, Ok, refl, sym, ap, ap₂, subst, subst₂, ◌∙◌, slice_get, true≢false, bytes_eq, length, ◌/◌, Ordering, IsTotalOrder, IsAntisymmetric, AllByRecursion, IsPermutation, is_eq, bytes_eq-Decides, cases_Bool, and_parts, not-true, Value, Null, Int, Binary, Row, value_cmp, plain, Trees, rowid, put_row, is_int, Term, output, Enforced, Schema, Table, Program, Command, InsertOr, Abort, Values, agree, equal, table_named, Chosen, Given, Has, cast_row, AreConflicts, conflicts, id_in, with_rowid, next_rowid, without_all, put_all, is_taken, are_fresh, ids_of, all_has, int_is, place_has, Database, IsDatabase, value_rows, Task, Written, InsertsOr, shown, stamped, Tally, AtPlace, OnRows, Does, understood, mode_of, Executes, text_of, Mode, runs_as, command_of, IsPlain, row_put, OfficeTable, table_of, IsIn, at_tree, Places, HasTables, Form, key_of, AreKept, Stand}
use Rattle.sqlite_value.specs.Order.{column}
use Rattle.sqlite_sql.specs.Query.{Output}
use Rattle.sqlite_rules.specs.Edit.{numbered as numbered_rows}
use Rattle.sqlite.specs.State.{State}
use Rattle.sqlite_resolve.specs.declared.compiled.Compiled.{Compiled}
use Rattle.office_tables.specs.Kept.{rows_kept as table_of_rows}
use Rattle.office_tables.proofs.Childless.{IsOwn, SparesMarked, spared_own}
use Rattle.office_tables.proofs.Keyed.{HasKey, conflicts_key}
use Rattle.office_tables.proofs.Cells.{and_true}
use Rattle.office_tables.proofs.Selected.{picked, passes_query}
use Rattle.office_tables.proofs.Asking.{overlaid}
use Rattle.office_tables.proofs.Renewed.{rowids_tested, picks_one, in_one_order}
use Rattle.office_tables.proofs.Upserted.{went, same_value, IsAdded, IsRenewed, IsUpserted, tried, upserted, spared, others}
use Rattle.office_tables.proofs.Upserts.{Shape, updating, update_of, on_conflict}
use Rattle.office_tables.proofs.Meanings.{StatementMeans}
use Rattle.office_tables.proofs.RowsPut as put

-- ---- the tables of an office are apart from each other

-- the rows of all tables, with those of one table replaced
abbrev pub with_rows : (OfficeTable → List Row) → OfficeTable → List Row → OfficeTable → List Row
with_rows rows k changed j = cond (bytes_eq (table_of j).name (table_of k).name) changed (rows j)

pub own_table : (schema : Schema) (table : Table) (n : ℕ) → table.references ≡ [] → IsIn schema table n → IsOwn schema n
own_table schema table n childless it = record {
  table = at_tree table n;
  there = place_has schema.tables it.place (at_tree table n) it.found;
  tree = refl;
  childless = λ t there same. ap (λ (t : Table). t.references) (it.alone t there same) ∙ childless;
}

module _ (schema : Schema) (p : Places) (tables : HasTables schema p) where
  -- tables with different names have different trees
  apart : (j k : OfficeTable) → bytes_eq (table_of j).name (table_of k).name ≡ false → p k ≡ p j → ⊥
  apart j k other same =
      let there = place_has schema.tables (tables k).place (at_tree (table_of k) (p k)) (tables k).found in
      let one : at_tree (table_of k) (p k) ≡ at_tree (table_of j) (p j) = (tables j).alone _ there same in
      let tie : bytes_eq (table_of j).name (table_of k).name ≡ true = (bytes_eq-Decides _ _).1 (sym (ap (λ (t : Table). t.name) one)) in
      true≢false (sym tie ∙ other)

  -- tables with the same name have the same tree
  together : (j k : OfficeTable) → bytes_eq (table_of j).name (table_of k).name ≡ true → p j ≡ p k
  together j k same =
      let name : (table_of j).name ≡ (table_of k).name = (bytes_eq-Decides _ _).0 same in
      let places : Some (tables j).place ≡ Some (tables k).place = sym (tables j).named ∙ ap (table_named schema) name ∙ (tables k).named in
      let place : (tables j).place ≡ (tables k).place = cc in
      let found : Some (at_tree (table_of j) (p j)) ≡ Some (at_tree (table_of k) (p k)) = sym (tables j).found ∙ ap (slice_get schema.tables) place ∙ (tables k).found in
      let one : at_tree (table_of j) (p j) ≡ at_tree (table_of k) (p k) = cc in
      ap (λ (t : Table). t.tree) one

  pub changed : (db next : Trees) (k : OfficeTable) → ((j : OfficeTable) → (p k ≡ p j → ⊥) → next (p j) ≡ db (p j)) → (λ j. next (p j)) ≡ with_rows (λ j. db (p j)) k (next (p k))
  changed db next k others = λ i j. each j i
    where
      each : (j : OfficeTable) → next (p j) ≡ cond (bytes_eq (table_of j).name (table_of k).name) (next (p k)) (db (p j))
      each j = elim (cases_Bool (bytes_eq (table_of j).name (table_of k).name)) [
        | inl same ↦ rw same (ap next (together j k same))
        | inr other ↦ rw other (others j (apart j k other))
      ]

-- ---- one put

-- the facts about a put that compute, whatever the record
pub record IsPlainPut (k : OfficeTable) {K X : Type 0} (f : Form K X) (s : Shape) : Type 0 where
  -- the values of the text are the record's, at a rowid that the database chooses or that is the key
  pub given : (n : ℕ) (x : X) → value_rows (stamped (at_tree (table_of k) n) (f.row x)) (length s.terms) (length s.terms / length s.terms) s.terms ≡ f.stored Null x ∷ []
  pub chosen : (rows : List Row) (x : X) → with_rowid Chosen rows (f.stored Null x) ≡ f.stored (Int (next_rowid rows)) x
  pub numbered : (m : ℤ) (x : X) → is_int (rowid (f.stored (Int m) x)) ≡ true
  pub kept : (m : ℤ) (x : X) → f.stored (rowid (f.stored (Int m) x)) x ≡ f.stored (Int m) x
  -- the update finds the rowid after the record's values
  pub finds : (x : X) (id : Value) (more : Row) → column (f.row x ++ id ∷ more) s.base ≡ id

-- the facts about the columns and the key of a table that a put needs
pub record IsStored (k : OfficeTable) {K X : Type 0} (f : Form K X) (s : Shape) : Type 0 where
  pub total : IsTotalOrder f.cmp
  pub exact : IsAntisymmetric f.cmp
  pub computes : IsPlainPut k f s
  -- its columns take the values as they are
  pub tries : (n : ℕ) (x : X) → cast_row (at_tree (table_of k) n) (f.stored Null x) ≡ f.stored Null x
  pub stores : (n : ℕ) (m : ℤ) (x : X) → cast_row (at_tree (table_of k) n) (f.stored (Int m) x) ≡ f.stored (Int m) x
  -- rows agree in the columns of the key exactly if their records have the same key
  pub meets : (u v : Value) (x y : X) → f.key x ≡ f.key y → agree plain (table_of k).primary (f.stored u x) (table_of k).primary (f.stored v y) ≡ true
  pub met : (u v : Value) (x y : X) → agree plain (table_of k).primary (f.stored u x) (table_of k).primary (f.stored v y) ≡ true → f.key x ≡ f.key y
  -- the update puts the record's values at that rowid
  pub updates : (n : ℕ) (x y : X) (v : Value) (more : Row) → f.key y ≡ f.key x
      → (output (updating n s.base s.cells) ((f.row x ++ more) ∷ f.stored v y ∷ [])).1 ≡ rowid (f.stored v y) ∷ f.stored (rowid (f.stored v y)) x

-- no table of the office has foreign keys or counts its rowids, and each has a key
pub record IsBare (table : Table) : Type 0 where
  pub childless : table.references ≡ []
  pub key : HasKey table
  pub uncounted : table.is_counted ≡ false

-- one table has one more row, or another row in place of one
pub record IsPut (k : OfficeTable) {K X : Type 0} (R : K → K → Ordering) (key : X → K) (form : Value → X → Row) (decode : Row → X) (old new : Database) (p : Places) (after : List X) : Type 0 where
  pub schema : new.schema ≡ old.schema
  pub sound : IsDatabase new
  pub rows : (λ j. new.trees (p j)) ≡ with_rows (λ j. old.trees (p j)) k (new.trees (p k))
  pub stand : Stand R key form decode (new.trees (p k)) after

module _ (k : OfficeTable) (bare : (j : OfficeTable) → IsBare (table_of j)) {K X : Type 0} (f : Form K X) (s : Shape) (it : IsStored k f s)
    (old new : State) (p : Places) (tables : HasTables old.now.schema p) where
  abbrev R : K → K → Ordering
  R = f.cmp

  abbrev key : X → K
  key = f.key

  abbrev encode : X → Row
  encode = f.row

  abbrev form : Value → X → Row
  form = f.stored

  abbrev decode : Row → X
  decode = f.back

  abbrev terms : List Term
  terms = s.terms

  abbrev own : Table
  own = at_tree (table_of k) (p k)

  abbrev task : Row → Task
  task params = record { limit = old.step_limit; keys = Enforced; schema = old.now.schema; table = own; params = params }

  is_own : (j : OfficeTable) → IsOwn old.now.schema (p j)
  is_own j = own_table old.now.schema (table_of j) (p j) (bare j).childless (tables j)

  abbrev target : Option (List ℕ)
  target = Some (table_of k).primary

  abbrev q : Program
  q = update_of (p k) s.base s.cells

  abbrev puts : Command
  puts = InsertOr (tables k).place Abort (Values terms (length terms)) (on_conflict own s.base s.cells ∷ [])

  -- the statement is one write of the rows
  written : (text : List ℕ) (params : Row) (count : ℕ) → StatementMeans old.now.schema text puts → Executes text params old new (Ok count)
      → (w : Written) × InsertsOr (task params) Abort (on_conflict own s.base s.cells ∷ []) (Values terms (length terms)) old.now.trees (Ok w) × (new.now ≡ record { schema = old.now.schema; trees = w.trees }) × IsDatabase new.now
  written text params count means h =
      let w = runs_as text params old new old.now.schema refl puts means.is means.plain count h in
      let done = went (subst (λ o. AtPlace (λ table. OnRows (record { limit = old.step_limit; keys = Enforced; schema = old.now.schema; table = table; params = params }) (mode_of old) None puts old.now.trees) o (Ok (w.tally, new.now))) (tables k).found w.changed) in
      (done.0, done.1, ap (λ (p : Tally × Database). p.1) (same_value (went (went done.2).2).2), w.sound)

  -- the row of a record, at a rowid that is a number
  at_number : (v : Value) (x : X) → is_int v ≡ true → (cast_row own (form v x) ≡ form v x) × (is_int (rowid (form v x)) ≡ true) × (form v x ≡ form (rowid (form v x)) x)
  at_number v x int = subst (λ v. (cast_row own (form v x) ≡ form v x) × (is_int (rowid (form v x)) ≡ true) × (form v x ≡ form (rowid (form v x)) x)) (sym (int_is v int)) (it.stores (p k) (id_in v) x, it.computes.numbered (id_in v) x, sym (it.computes.kept (id_in v) x))

  module _ (x : X) (decodes : (v : Value) → decode (form v x) ≡ x) (db next : Trees) (was : AreKept R key form decode (db (p k))) where
    abbrev rows : List Row
    rows = db (p k)

    -- the row that the put tries to insert
    abbrev first : Row
    first = form (Int (next_rowid rows)) x

    first_is : tried (task (encode x)) db (form Null x) ≡ first
    first_is = ap (with_rowid Chosen rows) (it.tries (p k) x) ∙ it.computes.chosen rows x

    abbrev Conflicting : Row → List Row → Type 0
    Conflicting = AreConflicts target old.now.schema.indexes own rows

    form_of : (r : Row) → Has rows r → r ≡ form (rowid r) (decode r)
    form_of r h = (all_has _ rows r was.each h).1

    -- a row that has the record's key conflicts
    conflicting : (r : Row) → Has rows r → key_of R key form decode r ≡ key x → conflicts target old.now.schema.indexes own first r ≡ true
    conflicting r h e =
        conflicts_key old.now.schema (table_of k) (p k) (tables k) (bare k).key first r
        ∙ ap (λ y. agree plain (table_of k).primary y (table_of k).primary first) (form_of r h) ∙ it.meets (rowid r) (Int (next_rowid rows)) (decode r) x e

    -- no other row conflicts
    conflicted : (r : Row) → Has rows r → conflicts target old.now.schema.indexes own first r ≡ true → key_of R key form decode r ≡ key x
    conflicted r h e =
        it.met (rowid r) (Int (next_rowid rows)) (decode r) x
        (ap (λ y. agree plain (table_of k).primary y (table_of k).primary first) (sym (form_of r h)) ∙ sym (conflicts_key old.now.schema (table_of k) (p k) (tables k) (bare k).key first r) ∙ e)

    -- a row is added
    added : (xs : List X) → table_of_rows R key form decode rows ≡ xs → IsAdded (task (encode x)) target q db next first → Stand R key form decode (next (p k)) (row_put R key xs x)
    added xs is h =
        let shape = at_number (Int (next_rowid rows)) x refl in
        let after : next (p k) ≡ put_row first rows = h.rows ∙ ap (λ r. put_all rows (r ∷ [])) shape.0 in
        let free : is_taken rows first ≡ false = not-true _ (and_parts _ _ (ap (λ r. not (is_taken rows r) && true) (sym shape.0) ∙ h.fresh)).0 in
        subst (λ rs. Stand R key form decode rs (row_put R key xs x)) (sym after)
        (put.stands R it.total it.exact key form decode rows was x first (decodes (Int (next_rowid rows))) shape.1 shape.2 [] free (λ r there e. h.none.complete r there (conflicting r there e)) (λ id none. absurd none) xs is)

    -- the row that has the key is replaced
    renewed : (xs : List X) → table_of_rows R key form decode rows ≡ xs → IsRenewed (task (encode x)) target q db next first → Stand R key form decode (next (p k)) (row_put R key xs x)
    renewed xs is h =
        let met = h.conflicting.sound h.there (inl refl) in
        let same_key = conflicted met.0 met.1 met.2 in
        let int = (all_has _ rows met.0 was.each met.1).0 in
        let id = rowid met.0 in
        let given = encode x ++ rowid h.there ∷ shown own first in
        let here = h.answers.answer Null in
        let query = updating (p k) s.base s.cells in
        let finds : column given s.base ≡ id = it.computes.finds x (rowid h.there) (shown own first) ∙ ap rowid met.3 in
        let passes : (r : Row) → Has rows r → passes_query query given r ≡ is_eq (value_cmp (rowid r) id) = λ r there.
        ap (λ v. equal Binary (rowid r) v && true) finds ∙ and_true _ ∙ rowids_tested (rowid r) id (all_has _ rows r was.each there).0 int in
        let staged : here.staged ≡ (given ∷ met.0 ∷ []) ∷ [] =
        subst (λ tree. here.staged ≡ picked (passes_query query given) (λ r. given ∷ r ∷ []) tree) (overlaid db (p k)) here.grouped ∙ picks_one (passes_query query given) (λ r. given ∷ r ∷ []) rows was.rising met.0 met.1 passes in
        let ordered = in_one_order (output query (given ∷ met.0 ∷ [])) here.ordered (subst (λ l. IsPermutation l here.ordered) (here.distinct ∙ ap (map (output query)) staged) here.same) in
        let shows : (output query (given ∷ met.0 ∷ [])).1 ≡ id ∷ form id x =
        subst (λ r. (output query (given ∷ r ∷ [])).1 ≡ rowid r ∷ form (rowid r) x) (sym (form_of met.0 met.1)) (it.updates (p k) x (decode met.0) id (rowid h.there ∷ shown own first) same_key) in
        let answer : h.answer ≡ (id ∷ form id x) ∷ [] = here.shown ∙ ap (map (λ (o : Output). o.1)) ordered ∙ ap (λ r. r ∷ []) shows in
        let shape = at_number id x int in
        let news : numbered_rows Given (without_all rows (ids_of h.answer)) (map (λ r. cast_row own (drop 1 r)) h.answer) ≡ form id x ∷ [] = ap (λ l. numbered_rows Given (without_all rows (ids_of l)) (map (λ r. cast_row own (drop 1 r)) l)) answer ∙ ap (λ r. r ∷ []) shape.0 in
        let ids = id_in id ∷ [] in
        let left : without_all rows (ids_of h.answer) ≡ without_all rows ids = ap (λ l. without_all rows (ids_of l)) answer in
        let after : next (p k) ≡ put_row (form id x) (without_all rows ids) = h.rows ∙ ap₂ put_all left news in
        let free : is_taken (without_all rows ids) (form id x) ≡ false = not-true _ (and_parts _ _ (sym (ap₂ are_fresh left news) ∙ h.fresh)).0 in
        subst (λ rs. Stand R key form decode rs (row_put R key xs x)) (sym after)
        (put.stands R it.total it.exact key form decode rows was x (form id x) (decodes id) shape.1 shape.2 ids free
        (λ r there e. inl (ap (λ y. id_in (rowid y)) (was.one r met.0 there met.1 (e ∙ sym same_key)))) (λ i listed. elim listed [ inl e ↦ (met.0, met.1, same_key, e) | inr none ↦ absurd none ]) xs is)

    upserted_stands : (xs : List X) → table_of_rows R key form decode rows ≡ xs → IsUpserted (task (encode x)) target q db next (form Null x) → Stand R key form decode (next (p k)) (row_put R key xs x)
    upserted_stands xs is (inl h) = added xs is (subst (IsAdded (task (encode x)) target q db next) first_is h)
    upserted_stands xs is (inr h) = renewed xs is (subst (IsRenewed (task (encode x)) target q db next) first_is h)

  pub puts_row : (text : List ℕ) (x : X) (count : ℕ) (xs : List X) → StatementMeans old.now.schema text puts
      → ((v : Value) → decode (form v x) ≡ x) → Stand R key form decode (old.now.trees (p k)) xs → Executes text (encode x) old new (Ok count)
      → IsPut k R key form decode old.now new.now p (row_put R key xs x)
  puts_row text x count xs means decodes was h =
      let w = written text (encode x) count means h in
      let t = task (encode x) in
      let db = old.now.trees in
      let next = w.0.trees in
      let one : IsUpserted t target q db next (form Null x) = upserted t target q (bare k).uncounted (is_own k) db terms (length terms) (form Null x) w.0 (it.computes.given (p k) x) w.1 in
      record {
        schema = ap (λ (d : Database). d.schema) w.2;
        sound = w.3;
        rows = subst (λ (d : Database). (λ j. d.trees (p j)) ≡ with_rows (λ j. db (p j)) k (d.trees (p k))) (sym w.2)
            (changed old.now.schema p tables db next k (λ j other. spared_own old.now.schema (p k) (p j) db next (spared t target q db next (form Null x) one) (is_own j) other));
        stand = subst (λ (d : Database). Stand R key form decode (d.trees (p k)) (row_put R key xs x)) (sym w.2) (upserted_stands x decodes db next was.kept xs was.is one);
      }

  -- if the table was empty, all other tables keep their rows
  pub puts_others : (text : List ℕ) (x : X) (count : ℕ) → StatementMeans old.now.schema text puts → old.now.trees (p k) ≡ [] → Executes text (encode x) old new (Ok count)
      → (new.now.schema ≡ old.now.schema) × AllByRecursion (λ t. t.tree ≢ p k → new.now.trees t.tree ≡ old.now.trees t.tree) old.now.schema.tables
  puts_others text x count means empty h =
      let w = written text (encode x) count means h in
      let same = others (task (encode x)) target q (bare k).uncounted (is_own k) old.now.trees terms (length terms) (form Null x) w.0 empty (it.computes.given (p k) x) w.1 in
      (ap (λ (d : Database). d.schema) w.2, subst (λ (d : Database). AllByRecursion (λ t. t.tree ≢ p k → d.trees t.tree ≡ old.now.trees t.tree) old.now.schema.tables) (sym w.2) same)

-- tables apart keep their rows, whatever the text does to the office
module _ (k : OfficeTable) (bare : (j : OfficeTable) → IsBare (table_of j)) {K X : Type 0} (f : Form K X) (s : Shape) (it : IsStored k f s) (limit : Option ℕ) (first second : Database) (n : ℕ) (at : IsIn first.schema (table_of k) n) where
  abbrev upsert : Command
  upsert = InsertOr at.place Abort (Values s.terms (length s.terms)) (on_conflict (at_tree (table_of k) n) s.base s.cells ∷ [])

  abbrev mode : Mode
  mode = record { keys = Enforced; in_doubt = false; may_wait = false }

  abbrev own_task : Row → Task
  own_task params = record { limit = limit; keys = Enforced; schema = first.schema; table = at_tree (table_of k) n; params = params }

  pub put_apart : (text : List ℕ) (x : X) → StatementMeans first.schema text upsert → (c : Compiled) → understood first.schema text ≡ Ok c
      → (tally : Tally) → Does limit mode (f.row x) first (text_of text c) c.returning c.command (Ok (tally, second))
      → (second.schema ≡ first.schema) × SparesMarked first.schema n first.trees second.trees
  put_apart text x means c is tally does =
      let command : c.command ≡ upsert = sym (ap command_of is) ∙ means.is in
      let untold : c.returning ≡ None = (subst IsPlain is means.plain).0 in
      let named = subst₂ (λ returning command. Does limit mode (f.row x) first (text_of text c) returning command (Ok (tally, second))) untold command does in
      let done = went (subst (λ o. AtPlace (λ table. OnRows (record { limit = limit; keys = Enforced; schema = first.schema; table = table; params = f.row x }) mode None upsert first.trees) o (Ok (tally, second))) at.found named) in
      let now : second ≡ record { schema = first.schema; trees = done.0.trees } = ap (λ (p : Tally × Database). p.1) (same_value (went (went done.2).2).2) in
      let task = own_task (f.row x) in
      let target = Some (table_of k).primary in
      let q = update_of n s.base s.cells in
      let one : IsUpserted task target q first.trees done.0.trees (f.stored Null x) = upserted task target q (bare k).uncounted (own_table first.schema (table_of k) n (bare k).childless at) first.trees s.terms (length s.terms) (f.stored Null x) done.0 (it.computes.given n x) done.1 in (
        ap (λ (d : Database). d.schema) now,
        λ marked inside out t there is_marked.
            ap (λ (d : Database). d.trees t.tree) now ∙ spared task target q first.trees done.0.trees (f.stored Null x) one marked inside out t there is_marked,
      )
