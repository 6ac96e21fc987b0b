-- DELETE of the record of one key from one table of the office.
use Rattle.office_tables.proofs.Names.{◌≡◌, ◌∷◌, [], List, Ok, None, refl, sym, ap, subst, ◌∙◌, ℕ, map, Ordering, list_all, eq_by_cmp, Value, Null, Row, Trees, rowid, holds, output, Enforced, Table, Delete, Given, edit_of, without_all, IsPermutation, ids_of, Has, all_has, Database, IsDatabase, Answers, Task, Written, Deletes, Tally, AtPlace, OnRows, mode_of, Executes, runs_as, row_drop, Form, key_of, Stand, OfficeTable, table_of, at_tree, Places, HasTables}
use Rattle.sqlite.specs.State.{State}
use Rattle.office_tables.proofs.Childless.{IsOwn, writes, spared_own}
use Rattle.office_tables.proofs.Upserted.{went, same_value}
use Rattle.office_tables.proofs.Selected.{picked, passes_query}
use Rattle.office_tables.proofs.Asking.{overlaid}
use Rattle.office_tables.proofs.Selecting.{select, tested}
use Rattle.office_tables.proofs.Meanings.{StatementMeans}
use Rattle.office_tables.proofs.Upserts.{Shape}
use Rattle.office_tables.proofs.Writes.{IsStored, IsBare, own_table, changed}
use Rattle.office_tables.proofs.Writes.{IsPut}
use Rattle.office_tables.proofs.RowsDropped as drop

module _ (k : OfficeTable) (bare : (j : OfficeTable) → IsBare (table_of j)) {K X : Type 0} (f : Form K X) (s : Shape) (it : IsStored k f s)
    (old new : State) (p : Places) (tables : HasTables old.now.schema p) (tests : List ℕ) where
  abbrev R : K → K → Ordering
  R = f.cmp

  abbrev key : X → K
  key = f.key

  abbrev form : Value → X → Row
  form = f.stored

  abbrev decode : Row → X
  decode = f.back

  abbrev own : Table
  own = at_tree (table_of k) (p k)

  abbrev task : Row → Task
  task params = record { limit = old.step_limit; keys = Enforced; schema = old.now.schema; table = own; params = params }

  is_own : (j : OfficeTable) → IsOwn old.now.schema (p j)
  is_own j = own_table old.now.schema (table_of j) (p j) (bare j).childless (tables j)

  deleted : (text : List ℕ) (params : Row) (count : ℕ) → StatementMeans old.now.schema text (Delete (tables k).place (record { lets = []; body = select (p k) tests (0 ∷ []) [] })) → Executes text params old new (Ok count)
      → (w : Written) × Deletes (task params) (record { lets = []; body = select (p k) tests (0 ∷ []) [] }) old.now.trees (Ok w) × (new.now ≡ record { schema = old.now.schema; trees = w.trees }) × IsDatabase new.now
  deleted text params count means h =
      let command = Delete (tables k).place (record { lets = []; body = select (p k) tests (0 ∷ []) [] }) in
      let w = runs_as text params old new old.now.schema refl command means.is means.plain count h in
      let done = went (subst (λ o. AtPlace (λ table. OnRows (record { limit = old.step_limit; keys = Enforced; schema = old.now.schema; table = table; params = params }) (mode_of old) None command old.now.trees) o (Ok (w.tally, new.now))) (tables k).found w.changed) in
      (done.0, done.1, ap (λ (p : Tally × Database). p.1) (same_value (went (went done.2).2).2), w.sound)

  pub drops_row : (text : List ℕ) (params : Row) (count : ℕ) (xs : List X) (q : K) → StatementMeans old.now.schema text (Delete (tables k).place (record { lets = []; body = select (p k) tests (0 ∷ []) [] }))
      → ((v : Value) (x : X) → list_all (holds (params ∷ form v x ∷ [])) (tested 0 tests) ≡ eq_by_cmp R q (key x)) → Stand R key form decode (old.now.trees (p k)) xs → Executes text params old new (Ok count)
      → IsPut k R key form decode old.now new.now p (row_drop R key xs q)
  drops_row text params count xs q means passing was h =
      let w = deleted text params count means h in
      let db = old.now.trees in
      let rows = db (p k) in
      let queried = went w.1 in
      let a : Answers old.now (record { lets = []; body = select (p k) tests (0 ∷ []) [] }) params queried.0 = queried.1 in
      let here = a.answer Null in
      let edited = went queried.2 in
      let done = writes old.now.schema Enforced db edited.0 (edit_of db own (ids_of queried.0) Given 0 []) edited.1 in
      let trees : w.0.trees ≡ edited.0 = ap (λ (it : Written). it.trees) (same_value edited.2) in
      let query = select (p k) tests (0 ∷ []) [] in
      let staged : here.staged ≡ picked (passes_query query params) (λ r. params ∷ r ∷ []) rows = subst (λ tree. here.staged ≡ picked (passes_query query params) (λ r. params ∷ r ∷ []) tree) (overlaid db (p k)) here.grouped in
      let passes : (r : Row) → Has rows r → passes_query query params r ≡ eq_by_cmp R q (key_of R key form decode r) = λ r there.
      ap (passes_query query params) (all_has _ rows r was.kept.each there).1 ∙ passing (rowid r) (decode r) in
      let stand = drop.drops R it.total it.exact key form decode rows was.kept q (passes_query query params) passes (λ r. params ∷ r ∷ []) (output query) (λ r. refl) here.ordered
      (subst (λ l. IsPermutation l here.ordered) (here.distinct ∙ ap (map (output query)) staged) here.same) xs was.is in
      let after : new.now.trees (p k) ≡ without_all rows (ids_of queried.0) = ap (λ (d : Database). d.trees (p k)) w.2 ∙ ap (λ (t : Trees). t (p k)) trees ∙ done.own (p k) (is_own k) ∙ done.applies.rows in
      record {
        schema = ap (λ (d : Database). d.schema) w.2;
        sound = w.3;
        rows = changed old.now.schema p tables db new.now.trees k (λ j other. ap (λ (d : Database). d.trees (p j)) w.2 ∙ ap (λ (t : Trees). t (p j)) trees ∙ spared_own old.now.schema (p k) (p j) db edited.0 done.apart (is_own j) other);
        stand = subst (λ rs. Stand R key form decode rs (row_drop R key xs q)) (sym (after ∙ ap (λ l. without_all rows (ids_of l)) here.shown)) stand;
      }
