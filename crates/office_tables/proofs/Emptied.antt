-- DELETE of all rows of one table of the office.
use Rattle.office_tables.proofs.Names.{◌≡◌, inl, Bool, true, List, [], ◌∷◌, map, Ok, None, refl, sym, ap, subst, ◌∙◌, ℕ, true≢false, IsPermutation, IsPermutation-sym, Null, Row, Trees, rowid, is_int, output, Env, Enforced, Table, Delete, Given, edit_of, id_in, without_all, ids_of, Has, mapped_has, Database, IsDatabase, Answers, Task, Written, Deletes, Tally, AtPlace, OnRows, mode_of, Executes, runs_as, OfficeTable, table_of, at_tree, Places, HasTables}
use Rattle.sqlite_sql.specs.Query.{Output}
use Rattle.sqlite.specs.State.{State}
use Rattle.office_tables.proofs.Asking.{overlaid}
use Rattle.office_tables.proofs.Childless.{IsOwn, SparesMarked, writes, spared_own}
use Rattle.office_tables.proofs.Meanings.{StatementMeans}
use Rattle.office_tables.proofs.RowsDropped.{has_picked}
use Rattle.office_tables.proofs.RowsPut.{left_from, at_itself}
use Rattle.office_tables.proofs.Selected.{picked, passes_query, permuted_has}
use Rattle.office_tables.proofs.Selecting.{select}
use Rattle.office_tables.proofs.Upserted.{went, same_value}
use Rattle.office_tables.proofs.Writes.{IsBare, own_table, changed, with_rows}

none_there : {A : Type 0} (xs : List A) → ((x : A) → Has xs x → ⊥) → xs ≡ []
none_there [] none = refl
none_there (x ∷ xs) none = absurd (none x (inl refl))

-- if all rows pass, no row is left whose rowid isn't in the answer
module _ (rows : List Row) (numbered : (r : Row) → Has rows r → is_int (rowid r) ≡ true) (p : Row → Bool) (all : (r : Row) → Has rows r → p r ≡ true) (env : Row → Env) (out : Env → Output)
    (shown : (r : Row) → (out (env r)).1 ≡ rowid r ∷ []) (ordered : List Output) (same_rows_are : IsPermutation (map out (picked p env rows)) ordered) where
  abbrev answer : List Row
  answer = map (λ (o : Output). o.1) ordered

  abbrev left : List Row
  left = without_all rows (ids_of answer)

  listed : (r : Row) → Has rows r → Has answer (rowid r ∷ [])
  listed r h =
      let o : Has ordered (out (env r)) = permuted_has ordered (map out (picked p env rows)) (out (env r)) (IsPermutation-sym (map out (picked p env rows)) ordered same_rows_are) (mapped_has out (picked p env rows) (env r) (has_picked p env rows r h (all r h))) in
      subst (Has answer) (shown r) (mapped_has (λ (o : Output). o.1) ordered (out (env r)) o)

  pub all_gone : left ≡ []
  all_gone = none_there left (λ r h.
      let l = left_from (ids_of answer) rows r h in
      true≢false (sym (at_itself r (numbered r l.0)) ∙ l.1 (id_in (rowid r)) (mapped_has (λ y. id_in (rowid y)) answer (rowid r ∷ []) (listed r l.0))))

-- the table has no rows any more; the other tables of the office and the tables apart are as before
pub record IsEmptied (k : OfficeTable) (old new : Database) (p : Places) : Type 0 where
  pub schema : new.schema ≡ old.schema
  pub sound : IsDatabase new
  pub rows : (λ j. new.trees (p j)) ≡ with_rows (λ j. old.trees (p j)) k []
  pub apart : SparesMarked old.schema (p k) old.trees new.trees

module _ (k : OfficeTable) (bare : (j : OfficeTable) → IsBare (table_of j)) (old new : State) (p : Places) (tables : HasTables old.now.schema p) where
  abbrev own : Table
  own = at_tree (table_of k) (p k)

  abbrev task : Row → Task
  task params = record { limit = old.step_limit; keys = Enforced; schema = old.now.schema; table = own; params = params }

  is_own : (j : OfficeTable) → IsOwn old.now.schema (p j)
  is_own j = own_table old.now.schema (table_of j) (p j) (bare j).childless (tables j)

  deleted : (text : List ℕ) (count : ℕ) → StatementMeans old.now.schema text (Delete (tables k).place (record { lets = []; body = select (p k) [] (0 ∷ []) [] })) → Executes text [] old new (Ok count)
      → (w : Written) × Deletes (task []) (record { lets = []; body = select (p k) [] (0 ∷ []) [] }) old.now.trees (Ok w) × (new.now ≡ record { schema = old.now.schema; trees = w.trees }) × IsDatabase new.now
  deleted text count means h =
      let command = Delete (tables k).place (record { lets = []; body = select (p k) [] (0 ∷ []) [] }) in
      let w = runs_as text [] old new old.now.schema refl command means.is means.plain count h in
      let done = went (subst (λ o. AtPlace (λ table. OnRows (record { limit = old.step_limit; keys = Enforced; schema = old.now.schema; table = table; params = [] }) (mode_of old) None command old.now.trees) o (Ok (w.tally, new.now))) (tables k).found w.changed) in
      (done.0, done.1, ap (λ (p : Tally × Database). p.1) (same_value (went (went done.2).2).2), w.sound)

  pub empties : (text : List ℕ) (count : ℕ) → StatementMeans old.now.schema text (Delete (tables k).place (record { lets = []; body = select (p k) [] (0 ∷ []) [] })) → ((r : Row) → Has (old.now.trees (p k)) r → is_int (rowid r) ≡ true)
      → Executes text [] old new (Ok count) → IsEmptied k old.now new.now p
  empties text count means numbered h =
      let w = deleted text count means h in
      let db = old.now.trees in
      let rows = db (p k) in
      let queried = went w.1 in
      let a : Answers old.now (record { lets = []; body = select (p k) [] (0 ∷ []) [] }) [] queried.0 = queried.1 in
      let here = a.answer Null in
      let edited = went queried.2 in
      let done = writes old.now.schema Enforced db edited.0 (edit_of db own (ids_of queried.0) Given 0 []) edited.1 in
      let trees : w.0.trees ≡ edited.0 = ap (λ (it : Written). it.trees) (same_value edited.2) in
      let query = select (p k) [] (0 ∷ []) [] in
      let staged : here.staged ≡ picked (passes_query query []) (λ r. [] ∷ r ∷ []) rows = subst (λ tree. here.staged ≡ picked (passes_query query []) (λ r. [] ∷ r ∷ []) tree) (overlaid db (p k)) here.grouped in
      let gone = all_gone rows numbered (passes_query query []) (λ r there. refl) (λ r. [] ∷ r ∷ []) (output query) (λ r. refl) here.ordered
      (subst (λ l. IsPermutation l here.ordered) (here.distinct ∙ ap (map (output query)) staged) here.same) in
      let after : new.now.trees (p k) ≡ without_all rows (ids_of queried.0) = ap (λ (d : Database). d.trees (p k)) w.2 ∙ ap (λ (t : Trees). t (p k)) trees ∙ done.own (p k) (is_own k) ∙ done.applies.rows in
      let none : new.now.trees (p k) ≡ [] = after ∙ ap (λ l. without_all rows (ids_of l)) here.shown ∙ gone in
      record {
        schema = ap (λ (d : Database). d.schema) w.2;
        sound = w.3;
        rows = changed old.now.schema p tables db new.now.trees k (λ j other. ap (λ (d : Database). d.trees (p j)) w.2 ∙ ap (λ (t : Trees). t (p j)) trees ∙ spared_own old.now.schema (p k) (p j) db edited.0 done.apart (is_own j) other)
            ∙ ap (with_rows (λ j. db (p j)) k) none;
        apart = λ marked inside out t there is_marked.
            ap (λ (d : Database). d.trees t.tree) w.2 ∙ ap (λ (them : Trees). them t.tree) trees ∙ done.apart marked inside out t there is_marked;
      }
