-- The empty office, after its tables are made.
use Rattle.office_tables.proofs.Names.{◌≡◌, ◌≢◌, ℕ, [], Ok, refl, sym, ap, subst, ◌∙◌, Database, Executes, row_put, no_tables, ClockRow, clock_values, upsert_office, clock_form, OfficeTable, table_of, all_tables, Places, HasTables, Stands, Holds, AreMade, KeepsOthers, AreNew, RowsStand, Schema, Table, Has, all_has, Office}
use Rattle.sqlite.specs.State.{State}
use Rattle.office_tables.proofs.Writes.{puts_row, puts_others}
use Rattle.office_tables.proofs.ByTable.Office.{clock_shape, clock_put}
use Rattle.office_tables.proofs.Each.{bare, found, listed, nothing, stands_empty}
use Rattle.office_tables.proofs.TableTools.{put_means}

-- the row is put into a table of the office, so all other tables keep their rows
pub first_others : (start : Database) (old new : State) (x : ClockRow) (count : ℕ) → KeepsOthers start old.now → AreNew start all_tables → AreMade all_tables old.now → Executes upsert_office (clock_values x) old new (Ok count)
    → KeepsOthers start new.now
first_others start old new x count kept fresh was h t there =
    let places : Places = λ k. (found k was.each).0 in
    let tables : HasTables old.now.schema places = λ k. (found k was.each).1 in
    let same = puts_others Office bare clock_form clock_shape clock_put.stored old new places tables upsert_office x count (put_means clock_put old.now.schema (places Office) (tables Office)) (found Office was.each).2 h in
    let now = kept t there in
    let apart : t.tree ≢ places Office = λ e. all_has (λ (k : OfficeTable). (u : Table) → Has start.schema.tables u → u.name ≢ (table_of k).name) all_tables Office fresh (listed Office) t there (ap (λ (u : Table). u.name) ((tables Office).alone t now.0 e)) in
    (subst (λ (s : Schema). Has s.tables t) (sym same.0) now.0, all_has (λ (u : Table). u.tree ≢ places Office → new.now.trees u.tree ≡ old.now.trees u.tree) old.now.schema.tables t same.1 now.0 apart ∙ now.1)

pub founds : (old new : State) (x : ClockRow) (count : ℕ) → AreMade all_tables old.now → Executes upsert_office (clock_values x) old new (Ok count) → Holds new.now (record no_tables { clock = x })
unfolding row_put
founds old new x count was h =
    let places : Places = λ k. (found k was.each).0 in
    let tables : HasTables old.now.schema places = λ k. (found k was.each).1 in
    let empty : RowsStand clock_form (old.now.trees (places Office)) [] = nothing (found Office was.each).2 in
    let done = puts_row Office bare clock_form clock_shape clock_put.stored old new places tables upsert_office x count [] (put_means clock_put old.now.schema (places Office) (tables Office)) (λ v. refl) empty h in
    record {
      sound = done.sound;
      places = places;
      tables = subst (λ s. HasTables s places) (sym done.schema) tables;
      stands = subst (λ rows. Stands rows (record no_tables { clock = x })) (sym done.rows) (stands_empty (λ j. old.now.trees (places j)) (new.now.trees (places Office)) x (λ k. (found k was.each).2) done.stand);
    }
