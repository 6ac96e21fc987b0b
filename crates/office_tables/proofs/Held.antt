-- A database that held an office still holds one after a change of one table.
use Rattle.office_tables.proofs.Names.{true, List, [], ◌∷◌, refl, sym, subst, IsTrue, Ordering, Value, Row, Database, Shows, Tables, after_put, Put, OfficeTable, HasTables, Stand, Stands, Holds, MakesOne}
use Rattle.sqlite.specs.State.{State}
use Rattle.office_tables.specs.Steps.{Goes, Puts}
use Rattle.office_tables.proofs.Writes.{IsPut}
use Rattle.office_tables.proofs.Writes.{with_rows}

pub holds_put : (k : OfficeTable) {K X : Type 0} (R : K → K → Ordering) (key : X → K) (form : Value → X → Row) (decode : Row → X) (old new : Database) (t after : Tables) (was : Holds old t) (xs : List X)
    → IsPut k R key form decode old new was.places xs → (Stand R key form decode (new.trees (was.places k)) xs → Stands (with_rows (λ j. old.trees (was.places j)) k (new.trees (was.places k))) after)
    → Holds new after
holds_put k R key form decode old new t after was xs it all = record {
  sound = it.sound;
  places = was.places;
  tables = subst (λ s. HasTables s was.places) (sym it.schema) was.tables;
  stands = subst (λ rows. Stands rows after) (sym it.rows) (all it.stand);
}

pub goes_on : (old new : State) → Shows old new new.now old.committed true → Goes old new
goes_on old new h = record { mode = subst IsTrue (sym h.mode) refl; was_open = h.was_open; is_open = h.is_open; committed = h.committed_is }

pub goes_with : (old new : State) (put : Put) → Shows old new new.now old.committed true → ((t : Tables) → Holds old.now t → MakesOne old.step_limit put old.now new.now)
    → ((t : Tables) → Holds old.now t → Holds new.now (after_put put t)) → Puts old new (put ∷ [])
goes_with old new put shows made tables = record { goes = goes_on old new shows; made = λ t was. (new.now, made t was, refl); tables = tables }
