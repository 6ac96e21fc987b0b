-- An office is made in a transaction, or entered.
use Rattle.office_store.proofs.Names.{◌≡◌, inl, inr, Bool, true, false, List, [], Ok, Err, Result, refl, sym, ap, subst, ◌∙◌, IsTrue, true≢false, everything, Row, Trees, MemStore, Schema, CompileError, IsDatabase, Held, state, understood, listing_schema, State, Shows, Shown, IsLive, over_memory, IsEmpty, no_tables, Founds, KeepsOthers, Holds, IsAsked, Refused, ShowsTables, get_version, HasNoVersion, Origin, Founded, LeavesNew, LeavesOffice, IsSoundOpen, Enters, takes_a_name, LeavesShown}
use Rattle.sqlite_trees.specs.declared.store.Store.{Ghosts}
use Rattle.sqlite_resolve.specs.declared.compiled.Compiled.{Compiled}
use Rattle.office_store.specs.declared.opened.Origin.TheVariants as from

sound_now : (old : State) → (IsTrue old.is_open → old.now ≡ old.committed) → IsSoundOpen old → IsTrue old.is_open → IsDatabase old.now
sound_now old settled sound o = subst IsDatabase (sym (settled o)) (sound o)

-- a query that failed leaves the last commit sound
pub sound_after : (old mid : State) → Refused old mid → IsLive old → IsSoundOpen mid
sound_after old mid kept live o = subst IsDatabase (sym (kept.committed o)) (live (kept.was_open o)).1

module _ (old mid : State) (settled : IsTrue old.is_open → old.now ≡ old.committed) (it : Founds (record old { in_transaction = true }) mid) where
  pub founds : (new : State) → IsSoundOpen old → Shows mid new mid.now mid.now false → (IsTrue new.is_open → (db : Trees) → new.may_leave db → db ≡ new.committed.trees) → Founded old new
  founds new sound shows only = record {
    was_open = it.goes.was_open;
    is_open = shows.is_open;
    tables = subst (λ d. Holds d no_tables) (sym shows.committed_is) (it.tables (sound_now old settled sound it.goes.was_open));
    others = subst (λ d. KeepsOthers old.committed d) (sym shows.committed_is) (subst (λ d. KeepsOthers d mid.now) (settled it.goes.was_open) (it.others (sound_now old settled sound it.goes.was_open)));
    only = only shows.is_open;
  }

  pub found_leaves : (db : Trees) → db ≡ mid.now.trees → LeavesNew old db
  found_leaves db is = (it.goes.was_open, λ sound. (mid.now, is, it.tables (sound_now old settled (λ _. sound) it.goes.was_open)))

-- an office was made after a query that failed
pub founded_after : (old mid new : State) → Refused old mid → Founded mid new → Founded old new
founded_after old mid new kept it = record {
  was_open = kept.was_open it.was_open;
  is_open = it.is_open;
  tables = it.tables;
  others = subst (λ d. KeepsOthers d new.committed) (kept.committed it.was_open) it.others;
  only = it.only;
}

pub leaves_before : {S : Type 0} (g : Ghosts S) (old mid : Held S) (db : Trees) → HasNoVersion g old → takes_a_name old.schema ≡ false → Refused (state g old) (state g mid)
    → IsSoundOpen (state g mid) → LeavesNew (state g mid) db → LeavesOffice g old db
leaves_before g old mid db none free kept sound it = inl (kept.was_open it.0, none, free, it.1 (sound it.0))

-- two calls, one after the other, that commit nothing
pub refused_on : (a b c : State) → Refused a b → Refused b c → Refused a c
refused_on a b c first second = record {
  was_open = λ o. first.was_open (second.was_open o);
  committed = λ o. second.committed o ∙ first.committed (second.was_open o);
}

-- a stop of an open store leaves the content that it shows
pub shown_is_left : (s : State) → IsTrue s.is_open → (IsTrue s.is_open → (db : Trees) → s.may_leave db → db ≡ s.committed.trees) → LeavesShown s
shown_is_left s open_now settled t shows db left = (t, (s.committed, settled open_now db left, shows open_now))

-- ---- a database that has nothing

is_understood : Result Compiled CompileError → Bool
is_understood (Ok c) = true
is_understood (Err e) = false

abbrev pub no_schema : Schema
no_schema = record { tables = []; indexes = []; views = [] }

unanswered : is_understood (understood no_schema get_version) ≡ false
unfolding understood everything listing_schema is_understood
unanswered = refl

-- in an empty database the query for the version fails
no_version : {S : Type 0} (g : Ghosts S) (old : Held S) (rows : List Row) → old.schema ≡ no_schema → IsAsked g get_version [] old rows → ⊥
unfolding Shown is_understood
no_version g old rows none asked = true≢false (sym (ap is_understood asked.shown.1.is) ∙ ap (λ s. is_understood (understood s get_version)) none ∙ unanswered)

pub enters_bare : {S : Type 0} (g : Ghosts S) (origin : Origin) (old new : Held S) → old.schema ≡ no_schema → Enters g origin old new → ShowsTables (state g new) no_tables
enters_bare g from.Found old new bare entered = absurd (no_version g old entered.0.0 bare entered.0.1)
enters_bare g from.Migrated old new bare entered = absurd (no_version g old entered.1.0 bare entered.1.1)
enters_bare g from.Made old new bare made = λ is_open. made.2.tables

pub enters_empty : (origin : Origin) (old new : Held MemStore) → IsEmpty (state over_memory old) → Enters over_memory origin old new → ShowsTables (state over_memory new) no_tables
enters_empty origin old new empty = enters_bare over_memory origin old new empty.2
