-- The last commit is found again, files may hold no database, and a refused opening leaves the files or their store.
use Rattle.office_store.proofs.Names.{arith, ◌≡◌, inl, inr, [], refl, sym, ap, subst, ◌∙◌, ∥∥₁_elim, ∥∥₁_map, length, IsTrue, Files, Image, SeenMayStay, FileStore, recovers, view, faults, is_shielded, settled_at, catalog_tree, Trees-set, Trees, IsQuiet, no_doubt, Database, IsDatabase, Held, AreDatabases, HasCleanDisk, Survives, store_error, StoreError, file_state, over_files, image_of, IsOpened, IsClosed, ExcusesClose, FailsToClose, Finds, IsCleanLeft, FindsIn, HoldsAlone, IsCopied, Leftover, empty_is_sound, opens_again, Tables, IsFaultOf, fault_of, ShowsOffice, TreesTellOneOffice, Refused, EntersOrCanNot, LeavesOffice, IsNoOffice, LeavesNoOther, Found, FilesHoldOffice, ClosingFails, HoldStill, IsHalfClosed, IsLeftOf, IsPutDown, IsReason, IsUsableLeft, LeavesFound, MayCommit, OpenFault}
use Rattle.sqlite_disk.specs.declared.Disk.{Ghosts}
use Rattle.sqlite_trees.specs.View.{IsClean}
use Rattle.sqlite.specs.declared.error.Error.{Error}
use Rattle.sqlite_trees.specs.declared.error.StoreError.TheVariants as stores
use Rattle.sqlite.specs.declared.file.Leftover.TheVariants as left
use Rattle.office_tables.specs.Earlier.{HoldsOffice as HasOffice}
use Rattle.office_store.specs.declared.found.OpenFault.TheVariants as fault
use Rattle.office_store.proofs.Founding.{no_schema}
use Rattle.office_store.proofs.Once.{schema_once}
use Rattle.office_store.proofs.Shelves.{has_cause}

pub finds_in : {D : Type 0} {g : Ghosts D} (files : Files D) (now : Held (FileStore D g)) → Finds files now → FindsIn (image_of g files) (file_state now)
finds_in files now found = record { holds = found.holds; reads = found.reads }

-- a database that holds an office of any version is sound
sound_of : (db : Database) (t : Tables) → HasOffice db t → IsDatabase db
sound_of db t (inl was) = was.sound
sound_of db t (inr was) = was.2.sound

-- an opening shows the office that the files hold
pub held_shown : {D : Type 0} {g : Ghosts D} (image : Image) (now : Held (FileStore D g)) → IsOpened now → FindsIn image (file_state now)
    → (t : Tables) → FilesHoldOffice image t → ShowsOffice (file_state now) t
held_shown image now opened found t (db, held, (d, is, holds)) is_open =
    let trees : (file_state now).committed.trees ≡ d.trees = ∥∥₁_elim held (Trees-set _ _) (found.holds db) ∙ is in
    let schema : (file_state now).committed.schema ≡ d.schema = schema_once (file_state now).committed d (opened.1 is_open).1 (sound_of d t holds) trees in
    let same : d ≡ (file_state now).committed = λ i. record { schema = (sym schema) i; trees = (sym trees) i } in
    subst (λ (x : Database). HasOffice x t) same holds

-- the files hold the content that the office had when they were closed
pub closed_holds : {D : Type 0} {g : Ghosts D} (old : Held (FileStore D g)) (files : Files D) → IsCopied old files
    → (t : Tables) → ShowsOffice (file_state old) t → FilesHoldOffice (image_of g files) t
closed_holds old files copied t shows =
    ((file_state old).committed.trees, copied.seen.both, ((file_state old).committed, refl, shows copied.was_open))

-- a file without bytes holds no database, so the opened database has an empty schema
pub bare_schema : {D : Type 0} {g : Ghosts D} (image : Image) (new : Held (FileStore D g)) → length image.db ≡ 0 → IsOpened new → FindsIn image (file_state new) → new.schema ≡ no_schema
bare_schema image new none opened found =
    let now = file_state new in
    let bare : now.committed.trees catalog_tree ≡ [] = elim found.reads [
      | inl held ↦ absurd (omega (arith, none, held.3.found.present))
      | inr nothing ↦ nothing.1.1
    ] in
    ap (λ (d : Database). d.schema) opened.0.clean
    ∙ schema_once now.committed (record { schema = no_schema; trees = now.committed.trees }) (opened.1 opened.0.is_open).1 (empty_is_sound now.committed.trees bare) refl

-- a stop right after the opening leaves the last commit alone
pub found_now : {D : Type 0} {g : Ghosts D} (image : Image) (now : Held (FileStore D g)) → SeenMayStay g → IsOpened now → FindsIn image (file_state now) → Found image now
found_now image now stays opened found =
    record { opened = opened; finds = found; only = λ db may. settled_at now.store stays db opened.0.is_open may }

-- a stop of an open store leaves the content that it shows
pub leaves_no_other : {D : Type 0} {g : Ghosts D} (now : Held (FileStore D g)) → TreesTellOneOffice → SeenMayStay g → IsTrue (file_state now).is_open
    → LeavesNoOther (file_state now)
leaves_no_other now once stays is_open t shows u (db, may, holds) =
    once db (file_state now).committed u t holds (shows is_open) (settled_at now.store stays db.trees is_open may)

-- ---- an office that is put down

pub put_down : {D : Type 0} {g : Ghosts D} (last : Held (FileStore D g)) (store : FileStore D g) → (IsClean (view store) → IsTrue (view store).is_numbered)
    → (IsClean (view store) → AreDatabases (recovers store)) → IsQuiet view faults recovers is_shielded last.store store → IsPutDown last store
put_down last store numbered sound quiet = record {
  clean = λ clean. omega (arith, clean, quiet.clean);
  left = λ clean offices image may. ∥∥₁_map (opens_again store (numbered clean) (sound clean) image may) (λ found.
      let was = quiet.outcomes found.0 found.1 in
      let office = offices found.0 was in
      let at = office.1 in (
        office.0,
        (at.0, subst (file_state last).may_leave at.1 was, at.2),
        (found.0, ∣ found.2 ∣₁, (at.0, at.1, inl at.2)),
      ));
}

-- ---- a closing that failed

pub half_closed : {D : Type 0} {g : Ghosts D} (last : Held (FileStore D g)) (store : FileStore D g) → IsClosed last store → IsHalfClosed last store
half_closed last store it = record { clean = λ clean. omega (arith, clean, it.quiet.clean); left = it.quiet.outcomes; sound = it.sound }

pub closing_cause : {D : Type 0} {g : Ghosts D} (last : Held (FileStore D g)) (store : FileStore D g) (e : Error) → FailsToClose last store e → IsFaultOf (ClosingFails last store) (fault_of e)
closing_cause last store e (cause, is, why, tells) = by cause is why
  where
    by : (cause : StoreError) → e ≡ store_error cause → ExcusesClose last store cause → IsFaultOf (ClosingFails last store) (fault_of e)
    by stores.OutOfMemory is why = has_cause e (inl is)
    by stores.Io is why = has_cause e (inr (inr why))
    by stores.Corrupt is why = has_cause e (inr (inr why))
    by stores.Full is why = has_cause e (inr (inr why))
    by stores.Broken is why = has_cause e (inr why)
    by stores.Unstorable is why = absurd why

-- ---- a refused opening

still : {D : Type 0} {g : Ghosts D} (before now : Held (FileStore D g)) (files : Files D) → Refused (file_state before) (file_state now) → IsCopied now files
    → HoldStill g files (file_state before).committed.trees
still before now files kept copied =
    let same : (file_state now).committed.trees ≡ (file_state before).committed.trees = ap (λ (d : Database). d.trees) (kept.committed copied.was_open) in
    record {
      seen = subst (HoldsAlone _) same copied.seen;
      left = λ image may. subst (HoldsAlone image) same (copied.left image may);
    }

-- a store that couldn't be closed has a clean disk only if the connection had one
closed_clean : {D : Type 0} {g : Ghosts D} (now : Held (FileStore D g)) (rest : Leftover D g) → IsLeftOf now rest → IsCleanLeft rest → HasCleanDisk (file_state now)
closed_clean now (left.Files files) it clean = (it.1 clean).was_clean
closed_clean now (left.Unopened files) it clean = absurd it
closed_clean now (left.Store store) it clean = omega (arith, no_doubt _ clean, it.quiet.clean)

pub usable_left : {D : Type 0} {g : Ghosts D} (now : Held (FileStore D g)) (rest : Leftover D g) → IsLeftOf now rest → IsUsableLeft rest
usable_left now (left.Files files) it = it.0
usable_left now (left.Unopened files) it = tt
usable_left now (left.Store store) it = tt

leaves_found : {D : Type 0} {g : Ghosts D} (Commits : Trees → Type 0) (before now : Held (FileStore D g)) (rest : Leftover D g)
    → ((db : Trees) → (file_state before).may_leave db → db ≡ (file_state before).committed.trees)
    → Refused (file_state before) (file_state now) → Survives (file_state before) (file_state now) Commits → IsLeftOf now rest → IsCleanLeft rest
    → LeavesFound Commits before rest
leaves_found Commits before now (left.Files files) only kept stops it clean = still before now files kept (it.1 clean)
leaves_found Commits before now (left.Unopened files) only kept stops it clean = it
leaves_found Commits before now (left.Store store) only kept stops it clean = λ db may.
    elim (stops.crash (closed_clean now (left.Store store) it clean) db (it.quiet.outcomes db may)) [ inl was ↦ inl (only db was) | inr made ↦ inr made ]

-- the facts about an opening that was refused after something was found
pub record Turned {D : Type 0} {g : Ghosts D} (why : OpenFault) (before now : Held (FileStore D g)) : Type 0 where
  pub kept : HasCleanDisk (file_state now) → Refused (file_state before) (file_state now)
  pub stops : Survives (file_state before) (file_state now) (LeavesOffice over_files before)
  pub spared : why ≡ fault.NotAnOffice → Survives (file_state before) (file_state now) (λ _. ⊥)
  pub none : HasCleanDisk (file_state now) → why ≡ fault.NotAnOffice → IsNoOffice over_files before
  pub known : HasCleanDisk (file_state now) → (t : Tables) → ShowsOffice (file_state before) t → why ≡ fault.NotAnOffice → ⊥
  pub failed : HasCleanDisk (file_state now) → EntersOrCanNot over_files why before now

stops_by : {D : Type 0} {g : Ghosts D} (why : OpenFault) (before now : Held (FileStore D g)) → Turned why before now
    → Survives (file_state before) (file_state now) (MayCommit over_files why before)
stops_by fault.NotAnOffice before now it = it.spared refl
stops_by fault.NoMemory before now it = it.stops
stops_by fault.Store before now it = it.stops

reason_of : {D : Type 0} {g : Ghosts D} (why : OpenFault) (image : Image) (before now : Held (FileStore D g)) → Turned why before now → HasCleanDisk (file_state now) → Found image before
    → IsReason over_files image why before now
reason_of fault.NotAnOffice image before now it clean found =
    (it.none clean refl, λ t holds. it.known clean t (held_shown image before found.opened found.finds t holds) refl)
reason_of fault.NoMemory image before now it clean found = tt
reason_of fault.Store image before now it clean found = it.failed clean refl found.opened.0.is_open found.opened.0.autocommit

pub turned_away : {D : Type 0} {g : Ghosts D} (why : OpenFault) (files : Files D) (before now : Held (FileStore D g)) (rest : Leftover D g) → SeenMayStay g → Turned why before now
    → (HasCleanDisk (file_state before) → IsOpened before) → (HasCleanDisk (file_state before) → Finds files before) → IsLeftOf now rest → IsCleanLeft rest
    → (was : Held (FileStore D g)) × (last : Held (FileStore D g)) × Found (image_of g files) was × IsLeftOf last rest × IsReason over_files (image_of g files) why was last
    × LeavesFound (MayCommit over_files why was) was rest
turned_away why files before now rest stays it opened finds is_left clean =
    let late = closed_clean now rest is_left clean in
    let early : HasCleanDisk (file_state before) = omega (arith, late, it.stops.clean) in
    let found = found_now _ before stays (opened early) (finds_in files before (finds early)) in
    (before, now, found, is_left, reason_of why _ before now it late found, leaves_found _ before now rest found.only (it.kept late) (stops_by why before now it) is_left clean)
