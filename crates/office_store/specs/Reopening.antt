-- How an opening finds an office in two files, and the files that a closing leaves for the next opening.
use Rattle.std.specs.Prelude.{◌≡◌, ◌⊎◌, ⊤, false, IsTrue, length}
use Rattle.sqlite_disk.specs.declared.Disk.{Ghosts}
use Rattle.sqlite_disk.specs.declared.Files.{Files}
use Rattle.sqlite_disk.specs.Disk.{MoreFaults}
use Rattle.sqlite_wal.specs.Files.{outcomes}
use Rattle.sqlite_wal.specs.Reads.{AreClean, OnlyReadsBoth}
use Rattle.sqlite_wal.specs.Recovery.{Image}
use Rattle.sqlite_store.specs.declared.store.FileStore.{FileStore}
use Rattle.sqlite_store.specs.FileStore.{faults, recovers, view}
use Rattle.sqlite_store.specs.FileStore.{state as store_state}
use Rattle.sqlite_trees.specs.Tree.{Trees}
use Rattle.sqlite_trees.specs.View.{IsClean}
use Rattle.sqlite_trees.specs.declared.store.Store.{Ghosts as StoreGhosts}
use Rattle.sqlite.specs.Effect.{Database}
use Rattle.sqlite.specs.Held.{Held, AreDatabases, state}
use Rattle.sqlite.specs.State.{HasCleanDisk, Survives}
use Rattle.sqlite.specs.Files.{file_state, over_files, image_of, faults_left, faults_of, FailsToOpenFiles, HoldsDatabase, IsOpened, IsClosed, IsCleanLeft, LeavesFiles}
use Rattle.sqlite.specs.Start.{FindsIn}
use Rattle.sqlite.specs.Closing.{HoldsAlone, IsCopied}
use Rattle.sqlite.specs.declared.error.Error.{Error}
use Rattle.sqlite.specs.declared.file.Leftover.{Leftover}
use Rattle.sqlite.specs.declared.file.Leftover.TheVariants as left
use Rattle.office_base.specs.Tables.{Tables, no_tables}
use Rattle.office_tables.specs.Earlier.{ShowsOffice, HoldsOffice as HasOffice}
use Rattle.office_tables.specs.Failing.{fault_of}
use Rattle.office_tables.specs.Steps.{ShowsTables, MayLeave}
use Rattle.office_store.specs.Founding.{CanNotEnter, Enters, IsNoOffice, LeavesOffice, opening_of}
use Rattle.office_store.specs.SqlMeaning.{LeavesOffices}
use Rattle.office_store.specs.declared.found.OpenFault.{OpenFault}
use Rattle.office_store.specs.Logs.{HasCommit, LacksCommit, is_unused}
use Rattle.office_store.specs.declared.opened.Origin.{Origin}
use Rattle.office_store.specs.declared.opened.Origin.TheVariants as from
use Rattle.office_store.specs.declared.found.OpenFault.TheVariants as fault

-- the trees of some database that holds an office with this content, of this program or of an earlier one
abbrev pub StandForOffice : Tables → Trees → Type 0
StandForOffice t trees = (db : Database) × (trees ≡ db.trees) × HasOffice db t

-- two files with these bytes hold a database whose trees are those of an office with this content, of this program or of an earlier one
abbrev pub FilesHoldOffice : Image → Tables → Type 0
FilesHoldOffice image t = (db : Trees) × ∥ HoldsDatabase image db ∥₁ × StandForOffice t db

-- files with these bytes hold no office, of this program or of an earlier one
abbrev pub HoldsNoOffice : Image → Type 0
HoldsNoOffice image = (t : Tables) → FilesHoldOffice image t → ⊥

-- The opening entered the office and kept its content, of whatever version it was. A stop leaves the previous trees, or trees that an opening may commit.
pub record Entered {S : Type 0} (g : StoreGhosts S) (origin : Origin) (before now : Held S) : Type 0 where
  pub enters : Enters g origin before now
  pub kept : (t : Tables) → ShowsOffice (state g before) t → ShowsTables (state g now) t
  pub stops : Survives (state g before) (state g now) (LeavesOffice g before)

-- An opening that failed may have committed these trees: none if it reports that there is no office; else an empty or a migrated office.
abbrev pub MayCommit : {S : Type 0} → StoreGhosts S → OpenFault → Held S → Trees → Type 0
MayCommit g fault.NotAnOffice before db = ⊥
MayCommit g fault.NoMemory before db = LeavesOffice g before db
MayCommit g fault.Store before db = LeavesOffice g before db

-- the reason why an opening is refused, and the connection as it is left
abbrev pub IsReason : {S : Type 0} → StoreGhosts S → Image → OpenFault → Held S → Held S → Type 0
IsReason g image fault.NotAnOffice before now = IsNoOffice g before × HoldsNoOffice image
IsReason g image fault.NoMemory before now = ⊤
IsReason g image fault.Store before now = CanNotEnter g before now

-- both files may be used again
abbrev pub AreUsable : {D : Type 0} → Ghosts D → Files D → Type 0
AreUsable g files = IsTrue (g.is_usable files.log) × IsTrue (g.is_usable files.db)

-- the two files hold this database, with and without their log, as they read now and after a stop
pub record HoldStill {D : Type 0} (g : Ghosts D) (files : Files D) (db : Trees) : Type 0 where
  pub seen : HoldsAlone (image_of g files) db
  pub left : (image : Image) → outcomes g files.log files.db image → HoldsAlone image db

-- The log was used: then the opening made no office, and recovery takes pages from the log.
abbrev pub OpensUsed : Image → Origin → Type 0
OpensUsed image origin = is_unused image.log ≡ false → (origin ≡ from.Made → ⊥) × HasCommit image

-- two files as they were opened: they read as these bytes, and a stop leaves these bytes
pub record AreAsOpened {D : Type 0} (g : Ghosts D) (image : Image) (files : Files D) : Type 0 where
  pub seen : image_of g files ≡ image
  pub left : (after : Image) → outcomes g files.log files.db after → after ≡ image

module _ {D : Type 0} {g : Ghosts D} where
  -- the database that an opening found in two files with these bytes; a stop at that moment leaves its last commit alone
  pub record Found (image : Image) (before : Held (FileStore D g)) : Type 0 where
    pub opened : IsOpened before
    pub finds : FindsIn image (file_state before)
    pub only : (db : Trees) → (file_state before).may_leave db → db ≡ (file_state before).committed.trees

  -- The opening shows the office that the files hold. One of version 1 asks for no performance securities, and has none. If it had no table of late
  -- withdrawals, it has none of these either.
  abbrev pub OpensHeld : Image → Held (FileStore D g) → Type 0
  OpensHeld image now = HasCleanDisk (file_state now) → (t : Tables) → FilesHoldOffice image t → ShowsTables (file_state now) t

  -- the opening shows the content that the office had when the files were closed, by this program or by an earlier one
  abbrev pub OpensAgain : Files D → Held (FileStore D g) → Type 0
  OpensAgain files now = HasCleanDisk (file_state now) → (last : Held (FileStore D g)) → (AreClean g files.log files.db → IsCopied last files)
      → (t : Tables) → ShowsOffice (file_state last) t → ShowsTables (file_state now) t

  -- a database file without bytes opens as an empty office, whatever its log contains
  abbrev pub OpensBlank : Image → Held (FileStore D g) → Type 0
  OpensBlank image now = HasCleanDisk (file_state now) → length image.db ≡ 0 → ShowsTables (file_state now) no_tables

  -- the opening entered the office that it found in the files
  abbrev pub EntersFound : Image → Origin → Held (FileStore D g) → Type 0
  EntersFound image origin now = (before : Held (FileStore D g)) × Found image before × Entered over_files origin before now

  -- a closing leaves the files of a connection or, if it failed, the store
  abbrev pub IsLeftOf : Held (FileStore D g) → Leftover D g → Type 0
  IsLeftOf now (left.Files files) = AreUsable g files × (AreClean g files.log files.db → IsCopied now files)
  IsLeftOf now (left.Unopened files) = ⊥
  IsLeftOf now (left.Store store) = IsClosed now store

  -- An office was put down without a closing, as by a stop. If stops could leave only whole offices, any files that a stop now leaves hold such an office.
  -- The disk was as clean as the store is.
  pub record IsPutDown (last : Held (FileStore D g)) (store : FileStore D g) : Type 0 where
    pub clean : IsClean (view store) → HasCleanDisk (file_state last)
    pub left : IsClean (view store) → LeavesOffices (file_state last) → (image : Image) → (store_state store).may_leave image
        → ∥ ((u : Tables) × MayLeave (file_state last) u × FilesHoldOffice image u) ∥₁

  -- A closing failed, or a stop ended it. The disk was as clean as the store is. A stop can now leave only databases that it could leave before.
  pub record IsHalfClosed (last : Held (FileStore D g)) (store : FileStore D g) : Type 0 where
    pub clean : IsClean (view store) → HasCleanDisk (file_state last)
    pub left : (db : Trees) → recovers store db → (file_state last).may_leave db
    pub sound : IsClean (view store) → AreDatabases (recovers store)

  -- a closing fails because the store was shut or because the disk failed again; too little memory is the other reason
  abbrev pub ClosingFails : Held (FileStore D g) → FileStore D g → Type 0
  ClosingFails last store = ((view last.store).is_open ≡ false) ⊎ MoreFaults (faults last.store) (faults store)

  -- The files hold the database that was found. If they couldn't be closed, a stop leaves that database or one that the opening committed.
  abbrev pub LeavesFound : (Trees → Type 0) → Held (FileStore D g) → Leftover D g → Type 0
  LeavesFound Commits before (left.Files files) = HoldStill g files (file_state before).committed.trees
  LeavesFound Commits before (left.Unopened files) = ⊥
  LeavesFound Commits before (left.Store store) = (db : Trees) → recovers store db → (db ≡ (file_state before).committed.trees) ⊎ Commits db

  -- files that are returned may be used again
  abbrev pub IsUsableLeft : Leftover D g → Type 0
  IsUsableLeft (left.Files files) = AreUsable g files
  IsUsableLeft (left.Unopened files) = ⊤
  IsUsableLeft (left.Store store) = ⊤

  -- SQLite refused to open the files after the log had been read, and the fault is that of its error. Or the log couldn't be read: the disk failed, or the log
  -- was used and recovery takes nothing from it. Too little memory needs no other reason.
  abbrev pub AreUnopened : Files D → OpenFault → Leftover D g → Type 0
  AreUnopened files why rest =
      ((looked : Files D) × OnlyReadsBoth g (files.log, files.db) (looked.log, looked.db)
      × ((e : Error) × FailsToOpenFiles looked rest e × (why ≡ opening_of (fault_of e))))
      ⊎ (why ≡ fault.Store → MoreFaults (faults_of g files) (faults_left rest) ⊎ ((is_unused (g.seen files.log) ≡ false) × LacksCommit (image_of g files)))

  -- An opening failed on a clean disk. Either SQLite didn't open the files: they hold what they held, or an empty database. Or they were opened and closed
  -- again: the reason is true, and the content that was found in them stays.
  abbrev pub RefusesFiles : Files D → OpenFault → Leftover D g → Type 0
  RefusesFiles files why rest =
      IsCleanLeft rest
      → ((why ≡ fault.NotAnOffice → ⊥) × AreUnopened files why rest × LeavesFiles files rest)
      ⊎ ((before : Held (FileStore D g)) × (now : Held (FileStore D g)) × Found (image_of g files) before × IsLeftOf now rest
      × IsReason over_files (image_of g files) why before now × LeavesFound (MayCommit over_files why before) before rest)

  -- an opening of the files at a path failed; these files are known by their bytes alone
  abbrev pub RefusesImage : Image → OpenFault → Leftover D g → Type 0
  RefusesImage image why rest = (files : Files D) × AreAsOpened g image files × RefusesFiles files why rest
