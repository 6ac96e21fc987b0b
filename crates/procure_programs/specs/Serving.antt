-- The office that is left after it was served over connections.
use Rattle.std.specs.Prelude.{◌≡◌, ◌⊎◌, ℕ, ◌+◌, ◌≤◌, false, List, [], ◌∷◌, length, Option, Some, None, Result, Ok, Err}
use Rattle.std.specs.declared.net.socket_addr.SocketAddrV4.{SocketAddrV4}
use Rattle.sqlite_disk.specs.declared.Disk.{Ghosts}
use Rattle.sqlite_disk.specs.declared.Files.{Files}
use Rattle.sqlite_wal.specs.Files.{outcomes}
use Rattle.sqlite_wal.specs.Reads.{AreClean}
use Rattle.sqlite_wal.specs.Recovery.{Image}
use Rattle.sqlite_store.specs.declared.store.FileStore.{FileStore}
use Rattle.sqlite_store.specs.FileStore.{recovers, state, view}
use Rattle.sqlite_trees.specs.Tree.{Trees}
use Rattle.sqlite_trees.specs.View.{IsClean}
use Rattle.sqlite_trees.specs.declared.store.Store.{Ghosts as StoreGhosts}
use Rattle.sqlite.specs.Closing.{IsCopied}
use Rattle.sqlite.specs.Files.{file_state, image_of, over_files}
use Rattle.sqlite.specs.Held.{Held as Connected, state as sql_state}
use Rattle.sqlite.specs.State.{HasCleanDisk}
use Rattle.office_values.specs.declared.settings.Settings.{Settings}
use Rattle.office_base.specs.Shelves.{Keeps, Meaning}
use Rattle.office_base.specs.Shutting.{Standing}
use Rattle.office_base.specs.Tables.{Tables, IsSorted, no_tables}
use Rattle.office_publications.specs.Standing.{IsReached}
use Rattle.office_desk.specs.Desks.{DeskOf}
use Rattle.office_store.specs.Reopening.{FilesHoldOffice, IsHalfClosed, IsPutDown, OpensHeld, StandForOffice}
use Rattle.office_store.specs.SqlMeaning.{LeavesNoOther, LeavesShown, sql_meaning}
use Rattle.office_sums.specs.RememberingMeaning.{remembering, remembering_standing}
use Rattle.office_sums.specs.declared.shelf.RememberingShelf.{RememberingShelf}
use Rattle.office_wire.specs.Runs.{Step, office_left}
use Rattle.office_http.specs.Answering.{Held, StandsAs, office_answers}
use Rattle.office_http.specs.Runs.{WentThrough}
use Rattle.procure_config.specs.declared.fault.ProgramFault.{ProgramFault}
use Rattle.procure_programs.specs.FaultsTold.{IsOfStore}
use Rattle.procure_programs.specs.Hosts.{Hosting}
use Rattle.procure_programs.specs.Placed.{HadOfficeIfUsed, HoldNothing, OpensEmpty}
use Rattle.procure_programs.specs.Showing.{IsPrintout}
use Rattle.procure_programs.specs.Turns.{AreOfServingAt, ServesAt}
use Rattle.procure_programs.specs.declared.showing.Printout.{Printout}

-- The desk went through at most this many steps. Its office is the one after them, a stop leaves only what they allow, and all accepted commands are kept.
abbrev pub TakesTurns : {S : Type 0} → Meaning S → ℕ → DeskOf S → DeskOf S → Type 0
TakesTurns M most old new =
    M.honest new.shelf → (h : Held) → StandsAs M old h
    → (steps : List Step) × (length steps ≤ most) × WentThrough M old new h steps

-- The office in a store was served under these settings, and this store is left.
abbrev pub WasServed : {S : Type 0} → Meaning S → ℕ → Settings → S → S → Type 0
WasServed M most settings old new =
    (M.honest new → M.honest old)
    × ((now : Settings) × TakesTurns M most (record { shelf = old; settings = settings }) (record { shelf = new; settings = now }))

-- An office in a store was served under these settings at 127.0.0.1 and this port, and this store and this result are left. Each connection was served as
-- `ServesAt` says.
abbrev pub WasServedAt : {S X T R W : Type 0} → (X → SocketAddrV4 → Option T → X → Type 0) → Hosting T R W → Meaning S → Standing S → X → X → ℕ → ℕ → Settings → S → S → Result (Unit {0}) ProgramFault → Type 0
WasServedAt binds N M store network bound port count settings old new result =
    (now : Settings) × ServesAt binds N M store network bound port count (record { shelf = old; settings = settings }) (record { shelf = new; settings = now }) result

-- An office in a store was served as `WasServedAt` says, in a store around it that remembers its answers. Before that, nothing changed in the store inside
-- (`around`). So at first the store around it held each office that the store inside held (`holds`).
pub record WasServedRemembering {S X T R W : Type 0} (binds : X → SocketAddrV4 → Option T → X → Type 0) (N : Hosting T R W) (M : Meaning S) (store : Standing S) (network bound : X) (port : ℕ) (count : ℕ) (settings : Settings) (old new : S) (result : Result (Unit {0}) ProgramFault) : Type 0 where
  pub first : RememberingShelf S
  pub last : RememberingShelf S
  pub around : Keeps M old first.shelf
  pub before : M.honest new → M.honest first.shelf
  pub holds : M.honest first.shelf → (t : Tables) → M.holds old t → (remembering M).holds first t
  pub inside : last.shelf ≡ new
  pub turns : WasServedAt binds N (remembering M) (remembering_standing store) network bound port count settings first last result

-- Whether a store in SQL is open, and the faults of its disk.
abbrev pub sql_standing : {S : Type 0} → StoreGhosts S → Standing (Connected S × ℕ)
sql_standing g = record { is_open = λ shelf. (sql_state g shelf.0).is_open; disk_faults = λ shelf. (sql_state g shelf.0).faults }

-- An office was opened in two files with these bytes and served under these settings at 127.0.0.1 and this port, and this store and this result are left. After
-- the opening, the store showed exactly what the files had, and a stop could leave only that. No office was made over a used log.
pub record ServesOpened {D : Type 0} {g : Ghosts D} {X T R W : Type 0} (binds : X → SocketAddrV4 → Option T → X → Type 0) (N : Hosting T R W) (network bound : X) (port : ℕ) (image : Image) (settings : Settings) (count : ℕ) (left : Connected (FileStore D g) × ℕ) (result : Result (Unit {0}) ProgramFault) : Type 0 where
  pub opened : Connected (FileStore D g) × ℕ
  pub held : OpensHeld image opened.0
  pub empty : OpensEmpty image opened.0
  pub sound : HasCleanDisk (file_state opened.0) → LeavesShown (file_state opened.0)
  pub alone : HasCleanDisk (file_state opened.0) → LeavesNoOther (file_state opened.0)
  pub used : HasCleanDisk (file_state opened.0) → HadOfficeIfUsed g image
  pub served : WasServed (sql_meaning over_files) count settings opened left
  pub turns : WasServedRemembering binds N (sql_meaning over_files) (sql_standing over_files) network bound port count settings opened left result

-- These are the steps of the connections to the office that was opened.
abbrev pub AreOfOpened : {D : Type 0} {g : Ghosts D} {X T R W : Type 0} (binds : X → SocketAddrV4 → Option T → X → Type 0) (N : Hosting T R W) (network bound : X) (port : ℕ) (image : Image) (settings : Settings)
    (count : ℕ) (left : Connected (FileStore D g) × ℕ) (result : Result (Unit {0}) ProgramFault) → ServesOpened binds N network bound port image settings count left result → Held → List Step → Type 0
AreOfOpened binds N network bound port image settings count left result it h steps =
    AreOfServingAt binds N (remembering (sql_meaning over_files)) (remembering_standing (sql_standing over_files)) network bound port count
    (record { shelf = it.turns.first; settings = settings }) (record { shelf = it.turns.last; settings = it.turns.turns.0 }) result it.turns.turns.1 h steps

-- These steps are a beginning of others. The last of them may have been answered `Unavailable` there, and is a whole step here.
abbrev pub AreBeginning : List Step → List Step → Type 0
AreBeginning [] steps = Unit {0}
AreBeginning (y ∷ ys) [] = ⊥
AreBeginning (y ∷ ys) (x ∷ xs) = ((y ≡ x) × AreBeginning ys xs) ⊎ ((y ≡ record x { busy = false }) × (ys ≡ []))

-- The fault that is reported if a closing fails: that of the work, or else one of the store.
abbrev pub TellsFirst : Result (Unit {0}) ProgramFault → ProgramFault → Type 0
TellsFirst (Ok done) fault = IsOfStore fault
TellsFirst (Err earlier) fault = fault ≡ earlier

-- Two files with these bytes have an office with this content. Either they hold it, or they hold nothing yet and it is the empty office.
abbrev pub HaveOffice : Image → Tables → Type 0
HaveOffice image t = FilesHoldOffice image t ⊎ (HoldNothing image × (t ≡ no_tables))

-- Two files with these bytes have this office, which is a reached one.
abbrev pub StandsIn : Image → Held → Type 0
StandsIn image h = IsSorted h.tables × HaveOffice image h.tables × IsReached h.settings.publisher h.tables

-- Under these settings the office continues from one pair of files to the other, by at most this many steps.
abbrev pub FilesGoOn : Image → Settings → ℕ → Image → Type 0
FilesGoOn first settings most last =
    (h : Held) → h.settings ≡ settings → StandsIn first h
    → (steps : List Step) × (length steps ≤ most) × StandsIn last (office_left office_answers h steps)

-- Under these settings the office continues from one pair of files to another that a stop left. It does so by at most this many steps, each of them complete.
abbrev pub StopsIn : Image → Settings → ℕ → Image → Type 0
StopsIn first settings most last =
    (h : Held) → h.settings ≡ settings → StandsIn first h
    → ∥ ((steps : List Step) × (length steps ≤ most) × StandsIn last (office_left office_answers h steps)) ∥₁

-- Of the office that two files had this was printed, with this result, and then its store was closed into these files. This holds if the disk returned everything
-- that was written.
abbrev pub PrintsFiles : {D : Type 0} → Ghosts D → Image → Settings → Printout → Files D → Option (List ℕ) → Option (List ℕ) → Result (Unit {0}) ProgramFault → Type 0
PrintsFiles g image settings printout files before after result =
    AreClean g files.log files.db → (t : Tables) → IsSorted t → HaveOffice image t → IsPrintout settings printout t before after result

-- Of the office that two files had this was printed. Then its closing failed, which left this store. This fault is reported.
abbrev pub HalfPrintsFiles : {D : Type 0} {g : Ghosts D} → Image → Settings → Printout → Option (List ℕ) → Option (List ℕ) → ProgramFault → FileStore D g → Type 0
HalfPrintsFiles image settings printout before after fault store =
    (worked : Result (Unit {0}) ProgramFault) × TellsFirst worked fault
    × (IsClean (view store) → (t : Tables) → IsSorted t → HaveOffice image t → IsPrintout settings printout t before after worked)

-- A day leads from one pair of files to the other, whether these were closed in the end or a stop left them.
abbrev pub DayIn : Image → Settings → ℕ → Image → Type 0
DayIn first settings most last = FilesGoOn first settings most last ⊎ StopsIn first settings most last

-- These are the bytes that may be found in two files: their content, or a state that a stop may leave of them, with the log or without it.
abbrev pub MayBeFound : {D : Type 0} → Ghosts D → Files D → Image → Type 0
MayBeFound g files image =
    (now : Image) × ((now ≡ image_of g files) ⊎ outcomes g files.log files.db now) × ((image ≡ now) ⊎ (image ≡ record now { log = [] }))

-- The office of two files was served at this port with this result, and then its store was closed into these files. If the disk returned everything that was
-- written, the office after the steps of its connections is in every state that may be found of them.
pub record ServesFilesAt {D : Type 0} (g : Ghosts D) {X T R W : Type 0} (binds : X → SocketAddrV4 → Option T → X → Type 0) (N : Hosting T R W) (network bound : X) (port : ℕ) (image : Image) (settings : Settings) (count : ℕ) (files : Files D) (result : Result (Unit {0}) ProgramFault) : Type 0 where
  pub last : Connected (FileStore D g) × ℕ
  pub served : ServesOpened binds N network bound port image settings count last result
  pub closed : AreClean g files.log files.db → IsCopied last.0 files
  pub goes_on : AreClean g files.log files.db → (now : Image) → MayBeFound g files now → (h : Held) → h.settings ≡ settings → StandsIn image h
      → (steps : List Step) × (length steps ≤ count) × AreOfOpened binds N network bound port image settings count last result served h steps
      × StandsIn now (office_left office_answers h steps)

-- The office in two files was served by at most this many steps, and these files were closed. If the disk returned everything that was written, the office
-- continues in every state that may be found of them, even in the database file alone.
abbrev pub ServesFiles : {D : Type 0} → Ghosts D → Image → Settings → ℕ → Files D → Type 0
ServesFiles g image settings most files =
    AreClean g files.log files.db → (now : Image) → MayBeFound g files now → FilesGoOn image settings most now

-- The office in two files was served by at most this many steps, and a stop came before they were closed. If the disk returned everything that was written, the
-- office continues in every state that the stop may leave of the log and the database file together.
abbrev pub StopsFiles : {D : Type 0} {g : Ghosts D} → Image → Settings → ℕ → FileStore D g → Type 0
StopsFiles image settings most store = IsClean (view store) → (now : Image) → (state store).may_leave now → StopsIn image settings most now

-- The office of two files was served at this port with this result, and then a stop came before the closing. If the disk returned everything that was written,
-- every state that the stop may leave has the office after a beginning of the steps of its connections.
pub record StopsFilesAt {D : Type 0} {g : Ghosts D} {X T R W : Type 0} (binds : X → SocketAddrV4 → Option T → X → Type 0) (N : Hosting T R W) (network bound : X) (port : ℕ) (image : Image) (settings : Settings) (count : ℕ) (store : FileStore D g) (result : Result (Unit {0}) ProgramFault) : Type 0 where
  pub last : Connected (FileStore D g) × ℕ
  pub served : ServesOpened binds N network bound port image settings count last result
  pub left : IsPutDown last.0 store
  pub goes_on : IsClean (view store) → (now : Image) → (state store).may_leave now → (h : Held) → h.settings ≡ settings → StandsIn image h
      → (steps : List Step) × (length steps ≤ count) × AreOfOpened binds N network bound port image settings count last result served h steps
      × ∥ ((done : List Step) × AreBeginning done steps × StandsIn now (office_left office_answers h done)) ∥₁

-- these trees are the rows of an office, as its commands left it
abbrev pub StandsAt : Trees → Held → Type 0
StandsAt trees h = IsSorted h.tables × StandForOffice h.tables trees × IsReached h.settings.publisher h.tables

-- The office in two files was served by at most so many steps. Then its closing failed, or a stop ended the closing. If the disk returned what was written, the
-- trees that SQLite may recover of this store are those of the office after so many whole steps.
abbrev pub HalfClosesFiles : {D : Type 0} {g : Ghosts D} → Image → Settings → ℕ → FileStore D g → Type 0
HalfClosesFiles image settings most store =
    IsClean (view store) → (trees : Trees) → recovers store trees
    → (h : Held) → h.settings ≡ settings → StandsIn image h
    → (steps : List Step) × (length steps ≤ most) × StandsAt trees (office_left office_answers h steps)

-- The office of two files was served at this port, and then its closing failed, which left this store. This fault is reported. If the disk returned what was
-- written, the trees that SQLite may recover are those of the office after a beginning of the steps of its connections.
pub record HalfServesFilesAt {D : Type 0} {g : Ghosts D} {X T R W : Type 0} (binds : X → SocketAddrV4 → Option T → X → Type 0) (N : Hosting T R W) (network bound : X) (port : ℕ) (image : Image) (settings : Settings) (count : ℕ) (fault : ProgramFault) (store : FileStore D g) : Type 0 where
  pub last : Connected (FileStore D g) × ℕ
  pub worked : Result (Unit {0}) ProgramFault
  pub served : ServesOpened binds N network bound port image settings count last worked
  pub half : IsHalfClosed last.0 store
  pub told : TellsFirst worked fault
  pub goes_on : IsClean (view store) → (trees : Trees) → recovers store trees → (h : Held) → h.settings ≡ settings → StandsIn image h
      → (steps : List Step) × (length steps ≤ count) × AreOfOpened binds N network bound port image settings count last worked served h steps
      × (done : List Step) × AreBeginning done steps × StandsAt trees (office_left office_answers h done)

-- The end of serving the office of two files. Its store was closed into files, or its closing failed and left a store. Or serving didn't begin, and no host was
-- opened.
abbrev pub EndsServing : {D : Type 0} (g : Ghosts D) {X T R W : Type 0} → (X → SocketAddrV4 → Option T → X → Type 0) → Hosting T R W → X → X → ℕ → Image → Settings → ℕ
    → Result (Files D × Result (Unit {0}) ProgramFault) (ProgramFault × Option (FileStore D g)) → Type 0
EndsServing g binds N network bound port image settings count (Ok (files, result)) =
    ServesFiles g image settings count files × ServesFilesAt g binds N network bound port image settings count files result
EndsServing g binds N network bound port image settings count (Err (fault, Some store)) =
    HalfClosesFiles image settings count store × HalfServesFilesAt binds N network bound port image settings count fault store
EndsServing g binds N network bound port image settings count (Err (fault, None)) = (bound ≡ network) × IsOfStore fault

-- The end of printing of the office of two files, as `EndsServing` says it of serving. If no store is left, nothing was printed.
abbrev pub EndsPrinting : {D : Type 0} (g : Ghosts D) → Image → Settings → Printout → Option (List ℕ) → Option (List ℕ)
    → Result (Files D × Result (Unit {0}) ProgramFault) (ProgramFault × Option (FileStore D g)) → Type 0
EndsPrinting g image settings printout before after (Ok (files, result)) =
    ServesFiles g image settings 0 files × PrintsFiles g image settings printout files before after result
EndsPrinting g image settings printout before after (Err (fault, Some store)) =
    HalfClosesFiles image settings 0 store × HalfPrintsFiles image settings printout before after fault store
EndsPrinting g image settings printout before after (Err (fault, None)) = (after ≡ before) × IsOfStore fault

-- The result that is reported of a work that left files, a store or nothing.
abbrev pub told_of : {A B : Type 0} → Result (A × Result (Unit {0}) ProgramFault) (ProgramFault × B) → Result (Unit {0}) ProgramFault
told_of (Ok (files, result)) = result
told_of (Err (fault, left)) = Err fault

-- The office of two files was served to some end, and this result was reported.
abbrev pub RunsFiles : {D : Type 0} (g : Ghosts D) {X T R W : Type 0} → (X → SocketAddrV4 → Option T → X → Type 0) → Hosting T R W → X → X → ℕ → Image → Settings → ℕ
    → Result (Unit {0}) ProgramFault → Type 0
RunsFiles {D = D} g binds N network bound port image settings count result =
    (left : Result (Files D × Result (Unit {0}) ProgramFault) (ProgramFault × Option (FileStore D g)))
    × EndsServing g binds N network bound port image settings count left × (result ≡ told_of left)

-- The office of two files was printed to some end, and this result was reported.
abbrev pub RunsPrinting : {D : Type 0} → Ghosts D → Image → Settings → Printout → Option (List ℕ) → Option (List ℕ) → Result (Unit {0}) ProgramFault → Type 0
RunsPrinting {D = D} g image settings printout before after result =
    (left : Result (Files D × Result (Unit {0}) ProgramFault) (ProgramFault × Option (FileStore D g)))
    × EndsPrinting g image settings printout before after left × (result ≡ told_of left)

-- If a day finds the files as another day left them, both together are one day. This is also true of days that end by a stop.
pub record DaysFollow : Type 0 where
  pub closed : (settings : Settings) (first mid last : Image) (n m : ℕ) → FilesGoOn first settings n mid → FilesGoOn mid settings m last
      → FilesGoOn first settings (n + m) last
  pub stopped : (settings : Settings) (first mid last : Image) (n m : ℕ) → DayIn first settings n mid → DayIn mid settings m last
      → StopsIn first settings (n + m) last

-- The office under other settings.
abbrev pub under_settings : Settings → Held → Held
under_settings settings h = record h { settings = settings }

-- Two days lead to files that have this office after them: at most `n` steps, and then under other settings at most `m` steps.
abbrev pub LedOn : Settings → ℕ → ℕ → Image → Held → Type 0
LedOn after n m last h =
    (steps : List Step) × (later : List Step) × (length steps ≤ n) × (length later ≤ m)
    × StandsIn last (office_left office_answers (under_settings after (office_left office_answers h steps)) later)

-- If a day finds the files as another day left them, the office continues from there, with its rows and releases. The publisher must be the same, but the
-- clerk's key may be another one. This is also true of days that end by a stop.
pub record KeysFollow : Type 0 where
  pub closed : (before after : Settings) (first mid last : Image) (n m : ℕ) → after.publisher ≡ before.publisher
      → FilesGoOn first before n mid → FilesGoOn mid after m last
      → (h : Held) → h.settings ≡ before → StandsIn first h → LedOn after n m last h
  pub stopped : (before after : Settings) (first mid last : Image) (n m : ℕ) → after.publisher ≡ before.publisher
      → DayIn first before n mid → DayIn mid after m last
      → (h : Held) → h.settings ≡ before → StandsIn first h → ∥ LedOn after n m last h ∥₁
