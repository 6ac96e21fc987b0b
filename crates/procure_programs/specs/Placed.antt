-- Two files that hold no office yet, and the office that is opened there.
use Rattle.std.specs.Prelude.{◌≡◌, ◌⊎◌, ℕ, false, length}
use Rattle.sqlite_disk.specs.declared.Disk.{Ghosts}
use Rattle.sqlite_wal.specs.Recovery.{Image}
use Rattle.sqlite_store.specs.declared.store.FileStore.{FileStore}
use Rattle.sqlite_trees.specs.Tree.{Trees}
use Rattle.sqlite.specs.Held.{Held}
use Rattle.sqlite.specs.declared.file.Leftover.{Leftover}
use Rattle.sqlite.specs.Files.{file_state, over_files, HoldsDatabase, IsEmpty}
use Rattle.sqlite.specs.State.{HasCleanDisk}
use Rattle.office_base.specs.Tables.{no_tables}
use Rattle.office_tables.specs.Steps.{ShowsTables}
use Rattle.office_store.specs.Founding.{IsOfEdition}
use Rattle.office_store.specs.Logs.{HasCommit, is_unused}
use Rattle.office_store.specs.Reopening.{Found, RefusesImage}
use Rattle.office_store.specs.declared.found.OpenFault.{OpenFault}
use Rattle.procure_config.specs.declared.fault.ProgramFault.{ProgramFault}
use Rattle.procure_programs.specs.FaultsTold.{of_opening}

-- A database that has no table.
abbrev pub HoldNoTable : Image → Type 0
HoldNoTable image = (db : Trees) × HoldsDatabase image db × IsEmpty db

-- A database that has no table, or a file without a byte.
abbrev pub HoldNothing : Image → Type 0
HoldNothing image = (length image.db ≡ 0) ⊎ HoldNoTable image

-- If the files hold nothing, the office that is opened there has no content.
abbrev pub OpensEmpty : {D : Type 0} {g : Ghosts D} → Image → Held (FileStore D g) → Type 0
OpensEmpty image now = HasCleanDisk (file_state now) → HoldNothing image → ShowsTables (file_state now) no_tables

-- The fault that is reported is that of the opening, which refused these files and left this of them.
abbrev pub TellsRefusal : {D : Type 0} {g : Ghosts D} → Image → ProgramFault → Leftover D g → Type 0
TellsRefusal image told left = (why : OpenFault) × (told ≡ of_opening why) × RefusesImage image why left

-- Two files with these bytes held an office, of this program or of an earlier one.
abbrev pub HadOffice : {D : Type 0} → Ghosts D → Image → Type 0
HadOffice {D} g image = (before : Held (FileStore D g)) × Found image before × (edition : ℕ) × IsOfEdition over_files edition before

-- If the log was used, recovery takes pages from it, and the two files held an office. So no office was made over something.
abbrev pub HadOfficeIfUsed : {D : Type 0} → Ghosts D → Image → Type 0
HadOfficeIfUsed g image = is_unused image.log ≡ false → HasCommit image × HadOffice g image
