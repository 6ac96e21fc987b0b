-- Whether a store was shut for good. The answer to a statement shows it.
use Rattle.std.specs.Prelude.{◌≡◌, ◌⊎◌, Bool, true, false, not, Result, Ok, Err, IfOk, IfErr, OnOk}
use Rattle.sqlite_disk.specs.Disk.{MoreFaults}
use Rattle.sqlite.specs.declared.error.Error.{Error}
use Rattle.sqlite.specs.declared.error.Error.TheVariants.{SqliteFailure}
use Rattle.sqlite.specs.declared.error.ErrorCode.TheVariants as code
use Rattle.sqlite.specs.State.{State}
use Rattle.office_base.specs.declared.shelf.ShelfFault.{ShelfFault}
use Rattle.office_base.specs.declared.shelf.ShelfFault.TheVariants.{NoMemory, Store}

-- The error of a statement shows whether its store was shut. Too little memory and a fault of the disk show nothing about that.
abbrev pub told_by : Error → Result Bool ShelfFault
told_by (SqliteFailure code.Closed) = Ok true
told_by (SqliteFailure code.OutOfMemory) = Err NoMemory
told_by (SqliteFailure code.SystemIoFailure) = Err Store
told_by (SqliteFailure code.DatabaseCorrupt) = Err Store
told_by (SqliteFailure code.DiskFull) = Err Store
told_by _ = Ok false

-- The answer says whether the store is open, and asking doesn't shut it. Or memory was too small to ask, or the disk failed meanwhile.
abbrev pub IsTold : State → State → Result Bool ShelfFault → Type 0
IsTold old new result =
    IfOk result (λ shut. shut ≡ not old.is_open)
    × OnOk result (new.is_open ≡ old.is_open)
    × IfErr result (λ fault. (fault ≡ NoMemory) ⊎ MoreFaults old.faults new.faults)
