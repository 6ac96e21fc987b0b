-- The fault that a program reports for a fault of a run, an opening or a store.
use Rattle.std.specs.Prelude.{◌≡◌, ℕ, Result, Ok, Err}
use Rattle.office_base.specs.declared.shelf.ShelfFault.{ShelfFault}
use Rattle.office_base.specs.declared.shelf.ShelfFault.TheVariants as shelf
use Rattle.office_store.specs.declared.found.OpenFault.{OpenFault}
use Rattle.office_store.specs.declared.found.OpenFault.TheVariants as opening
use Rattle.office_wire.specs.declared.fault.RunFault.{RunFault}
use Rattle.office_wire.specs.declared.fault.RunFault.TheVariants as ends
use Rattle.procure_config.specs.Faults.{no_memory}
use Rattle.procure_config.specs.declared.fault.ProgramFault.{ProgramFault}
use Rattle.procure_config.specs.declared.fault.ProgramFault.TheVariants.{Store, Input, Output, Refused}
use Rattle.office_values.specs.declared.refusal.Refusal.TheVariants.{Unavailable}

-- The fault of a run over the standard streams. A failed writer is the output, and everything else is the input.
abbrev pub of_run : RunFault → ProgramFault
of_run ends.Write = Output
of_run _ = Input

-- The fault of an opening. A file that isn't an office is a fault of the store.
abbrev pub of_opening : OpenFault → ProgramFault
of_opening opening.NoMemory = no_memory
of_opening opening.Store = Store
of_opening opening.NotAnOffice = Store

-- The fault of a store.
abbrev pub of_shelf : ShelfFault → ProgramFault
of_shelf shelf.NoMemory = no_memory
of_shelf shelf.Store = Store

-- A run that ended without a fault is Ok. Otherwise the result is the run's fault.
abbrev pub IsToldOfRun : Result ℕ RunFault → Result (Unit {0}) ProgramFault → Type 0
IsToldOfRun (Ok n) result = result ≡ Ok tt
IsToldOfRun (Err fault) result = result ≡ Err (of_run fault)

-- A fault of an office's file: memory is too small, or the store failed.
abbrev pub IsOfStore : ProgramFault → Type 0
IsOfStore (Refused why) = why ≡ Unavailable
IsOfStore Store = Unit {0}
IsOfStore _ = ⊥
