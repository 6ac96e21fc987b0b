-- The work that words ask for of an office in two files, under the settings that a text gives.
use Rattle.std.specs.Prelude.{◌≡◌, ℕ, List, Option, Some, None, Result, Ok, Err}
use Rattle.std.specs.declared.net.socket_addr.SocketAddrV4.{SocketAddrV4}
use Rattle.sqlite_disk.specs.declared.Disk.{Ghosts}
use Rattle.sqlite_wal.specs.Recovery.{Image}
use Rattle.office_values.specs.declared.settings.Settings.{Settings}
use Rattle.procure_config.specs.Jobs.{Asked, Desk, Serve, ReadBudget, ReadTender}
use Rattle.procure_config.specs.declared.fault.ProgramFault.{ProgramFault}
use Rattle.procure_programs.specs.Hosts.{Hosting}
use Rattle.procure_programs.specs.Serving.{RunsFiles, RunsPrinting}
use Rattle.procure_programs.specs.Showing.{AsksPrintout, UnderSettings}
use Rattle.procure_programs.specs.declared.showing.Printout.{Printout}

-- The printout that words ask for was printed. If they name a notice by a text that isn't an identifier, or ask for no printout, nothing was printed.
abbrev pub PrintsAsked : {D : Type 0} → Ghosts D → Image → Settings → Option (List ℕ) → Option (List ℕ) → Result (Unit {0}) ProgramFault → Result (Option Printout) ProgramFault → Type 0
PrintsAsked g image settings before after result (Ok (Some printout)) = RunsPrinting g image settings printout before after result
PrintsAsked g image settings before after result (Ok None) = (after ≡ before) × (result ≡ Ok tt)
PrintsAsked g image settings before after result (Err told) = (after ≡ before) × (result ≡ Err told)

-- The printout that words ask for was printed, under the settings of a text.
abbrev pub PrintsUnder : {D : Type 0} → Ghosts D → Image → List ℕ → Asked → Option (List ℕ) → Option (List ℕ) → Result (Unit {0}) ProgramFault → Type 0
PrintsUnder g image text asked before after result =
    UnderSettings text result (after ≡ before) (λ settings.
    (printout : Result (Option Printout) ProgramFault) × AsksPrintout asked printout × PrintsAsked g image settings before after result printout)

-- The office was served at this port, under the settings of a text.
abbrev pub ServesUnder : {D : Type 0} (g : Ghosts D) {X T R W : Type 0} → (X → SocketAddrV4 → Option T → X → Type 0) → Hosting T R W → X → X → ℕ → Image → List ℕ → ℕ
    → Result (Unit {0}) ProgramFault → Type 0
ServesUnder g binds N network bound port image text count result =
    UnderSettings text result (bound ≡ network) (λ settings. RunsFiles g binds N network bound port image settings count result)

-- The work that these words ask for was done: the office was served, or its printout was printed. Words that ask for nothing of an office in a file do nothing.
abbrev pub DoesWork : {D : Type 0} (g : Ghosts D) {X T R W : Type 0} → (X → SocketAddrV4 → Option T → X → Type 0) → Hosting T R W → X → X → Image → List ℕ
    → Option (List ℕ) → Option (List ℕ) → Result (Unit {0}) ProgramFault → Asked → Type 0
DoesWork g binds N network bound image text before after result (Serve config store port count) =
    ServesUnder g binds N network bound port image text count result × (after ≡ before)
DoesWork g binds N network bound image text before after result (Desk config) = (bound ≡ network) × (after ≡ before)
DoesWork g binds N network bound image text before after result (ReadTender items file) = (bound ≡ network) × (after ≡ before)
DoesWork g binds N network bound image text before after result (ReadBudget file) = (bound ≡ network) × (after ≡ before)
DoesWork g binds N network bound image text before after result asked = PrintsUnder g image text asked before after result × (bound ≡ network)
