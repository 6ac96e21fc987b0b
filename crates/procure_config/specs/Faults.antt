-- The line and the exit status with which the program reports a fault.
use Rattle.std.specs.Fmt.{with_newline}
use Rattle.std.specs.Prelude.{codes, ◌≡◌, ◌≢◌, ℕ, List, ◌++◌, Option, Some, None}
use Rattle.clap.specs.Words.{kind_of}
use Rattle.clap.specs.declared.error.Error.{Error}
use Rattle.clap.specs.declared.error.kind.ErrorKind.TheVariants.{OutOfMemory}
use Rattle.office_values.specs.Refusals.{name_of_refusal}
use Rattle.office_values.specs.declared.refusal.Refusal.TheVariants.{NoRoute, Unavailable}
use Rattle.procure_config.specs.Configuration.{name_text}
use Rattle.procure_config.specs.declared.settings.SettingsFault.{SettingsFault}
use Rattle.procure_config.specs.declared.settings.SettingsFault.TheVariants.{NoMemory, NotToml, Member}
use Rattle.procure_config.specs.declared.fault.ProgramFault.{ProgramFault}
use Rattle.procure_config.specs.declared.fault.ProgramFault.TheVariants.{Arguments, Settings, Store, Input, Output, Refused}

-- The line of a fault. Clap writes the text for faults of the arguments.
abbrev pub line_of : ProgramFault → Option (List ℕ)
line_of (Arguments error) = None
line_of (Settings None) = Some (codes "procure: settings")
line_of (Settings (Some member)) = Some (codes "procure: settings " ++ name_text member)
line_of Store = Some (codes "procure: store")
line_of Input = Some (codes "procure: input")
line_of Output = Some (codes "procure: output")
line_of (Refused refusal) = Some (codes "procure: " ++ name_of_refusal refusal)

-- The line with its end.
abbrev pub ended_line : ProgramFault → Option (List ℕ)
ended_line fault = with_newline (line_of fault)

-- The exit status.
abbrev pub exit_of : ProgramFault → ℕ
exit_of (Arguments error) = 2
exit_of _ = 1

-- Memory is too small.
abbrev pub no_memory : ProgramFault
no_memory = Refused Unavailable

-- The named notice can't exist, because its name isn't an identifier.
abbrev pub no_route : ProgramFault
no_route = Refused NoRoute

-- The fault of a program whose settings have a fault.
abbrev pub of_settings : SettingsFault → ProgramFault
of_settings NoMemory = no_memory
of_settings NotToml = Settings None
of_settings (Member member) = Settings (Some member)

-- The fault of a program whose arguments clap rejected, or couldn't read because memory is too small.
abbrev pub IsOfParse : Error → ProgramFault → Type 0
IsOfParse error (Arguments told) = (told ≡ error) × (kind_of error ≢ OutOfMemory)
IsOfParse error (Refused refusal) = (kind_of error ≡ OutOfMemory) × (refusal ≡ Unavailable)
IsOfParse error _ = ⊥
