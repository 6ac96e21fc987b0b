-- The plan of a command, with the release that it publishes.
use Rattle.std.specs.Prelude.{◌≡◌, ◌⊎◌, ◌++◌, Bool, true, false, List, map, Some, None, Result, Ok, Err}
use Rattle.office_values.specs.declared.refusal.Refusal.{Refusal}
use Rattle.office_values.specs.declared.refusal.Refusal.TheVariants.{Exists, Unavailable}
use Rattle.office_values.specs.declared.settings.Publisher.{Publisher}
use Rattle.office_commands.specs.declared.commands.Command.{Command}
use Rattle.office_commands.specs.declared.commands.Command.TheVariants as commands
use Rattle.office_base.specs.Faults.{HasRisen}
use Rattle.office_base.specs.Shelves.{Meaning}
use Rattle.office_base.specs.Tables.{Tables}
use Rattle.office_base.specs.declared.puts.Put.TheVariants as changes
use Rattle.office_base.specs.declared.records.CompiledRow.{CompiledRow}
use Rattle.office_commands.specs.Commands.{IsCommand}
use Rattle.office_machine.specs.Lacking.{is_lacking}
use Rattle.office_machine.specs.Machine.{Given, done, puts_of, refusal_of, reply_for, time_of}
use Rattle.office_machine.specs.OfficeMeans.{office_readings}
use Rattle.office_machine.specs.Replies.{Reply}
use Rattle.office_publications.specs.Keeping.{FollowsReleases, KeepsItsReleases, PublicationReadsBack, kept_puts}
use Rattle.office_publications.specs.Publishing.{publishing}
use Rattle.office_plans.specs.Plans.{Plan}
use Rattle.office_plans.specs.Replies.{reply_text}

-- The reply to a command that is accepted.
abbrev pub accepted_reply : Given → Reply
accepted_reply x = reply_for office_readings x.before (done office_readings x) (time_of x) x.caller x.command

-- The planned changes are exactly those of the specification, with the release and the merge. The release that is published can be read again.
pub record IsPut (publisher : Publisher) (x : Given) (planned : Plan) : Type 0 where
  pub puts : planned.puts ≡ kept_puts publisher x
  pub reads : PublicationReadsBack publisher x

-- The planned changes are those of the specification, with its release, and perhaps a merge. This is so whatever the releases of the notice are.
abbrev pub PutsAllBut : Publisher → Given → Plan → Type 0
PutsAllBut publisher x planned = (merges : List CompiledRow) × (planned.puts ≡ puts_of (publishing publisher) x ++ map changes.Compiled merges)

-- This is the plan of an accepted command. Its form is allowed, no row that it needs is missing, its release follows the last one of its notice, and its reply is the specification's. If the
-- notice keeps its releases, the planned changes are the specification's too.
pub record IsPlan (publisher : Publisher) (x : Given) (planned : Plan) : Type 0 where
  pub given : IsCommand x.command
  pub allowed : refusal_of x ≡ None
  pub whole : is_lacking x ≡ false
  pub follows : FollowsReleases publisher x
  pub put : KeepsItsReleases x → IsPut publisher x planned
  pub effect : PutsAllBut publisher x planned
  pub reply : planned.reply ≡ reply_text (accepted_reply x)

-- The result is the plan, the command's refusal, or `Unavailable`.
abbrev pub IsPlanned : Publisher → Given → Result Plan Refusal → Type 0
IsPlanned publisher x (Ok planned) = IsPlan publisher x planned
IsPlanned publisher x (Err why) = (refusal_of x ≡ Some why) ⊎ (why ≡ Unavailable)

-- The command takes memory before it is refused so. Only an import and a publication take any, for a table of the budget lines that they name. They take none if their
-- identifier is used.
abbrev pub takes_memory : Command → Refusal → Bool
takes_memory (commands.Import batch rows) Exists = false
takes_memory (commands.Import batch rows) why = true
takes_memory (commands.Publish notice content) Exists = false
takes_memory (commands.Publish notice content) why = true
takes_memory command why = false

-- If the specification refuses the command with a refusal that is found without memory, the result is this refusal, or the store has counted another fault.
abbrev pub TellsRefusal : {S T : Type 0} → Meaning S → S → S → (Tables → Given) → Result T Refusal → Type 0
TellsRefusal M old new x result =
    M.honest new → (s : Tables) → M.holds old s → (why : Refusal) → refusal_of (x s) ≡ Some why → takes_memory (x s).command why ≡ false
    → (result ≡ Err why) ⊎ HasRisen (M.fault_count old) (M.fault_count new)
