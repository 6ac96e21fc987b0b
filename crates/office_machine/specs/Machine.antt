-- The specification of commands, a state machine: when a command is refused, and which office an accepted one leaves.
use Rattle.std.specs.Prelude.{◌≡◌, ℕ, ◌+◌, Bool, not, List, [], ◌∷◌, ◌++◌, Option, Some, None, IsSome, max, option_map, option_and_then}
use Rattle.office_commands.specs.declared.command.Caller.{Caller}
use Rattle.office_commands.specs.declared.command.Caller.TheVariants.{Tenderer}
use Rattle.office_base.specs.declared.records.TendererRow.{TendererRow}
use Rattle.office_commands.specs.declared.commands.Command.{Command}
use Rattle.office_commands.specs.Rights.{may}
use Rattle.office_commands.specs.Commands.{IsCommand, kind_of}
use Rattle.office_values.specs.declared.refusal.Refusal.{Refusal}
use Rattle.office_values.specs.declared.refusal.Refusal.TheVariants.{Forbidden}
use Rattle.office_base.specs.declared.records.ReleaseRow.{ReleaseRow}
use Rattle.office_base.specs.declared.records.CompiledRow.{CompiledRow}
use Rattle.office_base.specs.Rows.{IsInOrder}
use Rattle.office_values.specs.Ids.{id_cmp}
use Rattle.office_base.specs.Tables.{Tables, no_tables, compiled_key, find_compiled, find_tenderer, notice_at, after_puts}
use Rattle.office_base.specs.declared.puts.Put.TheVariants as puts
use Rattle.office_base.specs.declared.puts.Put.{Put}
use Rattle.office_base.specs.Rules.{first_of}
use Rattle.office_machine.specs.Publications.{published_for}
use Rattle.office_machine.specs.Counted.{releases_in}
use Rattle.office_machine.specs.Readings.{Readings}
use Rattle.office_machine.specs.Replies.{Reply}
use Rattle.office_machine.specs.Commands.{rule_of}

-- A command that is given, with the office before it, the moment and the caller.
pub record Given : Type 0 where
  pub before : Tables
  pub moment : ℕ
  pub caller : Caller
  pub command : Command

-- The caller has the right to give the command.
abbrev pub may_give : Caller → Command → Bool
may_give caller command = may caller (kind_of command)

-- The moment of a command: the given moment, or that of the last accepted command if this is later.
abbrev pub time_of : Given → ℕ
time_of x = max x.moment x.before.clock.moment

-- The conditions of a command's own refusals, in their order.
abbrev pub tests_for : Tables → ℕ → Caller → Command → List (Bool × Refusal)
tests_for s t caller command = (rule_of command).tests s t caller

-- The conditions of the own refusals of a given command, in their order.
abbrev pub command_tests : Given → List (Bool × Refusal)
command_tests x = tests_for x.before (time_of x) x.caller x.command

-- All conditions of refusals: first the caller's right, then the command's own.
abbrev pub tests : Given → List (Bool × Refusal)
tests x = (not (may_give x.caller x.command), Forbidden) ∷ command_tests x

-- The first refusal whose condition holds; none if the command is accepted.
abbrev pub refusal_of : Given → Option Refusal
refusal_of x = first_of (tests x)

-- The parameters of the specification: how tenders are read, the digest, and the text of a command's release, if one is made.
pub record Means : Type 0 where
  pub readings : Readings
  pub release : Given → Option (List ℕ)

-- The row of a command's release: it belongs to this notice and has the notice's next number.
abbrev pub release_row : Given → List ℕ → List ℕ → ReleaseRow
release_row x notice text = record { notice = notice; seq = releases_in (notice_at notice x.before) + 1; moment = time_of x; text = text }

-- The row of the release that a command makes for this notice, if one is made.
abbrev pub release_of_notice : Means → Given → List ℕ → Option ReleaseRow
release_of_notice means x notice = option_map (release_row x notice) (means.release x)

-- The row of the release that a command publishes, if it publishes one.
abbrev pub publication : Means → Given → Option ReleaseRow
publication means x = option_and_then (release_of_notice means x) (published_for x.before x.command)

-- The change that stores a release, if there is one.
abbrev pub publication_puts : Option ReleaseRow → List Put
publication_puts None = []
publication_puts (Some release) = puts.Release release ∷ []

-- The changes that an accepted command makes, without its release.
abbrev pub puts_for : Readings → Tables → ℕ → Caller → Command → List Put
puts_for readings s t caller command = (rule_of command).puts readings s t caller

-- The reply to an accepted command. `s` is the office before it, and `u` the office after it.
abbrev pub reply_for : Readings → Tables → Tables → ℕ → Caller → Command → Reply
reply_for readings s u t caller command = (rule_of command).reply readings s u t caller

-- The changes that a given command makes, without its release.
abbrev pub effect : Readings → Given → List Put
effect readings x = puts_for readings x.before (time_of x) x.caller x.command

-- The office after these changes.
abbrev pub done : Readings → Given → Tables
done readings x = after_puts (effect readings x) x.before

-- All changes that a given command makes, with its release.
abbrev pub puts_of : Means → Given → List Put
puts_of means x = effect means.readings x ++ publication_puts (publication means x)

-- The office after an accepted command.
abbrev pub next : Means → Given → Tables
next means x = after_puts (puts_of means x) x.before

-- If the caller is a tenderer, the tenderer is registered.
abbrev pub IsRegistered : Caller → List TendererRow → Type 0
IsRegistered (Tenderer id) tenderers = IsSome (find_tenderer tenderers id)
IsRegistered caller tenderers = Unit {0}

-- The command can be given: no two lots of a new notice have the same identifier, and a tenderer who calls is registered.
abbrev pub CanBeGiven : Given → Type 0
CanBeGiven x = IsCommand x.command × IsRegistered x.caller x.before.tenderers

-- The office with these merges of releases beside it. They are in the same tables, but they are no part of the office.
abbrev pub with_merges : List CompiledRow → Tables → Tables
with_merges merges s = record s { compiled = merges }

-- Each of these merges is of a notice that exists.
abbrev pub AreOfNotices : List CompiledRow → Tables → Type 0
AreOfNotices merges s = (key : List ℕ) (r : CompiledRow) → find_compiled merges key ≡ Some r → IsSome (notice_at r.notice s)

-- One accepted command: it can be given to a reached office, it isn't refused, and it leads to this office. Beside that, merges of releases of its notices may
-- be stored.
pub record Steps (means : Means) (Reached : Tables → Type 0) (x : Given) (s : Tables) : Type 0 where
  pub reached : Reached x.before
  pub given : CanBeGiven x
  pub allowed : refusal_of x ≡ None
  pub merges : List CompiledRow
  pub in_order : IsInOrder id_cmp compiled_key merges
  pub of_notices : AreOfNotices merges (next means x)
  pub is : s ≡ with_merges merges (next means x)

-- The accepted commands, the last one first, lead from the empty office to this one.
abbrev pub Reaches : Means → List Given → Tables → Type 0
Reaches means [] s = s ≡ no_tables
Reaches means (x ∷ xs) s = Steps means (Reaches means xs) x s
