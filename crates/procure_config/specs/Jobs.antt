-- The job that the arguments of the program ask for.
use Rattle.std.specs.Prelude.{codes, ◌≡◌, true, ℕ, List, [], ◌∷◌, Option, Some, None, option_and_then, if◌then◌else◌, is_some, nat_eq}
use Rattle.std.specs.Cmp.Lexicographic.{pointwise}
use Rattle.std.specs.Str.Parse.{digits_value, without_leading_plus}
use Rattle.clap.specs.Kinds.{or_else}
use Rattle.clap.specs.ValueTests.{is_unsigned_in}
use Rattle.clap.specs.Words.{App, IsAmong, Kinds, Row, Rule, Text, fault_of, first_of, kind_of, new_app, new_rule, one_of, subcommand_of, with_rule, with_subcommand}
use Rattle.clap.specs.declared.builder.value_parser.ValueParser.TheVariants.{Unsigned}
use Rattle.clap.specs.declared.error.kind.ErrorKind.TheVariants.{MissingSubcommand}
use Rattle.office_values.specs.declared.refusal.Refusal.TheVariants.{Unavailable}
use Rattle.procure_config.specs.declared.job.Job.{Job}
use Rattle.procure_config.specs.declared.job.Job.TheVariants as job
use Rattle.procure_config.specs.declared.fault.ProgramFault.{ProgramFault}
use Rattle.procure_config.specs.declared.fault.ProgramFault.TheVariants.{Arguments, Refused}

-- The greatest port (RFC 9293, section 3.1), and the most connections of one run.
abbrev pub port_bound : ℕ
port_bound = 65535

abbrev pub count_bound : ℕ
count_bound = 1000000

-- An argument that must be given.
abbrev pub needed_rule : Text → Rule
needed_rule name = record (new_rule name) { required = true }

-- An argument that must be a number from 1 to this bound.
abbrev pub number_rule : Text → ℕ → Rule
number_rule name most = record (needed_rule name) { parser = Some (Unsigned 1 most) }

-- A subcommand with the settings of an office: `NAME CONFIG`.
abbrev pub over_settings : Text → App
over_settings name = with_rule (new_app name) (needed_rule (codes "CONFIG"))

-- A subcommand with an office in a file: `NAME CONFIG DB`.
abbrev pub over_store : Text → App
over_store name = with_rule (over_settings name) (needed_rule (codes "DB"))

-- A subcommand with a notice of such an office: `NAME CONFIG DB NOTICE`.
abbrev pub over_notice : Text → App
over_notice name = with_rule (over_store name) (needed_rule (codes "NOTICE"))

-- A subcommand with such an office at a port: `NAME CONFIG DB PORT`.
abbrev pub over_port : Text → App
over_port name = with_rule (over_store name) (number_rule (codes "PORT") port_bound)

-- `serve CONFIG DB PORT COUNT`.
abbrev pub serve : App
serve = with_rule (over_port (codes "serve")) (number_rule (codes "COUNT") count_bound)

-- `read-tender ITEMS`, and `read-tender ITEMS FILE`.
abbrev pub over_items : App
over_items = with_rule (new_app (codes "read-tender")) (needed_rule (codes "ITEMS"))

abbrev pub read_tender : App
read_tender = with_rule over_items (needed_rule (codes "FILE"))

-- `read-budget FILE`.
abbrev pub read_budget : App
read_budget = with_rule (new_app (codes "read-budget")) (needed_rule (codes "FILE"))

-- The program's name, and its option `--version`.
abbrev pub named : App
named = let app = new_app (codes "procure") in record app { top = record app.top { has_version = true } }

-- The program's subcommands.
abbrev pub subcommands : App
subcommands =
    with_subcommand (with_subcommand (with_subcommand (with_subcommand (with_subcommand (with_subcommand (with_subcommand (with_subcommand
    (with_subcommand named
    (over_settings (codes "desk")).top) serve.top) (over_store (codes "ledger")).top) (over_notice (codes "minutes")).top) (over_notice (codes "record")).top)
    (over_store (codes "notices")).top) (over_notice (codes "evaluation")).top) read_tender.top) read_budget.top

-- The program's command line: a subcommand must be given.
unfoldable pub procure : App
procure = let app = subcommands in record app { top = record app.top { subcommand_required = true } }

-- The job that arguments ask for.
pub data Asked : Type 0 where
  Desk : (config : Text) → Asked
  Serve : (config store : Text) → (port count : ℕ) → Asked
  Ledger : (config store : Text) → Asked
  Minutes : (config store notice : Text) → Asked
  Record : (config store notice : Text) → Asked
  Notices : (config store : Text) → Asked
  Evaluation : (config store notice : Text) → Asked
  ReadTender : (items file : Text) → Asked
  ReadBudget : (file : Text) → Asked

-- The job as the program's own type has it.
abbrev pub asked_by_job : Job → Asked
asked_by_job (job.Desk config) = Desk config.now
asked_by_job (job.Serve config store port count) = Serve config.now store.now port count
asked_by_job (job.Ledger config store) = Ledger config.now store.now
asked_by_job (job.Minutes config store notice) = Minutes config.now store.now notice.now
asked_by_job (job.Record config store notice) = Record config.now store.now notice.now
asked_by_job (job.Notices config store) = Notices config.now store.now
asked_by_job (job.Evaluation config store notice) = Evaluation config.now store.now notice.now
asked_by_job (job.ReadTender items file) = ReadTender items.now file.now
asked_by_job (job.ReadBudget file) = ReadBudget file.now

-- The number that a text writes in decimal digits, if it is from 1 to this bound.
abbrev pub number_in : ℕ → Option Text → Option ℕ
number_in most None = None
number_in most (Some text) = if is_unsigned_in 1 most text then Some (digits_value 10 (without_leading_plus text)) else None

-- A value, followed by the next step if it exists.
infixl 10 ◌>>=◌
abbrev pub ◌>>=◌ : {A B : Type 0} → Option A → (A → Option B) → Option B
value >>= next = option_and_then next value

-- The job that the values of each subcommand ask for, or none if a value is missing or isn't a number in its bounds.
abbrev pub desk_in : List Row → Option Asked
desk_in rows = do
  config ← first_of (codes "CONFIG") rows
  Some (Desk config)

abbrev pub serve_in : List Row → Option Asked
serve_in rows = do
  config ← first_of (codes "CONFIG") rows
  store ← first_of (codes "DB") rows
  port ← number_in port_bound (one_of (codes "PORT") rows)
  count ← number_in count_bound (one_of (codes "COUNT") rows)
  Some (Serve config store port count)

abbrev pub ledger_in : List Row → Option Asked
ledger_in rows = do
  config ← first_of (codes "CONFIG") rows
  store ← first_of (codes "DB") rows
  Some (Ledger config store)

abbrev pub minutes_in : List Row → Option Asked
minutes_in rows = do
  config ← first_of (codes "CONFIG") rows
  store ← first_of (codes "DB") rows
  notice ← first_of (codes "NOTICE") rows
  Some (Minutes config store notice)

abbrev pub record_in : List Row → Option Asked
record_in rows = do
  config ← first_of (codes "CONFIG") rows
  store ← first_of (codes "DB") rows
  notice ← first_of (codes "NOTICE") rows
  Some (Record config store notice)

abbrev pub notices_in : List Row → Option Asked
notices_in rows = do
  config ← first_of (codes "CONFIG") rows
  store ← first_of (codes "DB") rows
  Some (Notices config store)

abbrev pub evaluation_in : List Row → Option Asked
evaluation_in rows = do
  config ← first_of (codes "CONFIG") rows
  store ← first_of (codes "DB") rows
  notice ← first_of (codes "NOTICE") rows
  Some (Evaluation config store notice)

abbrev pub read_tender_in : List Row → Option Asked
read_tender_in rows = do
  items ← first_of (codes "ITEMS") rows
  file ← first_of (codes "FILE") rows
  Some (ReadTender items file)

abbrev pub read_budget_in : List Row → Option Asked
read_budget_in rows = do
  file ← first_of (codes "FILE") rows
  Some (ReadBudget file)

-- The job by the name of the subcommand.
abbrev pub asked_as : Text → List Row → Option Asked
asked_as name rows =
    if pointwise nat_eq name (codes "desk") then desk_in rows
    else if pointwise nat_eq name (codes "serve") then serve_in rows
    else if pointwise nat_eq name (codes "ledger") then ledger_in rows
    else if pointwise nat_eq name (codes "minutes") then minutes_in rows
    else if pointwise nat_eq name (codes "record") then record_in rows
    else if pointwise nat_eq name (codes "notices") then notices_in rows
    else if pointwise nat_eq name (codes "evaluation") then evaluation_in rows
    else if pointwise nat_eq name (codes "read-tender") then read_tender_in rows
    else if pointwise nat_eq name (codes "read-budget") then read_budget_in rows
    else None

-- The job of the subcommand that was found.
abbrev pub job_of_subcommand : Option (Text × List Row) → Option Asked
job_of_subcommand None = None
job_of_subcommand (Some met) = asked_as met.0 met.1

-- The job that the arguments ask for, by the subcommand and the values that clap finds in them.
abbrev pub asked : List Text → Option Asked
asked words = job_of_subcommand (subcommand_of procure words)

-- The arguments ask for this job.
abbrev pub AsksFor : List Text → Job → Type 0
AsksFor words j = asked words ≡ Some (asked_by_job j)

-- The kinds of fault that arguments may have: those of clap, or if clap finds none, that they name no job.
abbrev pub faults_of : List Text → Kinds
faults_of words = or_else (fault_of procure words) (if is_some (asked words) then [] else MissingSubcommand ∷ [])

-- The arguments have a fault of one of these kinds, or memory is too small.
abbrev pub IsFaultOf : Kinds → ProgramFault → Type 0
IsFaultOf kinds (Arguments error) = IsAmong (kind_of error) kinds
IsFaultOf kinds (Refused refusal) = refusal ≡ Unavailable
IsFaultOf kinds _ = ⊥
