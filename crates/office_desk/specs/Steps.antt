-- The answers of a desk: the specification's step, or `Unavailable` if memory is too small or the store fails.
use Rattle.std.specs.Prelude.{◌≡◌, ℕ, false, ◌⊎◌, List, ◌∷◌, ◌++◌, map, Some, None, Result, Ok, Err, IfErr, OnOk, OnErr, Vec}
use Rattle.std.specs.declared.alloc.Global.{Global}
use Rattle.office_commands.specs.declared.command.Caller.{Caller}
use Rattle.office_commands.specs.declared.queries.Query.{Query}
use Rattle.office_commands.specs.declared.queries.Query.TheVariants as queries
use Rattle.ocds_release.specs.Texts.{ocid_text}
use Rattle.office_values.specs.declared.refusal.Refusal.{Refusal}
use Rattle.office_values.specs.declared.refusal.Refusal.TheVariants.{Unavailable}
use Rattle.office_values.specs.declared.settings.Publisher.{Publisher}
use Rattle.office_base.specs.Faults.{HasRisen}
use Rattle.office_base.specs.Joined.{is_overdrawn}
use Rattle.office_base.specs.Rows.{holds_of}
use Rattle.office_base.specs.Tables.{Tables, after_puts, contract_at, entries_of_contract}
use Rattle.office_base.specs.declared.puts.Put.TheVariants as puts
use Rattle.office_base.specs.declared.records.CompiledRow.{CompiledRow}
use Rattle.office_base.specs.Shelves.{Meaning}
use Rattle.office_machine.specs.Lacking.{is_lacking}
use Rattle.office_machine.specs.Machine.{Given, puts_of, refusal_of, Reaches}
use Rattle.office_machine.specs.Accounts.{AccountsHold}
use Rattle.office_machine.specs.Fates.{TendersHaveFates, SecuritiesHaveFates, PerformancesHaveFates}
use Rattle.office_machine.specs.Sights.{Packages, told}
use Rattle.office_publications.specs.Keeping.{KeepsItsReleases, KeepsReleases, next_with_merges}
use Rattle.office_publications.specs.Merges.{HasMerge}
use Rattle.office_publications.specs.Packages.{packages}
use Rattle.office_publications.specs.Publishing.{publishing}
use Rattle.office_publications.specs.Standing.{IsReached}
use Rattle.office_publications.specs.Told.{HasReleases}
use Rattle.office_plans.specs.Published.{accepted_reply}
use Rattle.office_plans.specs.Replies.{reply_text, text_of}
use Rattle.office_desk.specs.Balances.{LedgerAddsUp, LineAddsUp}
use Rattle.office_desk.specs.MovedLines.{MovesAddUp}

-- The text as the list of its bytes.
abbrev pub read_text : Result (Vec ℕ Global) Refusal → Result (List ℕ) Refusal
read_text (Ok text) = Ok text.items
read_text (Err why) = Err why

-- The answer is the reply, the command's refusal, or `Unavailable`.
abbrev pub IsReplyOrRefusal : Publisher → Given → Result (List ℕ) Refusal → Type 0
IsReplyOrRefusal publisher x (Ok reply) = (refusal_of x ≡ None) × (reply ≡ reply_text (accepted_reply x))
IsReplyOrRefusal publisher x (Err why) = (refusal_of x ≡ Some why) ⊎ (why ≡ Unavailable)

-- These are the tables after the whole command, which isn't refused. This is so for each office that the store held and whose notice keeps its releases.
abbrev pub IsOfficeAfter : {S : Type 0} → Meaning S → Publisher → S → (Tables → Given) → Tables → Type 0
IsOfficeAfter M publisher old x u = (t : Tables) → M.holds old t → KeepsItsReleases (x t) → (refusal_of (x t) ≡ None) × (u ≡ next_with_merges publisher (x t))

-- The command's own rows and its release are written, and perhaps a merge. These are the specification's rows, whatever the releases of the notice are.
abbrev pub HasWritten : Publisher → Given → (Tables → Type 0) → Type 0
HasWritten publisher x Holds = (merges : List CompiledRow) × Holds (after_puts (puts_of (publishing publisher) x ++ map puts.Compiled merges) x.before)

-- The effect of a command that was asked for. After Ok the command is done, if the notice for which it publishes keeps its releases. Its own rows and its
-- release are written in any case. No row that it needs was missing, and each line adds up whose money it moved. After a refusal nothing has changed. A stop leaves the tables without the command or with all of
-- it. After a refusal it leaves only what it could leave before, and after `Unavailable` perhaps the tables with the command.
pub record Does {S T : Type 0} (M : Meaning S) (publisher : Publisher) (old new : S) (result : Result T Refusal) (x : Tables → Given) : Type 0 where
  pub before : M.honest new → M.honest old
  pub all : M.honest new → (t : Tables) → M.holds old t → KeepsItsReleases (x t) → OnOk result (M.holds new (next_with_merges publisher (x t)))
  pub none : M.honest new → (t : Tables) → M.holds old t → OnErr result (M.holds new t)
  pub written : M.honest new → (t : Tables) → M.holds old t → OnOk result (HasWritten publisher (x t) (M.holds new))
  pub whole : M.honest new → (t : Tables) → M.holds old t → OnOk result (is_lacking (x t) ≡ false)
  pub moved : M.honest new → (t : Tables) → M.holds old t → OnOk result (MovesAddUp (x t).command t)
  pub stop_all : M.honest new → (t : Tables) → M.holds old t → KeepsItsReleases (x t)
      → OnOk result ((u : Tables) → M.may_leave new u → u ≡ next_with_merges publisher (x t))
  pub stop_none : M.honest new → IfErr result (λ why. (u : Tables) → M.may_leave new u → M.may_leave old u ⊎ ((why ≡ Unavailable) × IsOfficeAfter M publisher old x u))
  pub sound : M.honest new → M.leaves_sound old → M.leaves_sound new

-- A query for a package needs a reached office with its releases. Any other query needs nothing.
abbrev pub Needs : Publisher → Query → Tables → Type 0
Needs publisher (queries.Releases notice) s = IsReached publisher s
Needs publisher (queries.Record notice) s = IsReached publisher s
Needs publisher query s = Unit {0}

-- The answer is the text that the specification shows, the query's refusal, or `Unavailable`.
abbrev pub IsSeen : Publisher → Caller → Query → Tables → Result (List ℕ) Refusal → Type 0
IsSeen publisher caller query s result =
    Needs publisher query s → (result ≡ text_of (told (packages publisher) s caller query)) ⊎ (result ≡ Err Unavailable)

-- The facts that an answer shows hold, even if no commands lead to this office. On a line, alone or in the ledger, the four balances add up to the
-- appropriation. For the releases, each release that the notice's row counts exists, and is a release of this notice as the office writes it. For the record,
-- its merge is too. By the entries of a contract, no more money went out of it than came in.
abbrev pub HasShown : Publisher → Query → Tables → Type 0
HasShown publisher (queries.Line line) s = LineAddsUp line s
HasShown publisher queries.Ledger s = LedgerAddsUp s
HasShown publisher (queries.Releases notice) s = HasReleases publisher notice s
HasShown publisher (queries.Record notice) s = HasReleases publisher notice s × HasMerge (ocid_text publisher.prefix notice) notice s
HasShown publisher (queries.Contract contract) s = holds_of (is_overdrawn (entries_of_contract contract s)) (contract_at contract s) ≡ false
HasShown publisher query s = Unit {0}

-- The answer to a query that isn't for a package; packages are empty here.
abbrev pub no_packages : Packages
no_packages query s = Rattle.std.specs.Prelude.[]

abbrev pub IsShown : Caller → Query → Tables → Result (List ℕ) Refusal → Type 0
IsShown caller query s result = (result ≡ text_of (told no_packages s caller query)) ⊎ (result ≡ Err Unavailable)

-- If the specification refuses the query, the result is this refusal, or the store has counted another fault.
abbrev pub TellsQuery : {S T : Type 0} → Meaning S → S → S → Caller → Query → Result T Refusal → Type 0
TellsQuery M old new caller query result =
    M.honest new → (s : Tables) → M.holds old s → (why : Refusal) → text_of (told no_packages s caller query) ≡ Err why
    → (result ≡ Err why) ⊎ HasRisen (M.fault_count old) (M.fault_count new)

-- The office after the answer, and the commands that are accepted by then.
abbrev pub office_after_answer : Publisher → Given → Result (List ℕ) Refusal → Tables
office_after_answer publisher x (Ok reply) = next_with_merges publisher x
office_after_answer publisher x (Err why) = x.before

abbrev pub accepted_after : Given → Result (List ℕ) Refusal → List Given → List Given
accepted_after x (Ok reply) xs = x ∷ xs
accepted_after x (Err why) xs = xs

-- These accepted commands lead to the office. Its accounts are the sums that they moved. Each tender and each security, of a tender or of a contract, has the
-- fate that they gave it.
pub record OfficeIsKept (publisher : Publisher) (xs : List Given) (s : Tables) : Type 0 where
  pub reaches : Reaches (publishing publisher) xs s
  pub accounts : AccountsHold xs s
  pub tenders : TendersHaveFates (publishing publisher) xs s
  pub securities : SecuritiesHaveFates xs s
  pub performances : PerformancesHaveFates xs s

-- After the answer, the store holds the office that the specification says, and this office keeps its releases. The commands that were accepted so far, with
-- this one, lead to it.
pub record Joins {S : Type 0} (M : Meaning S) (publisher : Publisher) (new : S) (x : Given) (result : Result (List ℕ) Refusal) (xs : List Given) : Type 0 where
  pub holds : M.holds new (office_after_answer publisher x result)
  pub kept : OfficeIsKept publisher (accepted_after x result xs) (office_after_answer publisher x result)
  pub releases : KeepsReleases (office_after_answer publisher x result)
