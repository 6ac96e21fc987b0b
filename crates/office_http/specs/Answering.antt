-- The office's answer to the meaning of a request: the reply, its bytes, and the office after it.
use Rattle.std.specs.Prelude.{◌≡◌, ℕ, ◌⊎◌, Bool, true, false, not, ◌&&◌, List, Option, None, is_none, if◌then◌else◌}
use Rattle.office_commands.specs.declared.command.QueryKind.{QueryKind}
use Rattle.office_commands.specs.declared.command.QueryKind.TheVariants as kinds
use Rattle.office_values.specs.declared.refusal.Refusal.{Refusal}
use Rattle.office_values.specs.declared.refusal.Refusal.TheVariants as refusals
use Rattle.office_values.specs.declared.settings.Publisher.{Publisher}
use Rattle.office_values.specs.declared.settings.Settings.{Settings}
use Rattle.office_base.specs.Tables.{Tables}
use Rattle.office_base.specs.Shelves.{Meaning}
use Rattle.office_machine.specs.Commands.{rule_of}
use Rattle.office_machine.specs.Machine.{refusal_of}
use Rattle.office_machine.specs.Replies as machine
use Rattle.office_machine.specs.Requests.{reply_by}
use Rattle.office_machine.specs.Sights.{told}
use Rattle.office_publications.specs.Keeping.{KeepsItsReleases}
use Rattle.office_publications.specs.Packages.{packages}
use Rattle.office_publications.specs.Publishing.{publishing}
use Rattle.office_publications.specs.Standing.{IsReached, office_kept}
use Rattle.office_plans.specs.Asking.{given}
use Rattle.office_desk.specs.Desks.{DeskOf}
use Rattle.office_desk.specs.MovedLines.{MovesAddUp}
use Rattle.office_desk.specs.Steps.{HasShown, HasWritten, Needs}
use Rattle.office_plans.specs.Replies.{reply_text}
use Rattle.office_requests.specs.declared.route.Allow.{Allow}
use Rattle.office_wire.specs.Blocks.{Block}
use Rattle.office_wire.specs.Request.{RequestView, IsRequest, IsRefused}
use Rattle.office_wire.specs.Runs.{Answers}
use Rattle.office_wire.specs.declared.fault.ReadFault.{ReadFault}
use Rattle.office_wire.specs.declared.fault.ReadFault.TheVariants as fault
use Rattle.office_http.specs.AtSight.{TellsAtSight, refused_at_sight}
use Rattle.office_http.specs.Certain.{TellsCertain}
use Rattle.office_http.specs.Meaning.{Meant, Refuses, Gives, Sees, meant}
use Rattle.office_http.specs.Response.{response_of}
use Rattle.office_http.specs.declared.reply.Reply.{Reply}
use Rattle.office_http.specs.declared.reply.Reply.TheVariants.{Json, Text, Refused}

-- A reply of the specification as it is sent. The ledger, a register, minutes and an evaluation are plain texts, and everything else is JSON.
abbrev pub told_as : machine.Reply → Reply
told_as (machine.Refused why) = Refused why None
told_as (machine.LedgerSeen rows) = Text (reply_text (machine.LedgerSeen rows))
told_as (machine.Registry notice rows) = Text (reply_text (machine.Registry notice rows))
told_as (machine.Minutes notice lots rows) = Text (reply_text (machine.Minutes notice lots rows))
told_as (machine.EvaluationSeen notice lots) = Text (reply_text (machine.EvaluationSeen notice lots))
told_as reply = Json (reply_text reply)

-- The text that a query of this kind shows, as it is sent.
abbrev pub seen_as : QueryKind → List ℕ → Reply
seen_as kinds.Ledger text = Text text
seen_as kinds.Minutes text = Text text
seen_as kinds.Register text = Text text
seen_as kinds.Evaluation text = Text text
seen_as _ text = Json text

-- The reply to the meaning of a request at this moment.
abbrev pub reply_to_meant : Settings → Tables → ℕ → Meant → Reply
reply_to_meant settings s moment (Refuses why method) = Refused why method
reply_to_meant settings s moment (Gives caller command) =
    told_as (reply_by (refusal_of (given s moment caller command)) (publishing settings.publisher) (given s moment caller command))
reply_to_meant settings s moment (Sees caller query) = told_as (told (packages settings.publisher) s caller query)

-- The office after the answer.
abbrev pub tables_after : Settings → Tables → ℕ → Meant → Tables
tables_after settings s moment (Gives by command) = office_kept (refusal_of (given s moment by command)) settings.publisher (given s moment by command)
tables_after settings s moment m = s

-- The meaning is a command that isn't refused.
abbrev pub is_accepted : Tables → ℕ → Meant → Bool
is_accepted s moment (Gives caller command) = is_none (refusal_of (given s moment caller command))
is_accepted s moment m = false

-- The response if memory is too small or the store fails.
abbrev pub unavailable_text : List ℕ
unavailable_text = response_of (Refused refusals.Unavailable None)

-- The bytes of the response, and the office after it. An answer of `Unavailable` changes nothing.
abbrev pub answer_bytes : Settings → Bool → Tables → ℕ → Meant → List ℕ
answer_bytes settings busy s moment m = if busy then unavailable_text else response_of (reply_to_meant settings s moment m)

abbrev pub tables_left : Settings → Bool → Tables → ℕ → Meant → Tables
tables_left settings busy s moment m = if busy then s else tables_after settings s moment m

-- The states that a stop may leave after an answer, by those that it could leave before and the one after the accepted command. A refusal and a query add
-- nothing. After an accepted command a stop leaves only the new state, and if it was answered `Unavailable`, either of the two.
abbrev pub LeftAfter : Bool → Bool → Type 0 → Type 0 → Type 0
LeftAfter false busy Before IsAfter = Before
LeftAfter true false Before IsAfter = IsAfter
LeftAfter true true Before IsAfter = Before ⊎ IsAfter

-- The office after the meaning of a request, which is a reached office.
abbrev pub IsWholeAfter : Settings → Tables → ℕ → Meant → Tables → Type 0
IsWholeAfter settings s moment m u = (u ≡ tables_after settings s moment m) × IsReached settings.publisher u

-- A stop may leave only these states of a store after an answer. The test `busy` says that the answer is `Unavailable`.
abbrev pub StopsAfter : {S : Type 0} → Meaning S → Settings → S → S → Bool → Tables → ℕ → Meant → Type 0
StopsAfter M settings old new busy s moment m =
    (u : Tables) → M.may_leave new u → LeftAfter (is_accepted s moment m) busy (M.may_leave old u) (IsWholeAfter settings s moment m u)

-- The refusal of bytes that can't be read as a request, and its response.
abbrev pub fault_refusal : ReadFault → Refusal
fault_refusal fault.BadHead = refusals.BadHead
fault_refusal fault.TooLong = refusals.TooLong
fault_refusal fault.Coding = refusals.Coding
fault_refusal fault.Unavailable = refusals.Unavailable
fault_refusal fault.Read = refusals.Unavailable

abbrev pub fault_text : ReadFault → List ℕ
fault_text why = response_of (Refused (fault_refusal why) None)

-- An office as it answers requests: its settings and its tables.
pub record Held : Type 0 where
  pub settings : Settings
  pub tables : Tables

-- The office of a desk if its store holds these tables.
abbrev pub held_by : {S : Type 0} → DeskOf S → Tables → Held
held_by desk s = record { settings = desk.settings; tables = s }

-- The meaning of a block's request to this office.
abbrev pub meant_in : Held → Block → Meant
meant_in h b = meant h.settings b.request h.tables

-- How the office answers the blocks of a run, and which office each answer leaves. A request that is refused at sight is never answered `Unavailable`.
abbrev pub office_answers : Answers Held
office_answers = record {
  reply = λ busy h b. answer_bytes h.settings busy h.tables b.moment (meant_in h b);
  after = λ busy h b. record h { tables = tables_left h.settings busy h.tables b.moment (meant_in h b) };
  may_be_busy = λ h b. is_none (refused_at_sight h.settings b.request);
  refusal = fault_text;
}

-- A desk holds this office: the desk has the office's settings, and its store holds the office's tables. The office is a reached one.
abbrev pub StandsAs : {S : Type 0} → Meaning S → DeskOf S → Held → Type 0
StandsAs M desk h = ((desk.settings ≡ h.settings) × M.holds desk.shelf h.tables) × IsReached h.settings.publisher h.tables

-- A reached office answers the meaning of a request with this text, perhaps with `Unavailable`. The store then holds the office after it, which is reached too.
-- `StopsAfter` says which states a stop may leave.
abbrev pub IsAnswered : {S : Type 0} → Meaning S → Settings → S → S → ℕ → (Tables → Meant) → List ℕ → Type 0
IsAnswered M settings old new moment m text =
    M.honest new → (s : Tables) → M.holds old s → IsReached settings.publisher s
    → (busy : Bool) × (text ≡ answer_bytes settings busy s moment (m s)) × M.holds new (tables_left settings busy s moment (m s))
    × IsReached settings.publisher (tables_left settings busy s moment (m s)) × StopsAfter M settings old new busy s moment (m s)

-- A command is given, these tables have each row that it needs, and each line adds up whose money it moves.
abbrev pub GivesWhole : Tables → Meant → Type 0
GivesWhole s (Gives caller command) = ((rule_of command).lacks s ≡ false) × MovesAddUp command s
GivesWhole s m = ⊥

-- The store still holds the tables that it held. Otherwise a command is given, with its rows and lines as `GivesWhole` says, and the answer is a 200 in JSON,
-- like that to an accepted command. The new tables aren't said here.
abbrev pub ChangesOnlyAccepting : {S : Type 0} → Meaning S → S → S → (Tables → Meant) → List ℕ → Type 0
ChangesOnlyAccepting M old new m text =
    M.honest new → (s : Tables) → M.holds old s → M.holds new s ⊎ (GivesWhole s (m s) × ((reply : List ℕ) × (text ≡ response_of (Json reply))))

-- A command was given that isn't refused, and it wasn't answered with `Unavailable`.
abbrev pub is_done : Bool → Tables → ℕ → Meant → Bool
is_done busy s moment m = is_accepted s moment m && not busy

-- The condition for a right answer to a query: a package needs a reached office.
abbrev pub NeedsMeant : Settings → Tables → Meant → Type 0
NeedsMeant settings s (Sees caller query) = Needs settings.publisher query s
NeedsMeant settings s m = Unit {0}

-- If a command is given, the notice for which it publishes keeps its releases.
abbrev pub KeepsMeant : Tables → ℕ → Meant → Type 0
KeepsMeant s moment (Gives caller command) = KeepsItsReleases (given s moment caller command)
KeepsMeant s moment m = Unit {0}

-- If a command is given, its own rows and its release are written, and perhaps a merge (`HasWritten`).
abbrev pub WritesMeant : Publisher → (Tables → Type 0) → Tables → ℕ → Meant → Type 0
WritesMeant publisher Holds s moment (Gives caller command) = HasWritten publisher (given s moment caller command) Holds
WritesMeant publisher Holds s moment m = Unit {0}

-- This text is the answer, perhaps `Unavailable`, and only a command that is done changes the tables. They are then those that the specification defines, if the
-- command's notice keeps its releases. Its own rows and its release are the specification's in any case. This holds of any tables in the store that have what the
-- query needs, even if no commands lead to them.
abbrev pub IsTold : {S : Type 0} → Meaning S → Settings → S → S → ℕ → (Tables → Meant) → List ℕ → Type 0
IsTold M settings old new moment m text =
    M.honest new → (s : Tables) → M.holds old s → NeedsMeant settings s (m s)
    → (busy : Bool) × (text ≡ answer_bytes settings busy s moment (m s)) × (is_done busy s moment (m s) ≡ false → M.holds new s)
    × (is_done busy s moment (m s) ≡ true → KeepsMeant s moment (m s) → M.holds new (tables_left settings busy s moment (m s)))
    × (is_done busy s moment (m s) ≡ true → WritesMeant settings.publisher (M.holds new) s moment (m s))

-- The text is the response to a refusal.
abbrev pub IsRefusedText : List ℕ → Type 0
IsRefusedText text = (why : Refusal) × (method : Option Allow) × (text ≡ response_of (Refused why method))

-- A refused request gets a refusal. A query gets one too, or all facts that its answer shows hold (`HasShown`).
abbrev pub ShowsMeant : Publisher → Meant → Tables → List ℕ → Type 0
ShowsMeant publisher (Refuses why method) s text = IsRefusedText text
ShowsMeant publisher (Gives caller command) s text = Unit {0}
ShowsMeant publisher (Sees caller query) s text = HasShown publisher query s ⊎ IsRefusedText text

-- This holds of any tables in the store.
abbrev pub ShowsOnlyWhole : {S : Type 0} → Meaning S → Settings → S → S → (Tables → Meant) → List ℕ → Type 0
ShowsOnlyWhole M settings old new m text = M.honest new → (s : Tables) → M.holds old s → ShowsMeant settings.publisher (m s) s text

-- The request at the beginning of the bytes was answered.
pub record AnswersRequest {S : Type 0} (M : Meaning S) (settings : Settings) (old new : S) (moment : ℕ) (input text : List ℕ) : Type 0 where
  pub request : RequestView
  pub rest : List ℕ
  pub stands : IsRequest input request rest
  pub answered : IsAnswered M settings old new moment (meant settings request) text
  pub changes : ChangesOnlyAccepting M old new (meant settings request) text
  pub shown : ShowsOnlyWhole M settings old new (meant settings request) text
  pub sight : TellsAtSight settings request text
  pub certain : TellsCertain M settings old new moment request text
  pub told : IsTold M settings old new moment (meant settings request) text

-- The bytes were refused, and nothing changed. Any bytes can be refused because memory is too small.
pub record RefusesBytes {S : Type 0} (M : Meaning S) (old new : S) (input text : List ℕ) : Type 0 where
  pub why : ReadFault
  pub refused : IsRefused input why
  pub text_is : text ≡ fault_text why
  pub same : M.honest new → (s : Tables) → M.holds old s → M.holds new s
  pub stop : M.honest new → (u : Tables) → M.may_leave new u → M.may_leave old u
