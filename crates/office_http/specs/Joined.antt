-- The commands that an office accepts over HTTP, and the properties that they keep.
use Rattle.std.specs.Prelude.{◌≡◌, ℕ, Bool, List, [], ◌∷◌, if◌then◌else◌}
use Rattle.office_values.specs.declared.settings.Publisher.{Publisher}
use Rattle.office_values.specs.declared.settings.Settings.{Settings}
use Rattle.office_base.specs.Tables.{Tables}
use Rattle.office_base.specs.Shelves.{Meaning}
use Rattle.office_machine.specs.Machine.{Given, Reaches, refusal_of}
use Rattle.office_machine.specs.Requests.{accepted_by}
use Rattle.office_publications.specs.Keeping.{KeepsReleases}
use Rattle.office_publications.specs.Publishing.{publishing}
use Rattle.office_plans.specs.Asking.{given}
use Rattle.office_desk.specs.Steps.{OfficeIsKept}
use Rattle.office_wire.specs.Request.{RequestView, IsRequest, IsRefused}
use Rattle.office_wire.specs.Runs.{Step, office_left}
use Rattle.office_wire.specs.declared.fault.ReadFault.{ReadFault}
use Rattle.office_http.specs.Meaning.{Meant, Gives, meant}
use Rattle.office_http.specs.Answering.{Held, answer_bytes, fault_text, meant_in, office_answers, tables_left}

-- The accepted commands after the meaning of a request, the last one first. A refusal and a query add nothing.
abbrev pub joined_meant : Tables → ℕ → Meant → List Given → List Given
joined_meant s moment (Gives caller command) xs = accepted_by (refusal_of (given s moment caller command)) (given s moment caller command) xs
joined_meant s moment m xs = xs

-- An answer of `Unavailable` adds nothing either.
abbrev pub joined_with : Bool → Tables → ℕ → Meant → List Given → List Given
joined_with busy s moment m xs = if busy then xs else joined_meant s moment m xs

-- The accepted commands after the steps of a run.
abbrev pub accepted_steps : Held → List Step → List Given → List Given
accepted_steps h [] xs = xs
accepted_steps h (x ∷ steps) xs =
    accepted_steps (office_answers.after x.busy h x.block) steps (joined_with x.busy h.tables x.block.moment (meant_in h x.block) xs)

-- If accepted commands lead to this office, then they and the command of a request, if it is accepted, are kept. They lead to the office after it, and its
-- accounts are the sums that they moved. Each tender and each security, of a tender or of a contract, has the fate that they gave it.
abbrev pub RequestsAreKept : Type 0
RequestsAreKept =
    (settings : Settings) (xs : List Given) (s : Tables) → Reaches (publishing settings.publisher) xs s → (request : RequestView) (moment : ℕ) (busy : Bool)
    → OfficeIsKept settings.publisher (joined_with busy s moment (meant settings request s) xs) (tables_left settings busy s moment (meant settings request s))

-- The commands of all steps of a run are kept too.
abbrev pub StepsAreKept : Type 0
StepsAreKept =
    (xs : List Given) (h : Held) → Reaches (publishing h.settings.publisher) xs h.tables → (steps : List Step)
    → OfficeIsKept h.settings.publisher (accepted_steps h steps xs) (office_left office_answers h steps).tables

-- The meaning of a request is answered with this text. The store holds the office after it, and all accepted commands and all releases are kept.
abbrev pub IsKeptAnswering : {S : Type 0} → Meaning S → Settings → S → S → ℕ → (Tables → Meant) → List ℕ → Type 0
IsKeptAnswering M settings old new moment m text =
    M.honest new → (s : Tables) → M.holds old s → (xs : List Given) → Reaches (publishing settings.publisher) xs s → KeepsReleases s
    → (busy : Bool) × (text ≡ answer_bytes settings busy s moment (m s)) × M.holds new (tables_left settings busy s moment (m s))
    × OfficeIsKept settings.publisher (joined_with busy s moment (m s) xs) (tables_left settings busy s moment (m s)) × KeepsReleases (tables_left settings busy s moment (m s))

-- The request at the beginning of the bytes was answered in this way.
pub record KeepsAnswering {S : Type 0} (M : Meaning S) (settings : Settings) (old new : S) (moment : ℕ) (input text : List ℕ) : Type 0 where
  pub request : RequestView
  pub rest : List ℕ
  pub stands : IsRequest input request rest
  pub kept : IsKeptAnswering M settings old new moment (meant settings request) text

-- The bytes were refused, nothing changed, and the commands that were accepted before are kept.
pub record KeepsRefusing {S : Type 0} (M : Meaning S) (publisher : Publisher) (old new : S) (input text : List ℕ) : Type 0 where
  pub why : ReadFault
  pub refused : IsRefused input why
  pub text_is : text ≡ fault_text why
  pub kept : M.honest new → (s : Tables) → M.holds old s → (xs : List Given) → Reaches (publishing publisher) xs s → M.holds new s × OfficeIsKept publisher xs s
