-- The effect of a run, and of one request that is served, on an office: the responses, the office after them, and the states that a stop may leave.
use Rattle.std.specs.Prelude.{⊤, ℕ, List, Option, Result}
use Rattle.office_base.specs.Shelves.{Meaning}
use Rattle.office_machine.specs.Machine.{Given, Reaches}
use Rattle.office_publications.specs.Publishing.{publishing}
use Rattle.office_desk.specs.Desks.{DeskOf}
use Rattle.office_desk.specs.Steps.{OfficeIsKept}
use Rattle.office_wire.specs.Counting.{ReaderView}
use Rattle.office_wire.specs.Runs.{Ran, Served, Step, office_left}
use Rattle.office_wire.specs.declared.fault.RunFault.{RunFault}
use Rattle.office_http.specs.Answering.{Held, StandsAs, office_answers}
use Rattle.office_http.specs.Joined.{accepted_steps}
use Rattle.office_http.specs.Stops.{StopsBy}

-- A desk went through these steps, from this office. It holds the office after them, which is a reached one. A stop leaves only states that the steps allow. If
-- accepted commands led to the office, then they and the commands of these steps are kept.
pub record WentThrough {S : Type 0} (M : Meaning S) (old new : DeskOf S) (h : Held) (steps : List Step) : Type 0 where
  pub stands : StandsAs M new (office_left office_answers h steps)
  pub stops : StopsBy M old.shelf new.shelf h steps
  pub kept : (xs : List Given) → Reaches (publishing h.settings.publisher) xs h.tables
      → OfficeIsKept h.settings.publisher (accepted_steps h steps xs) (office_left office_answers h steps).tables

-- A run over a reader: its steps have the requests that were read and the responses that were sent (`Ran`), and the desk went through the same steps.
abbrev pub HasRun : {S : Type 0} → Meaning S → Result ℕ RunFault → ReaderView → ReaderView → DeskOf S → DeskOf S → Option (List ℕ) → Option (List ℕ) → Type 0
HasRun M result came rest old new before after =
    M.honest new.shelf → (h : Held) → StandsAs M old h
    → (steps : List Step) × Ran office_answers result came rest h steps before after × WentThrough M old new h steps

-- One request at this moment: the step, if there is one, has the request that was read and the response that was sent (`Served`), and the desk went through it.
abbrev pub IsServed : {S : Type 0} → Meaning S → Result ⊤ RunFault → Option (List ℕ) → Option (List ℕ) → ℕ → DeskOf S → DeskOf S → Option (List ℕ) → Option (List ℕ) → Type 0
IsServed M result came now moment old new before after =
    M.honest new.shelf → (h : Held) → StandsAs M old h
    → (steps : List Step) × Served office_answers result came now moment h steps before after × WentThrough M old new h steps
