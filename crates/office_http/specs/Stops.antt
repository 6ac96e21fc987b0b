-- The states that a stop may leave of an office that answered a run, or one request.
use Rattle.std.specs.Prelude.{List, [], ◌∷◌, ◌++◌}
use Rattle.office_base.specs.Tables.{Tables}
use Rattle.office_base.specs.Shelves.{Meaning}
use Rattle.office_desk.specs.Desks.{DeskOf}
use Rattle.office_wire.specs.Runs.{Answers, Step, office_left}
use Rattle.office_http.specs.Answering.{Held, IsWholeAfter, LeftAfter, StandsAs, is_accepted, meant_in, office_answers}

-- The states that a stop may leave after the steps of a run, by those that it could leave before. The state after an accepted command is a reached office.
abbrev pub LeftBySteps : (Tables → Type 0) → Held → List Step → Tables → Type 0
LeftBySteps Before h [] u = Before u
LeftBySteps Before h (x ∷ steps) u =
    LeftBySteps
    (λ v. LeftAfter (is_accepted h.tables x.block.moment (meant_in h x.block)) x.busy (Before v) (IsWholeAfter h.settings h.tables x.block.moment (meant_in h x.block) v))
    (office_answers.after x.busy h x.block) steps u

-- A stop may leave only these states of a store. They are whole offices if it could leave only whole offices before.
pub record StopsBy {S : Type 0} (M : Meaning S) (old new : S) (h : Held) (steps : List Step) : Type 0 where
  pub left : (u : Tables) → M.may_leave new u → LeftBySteps (M.may_leave old) h steps u
  pub sound : M.leaves_sound old → M.leaves_sound new

-- An office that is watched while it answers: its store at first, the office at first, and the steps so far.
pub record Watched (S : Type 0) : Type 0 where
  pub shelf : S
  pub first : Held
  pub steps : List Step

abbrev pub office_now : {S : Type 0} → Watched S → Held
office_now w = office_left office_answers w.first w.steps

-- It answers as the office that it is now, and each answer adds a step.
abbrev pub watched_answers : {S : Type 0} → Answers (Watched S)
watched_answers = record {
  reply = λ busy w b. office_answers.reply busy (office_now w) b;
  after = λ busy w b. record w { steps = w.steps ++ record { busy = busy; block = b } ∷ [] };
  may_be_busy = λ w b. office_answers.may_be_busy (office_now w) b;
  refusal = office_answers.refusal;
}

-- A desk holds the office that it is now, which is a reached one, and a stop leaves only what its steps allow.
abbrev pub StandsWatched : {S : Type 0} → Meaning S → DeskOf S → Watched S → Type 0
StandsWatched M desk w = StandsAs M desk (office_now w) × StopsBy M w.shelf desk.shelf w.first w.steps
