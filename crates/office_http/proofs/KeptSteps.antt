-- The commands of requests are accepted one by one, and so they are kept.
use Rattle.office_http.proofs.Names.{◌≡◌, ℕ, Bool, true, false, List, [], ◌∷◌, Option, Some, None, refl, Refusal, Publisher, Settings, Tables, AccountsAreKept, TendersAreKept, SecuritiesAreKept, PerformancesAreKept, CanBeGiven, Given, Reaches, refusal_of, accepted_by, KeptStepsReach, publishing, office_kept, given, OfficeIsKept, RequestView, Step, office_left, Meant, Refuses, Gives, Sees, meant, Held, meant_in, office_answers, tables_after, tables_left, RequestsAreKept, StepsAreKept, joined_meant, accepted_steps, joined_with, WhatIsAskedCanBeGiven, CanBeMeant}
use Rattle.office_http.proofs.MeantSteps.{meant_can}

-- The laws of the specification and of the publications that this proof uses.
pub record Laws : Type 0 where
  pub accounts : AccountsAreKept
  pub tenders : TendersAreKept
  pub securities : SecuritiesAreKept
  pub performances : PerformancesAreKept
  pub steps : KeptStepsReach
  pub asked : WhatIsAskedCanBeGiven

pub kept_by : Laws → (publisher : Publisher) (xs : List Given) (s : Tables) → Reaches (publishing publisher) xs s → OfficeIsKept publisher xs s
kept_by laws publisher xs s reaches = record {
  reaches = reaches;
  accounts = laws.accounts (publishing publisher) xs s reaches;
  tenders = laws.tenders (publishing publisher) xs s reaches;
  securities = laws.securities (publishing publisher) xs s reaches;
  performances = laws.performances (publishing publisher) xs s reaches;
}

module _ (laws : Laws) (settings : Settings) where
  -- One request.

  given_reaches : (xs : List Given) (x : Given) (refusal : Option Refusal) → refusal_of x ≡ refusal → CanBeGiven x
      → Reaches (publishing settings.publisher) xs x.before
      → Reaches (publishing settings.publisher) (accepted_by refusal x xs) (office_kept refusal settings.publisher x)
  given_reaches xs x None allowed can reached = laws.steps settings.publisher xs x reached can allowed
  given_reaches xs x (Some why) is can reached = reached

  meant_reaches : (xs : List Given) (s : Tables) (moment : ℕ) (m : Meant) → CanBeMeant s m → Reaches (publishing settings.publisher) xs s
      → Reaches (publishing settings.publisher) (joined_meant s moment m xs) (tables_after settings s moment m)
  meant_reaches xs s moment (Refuses why method) can reached = reached
  meant_reaches xs s moment (Gives caller command) can reached =
      given_reaches xs (given s moment caller command) (refusal_of (given s moment caller command)) refl can reached
  meant_reaches xs s moment (Sees caller query) can reached = reached

  answer_reaches : (busy : Bool) (xs : List Given) (s : Tables) (moment : ℕ) (m : Meant) → CanBeMeant s m → Reaches (publishing settings.publisher) xs s
      → Reaches (publishing settings.publisher) (joined_with busy s moment m xs) (tables_left settings busy s moment m)
  answer_reaches true xs s moment m can reached = reached
  answer_reaches false xs s moment m can reached = meant_reaches xs s moment m can reached

  request_reaches : (xs : List Given) (s : Tables) → Reaches (publishing settings.publisher) xs s → (request : RequestView) (moment : ℕ) (busy : Bool)
      → Reaches (publishing settings.publisher) (joined_with busy s moment (meant settings request s) xs) (tables_left settings busy s moment (meant settings request s))
  request_reaches xs s reached request moment busy =
      answer_reaches busy xs s moment (meant settings request s) (meant_can laws.asked settings request s) reached

pub requests_kept : Laws → RequestsAreKept
requests_kept laws settings xs s reached request moment busy =
    kept_by laws settings.publisher _ _ (request_reaches laws settings xs s reached request moment busy)

-- All steps of a run.

steps_reach : Laws → (xs : List Given) (h : Held) → Reaches (publishing h.settings.publisher) xs h.tables → (steps : List Step)
    → Reaches (publishing h.settings.publisher) (accepted_steps h steps xs) (office_left office_answers h steps).tables
steps_reach laws xs h reached [] = reached
steps_reach laws xs h reached (x ∷ steps) =
    steps_reach laws (joined_with x.busy h.tables x.block.moment (meant_in h x.block) xs) (office_answers.after x.busy h x.block)
    (request_reaches laws h.settings xs h.tables reached x.block.request x.block.moment x.busy) steps

pub steps_kept : Laws → StepsAreKept
steps_kept laws xs h reached steps = kept_by laws h.settings.publisher _ _ (steps_reach laws xs h reached steps)
