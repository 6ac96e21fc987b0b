-- No command takes a notice or a tenderer away, so a list that is read page by page while the office works shows each of them once.
use Rattle.std.specs.Prelude.{◌≡◌, ◌<◌, ◌+◌, ℕ, Bool, true, false, List, [], ◌∷◌, ◌++◌, map, take, Option, Some, None, IsSome}
use Rattle.std.specs.declared.cmp.Ordering.{Ordering}
use Rattle.office_values.specs.Ids.{id_cmp}
use Rattle.office_base.specs.Pages.{followed, next_after, rows_after}
use Rattle.office_base.specs.Rows.{IsInOrder, row_at}
use Rattle.office_base.specs.Tables.{Tables, notice_at, notice_key, tenderer_at, tenderer_key}
use Rattle.office_base.specs.declared.records.NoticeRow.{NoticeRow}
use Rattle.office_base.specs.declared.records.TendererRow.{TendererRow}
use Rattle.office_machine.specs.Machine.{Means, Given, Reaches}

-- No notice and no tenderer of the one office is missing in the other.
pub record NothingIsMissing (t u : Tables) : Type 0 where
  pub notices : (notice : List ℕ) → IsSome (notice_at notice t) → IsSome (notice_at notice u)
  pub tenderers : (tenderer : List ℕ) → IsSome (tenderer_at tenderer t) → IsSome (tenderer_at tenderer u)

-- Commands that are accepted after others take none away.
abbrev pub NothingIsTakenAway : Type 0
NothingIsTakenAway = (means : Means) (xs ys : List Given) (t u : Tables) → Reaches means xs t → Reaches means (ys ++ xs) u → NothingIsMissing t u

-- The rows that a reader sees. The reader asks for one page after another, each after the last row of the page before. The list has the first rows at the first
-- request, the next ones at the second, and so on.
abbrev pub read_along : {K X : Type 0} → (K → K → Ordering) → (X → K) → ℕ → Option K → List (List X) → List X
read_along R key most after [] = []
read_along R key most after (rows ∷ later) =
    take most (rows_after R key after rows) ++ followed (next_after key most (take (most + 1) (rows_after R key after rows))) (λ k. read_along R key most (Some k) later)

-- The reader reached a page that no page follows.
abbrev pub if_next : {K : Type 0} → Option K → (K → Bool) → Bool
if_next None go = true
if_next (Some k) go = go k

abbrev pub reaches_end : {K X : Type 0} → (K → K → Ordering) → (X → K) → ℕ → Option K → List (List X) → Bool
reaches_end R key most after [] = false
reaches_end R key most after (rows ∷ later) = if_next (next_after key most (take (most + 1) (rows_after R key after rows))) (λ k. reaches_end R key most (Some k) later)

-- The rows that the reader saw have rising keys, so no row comes twice. A reader who reached the end saw each row of the first request.
pub record SeesEachOnce {K X : Type 0} (R : K → K → Ordering) (key : X → K) (most : ℕ) (first : List X) (later : List (List X)) : Type 0 where
  pub once : IsInOrder R key (read_along R key most None (first ∷ later))
  pub each : reaches_end R key most None (first ∷ later) ≡ true → (k : K) → IsSome (row_at R key first k) → IsSome (row_at R key (read_along R key most None (first ∷ later)) k)

-- Accepted commands lead to the first office, some more of them to the next one, and so on.
abbrev pub LeadAlong : Means → List Given → Tables → List Tables → Type 0
LeadAlong means xs t [] = Reaches means xs t
LeadAlong means xs t (u ∷ us) = Reaches means xs t × ((ys : List Given) × LeadAlong means (ys ++ xs) u us)

abbrev pub notices_in : Tables → List NoticeRow
notices_in t = t.notices

abbrev pub tenderers_in : Tables → List TendererRow
tenderers_in t = t.tenderers

-- A reader sees each notice and each tenderer once, whatever commands are accepted between the requests.
pub record ListsAreSeen (most : ℕ) (t : Tables) (us : List Tables) : Type 0 where
  pub notices : SeesEachOnce id_cmp notice_key most (notices_in t) (map notices_in us)
  pub tenderers : SeesEachOnce id_cmp tenderer_key most (tenderers_in t) (map tenderers_in us)

abbrev pub PagesAreWholeAlong : Type 0
PagesAreWholeAlong = (means : Means) (xs : List Given) (t : Tables) (us : List Tables) → LeadAlong means xs t us → (most : ℕ) → 0 < most → ListsAreSeen most t us
