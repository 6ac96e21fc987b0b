-- Once a tender of a notice came late, none is in time.
use Rattle.std.specs.Prelude.{◌≡◌, Bool, true, false, not, ◌&&◌, ◌||◌, ℕ, List, [], ◌∷◌, Option, Some, None}
use Rattle.office_values.specs.Ids.{same_id}
use Rattle.office_base.specs.Tables.{Tables}
use Rattle.office_machine.specs.Fates.{Reception, received_at, received_by}
use Rattle.office_machine.specs.Machine.{Means, Given, Reaches}

-- The tender that an accepted command takes in after these commands, if any: it is presented, or replaces another one.
abbrev pub taken_in : List Given → Given → Option Reception
taken_in xs x = received_by x.command x (λ r. received_at xs r)

-- It is a late tender of this notice.
abbrev pub is_late_for : List ℕ → Option Reception → Bool
is_late_for notice None = false
is_late_for notice (Some c) = same_id c.notice notice && not c.in_time

-- It is a tender of this notice, in time.
abbrev pub is_in_time_for : List ℕ → Option Reception → Bool
is_in_time_for notice None = false
is_in_time_for notice (Some c) = same_id c.notice notice && c.in_time

-- One of these accepted commands, the last one first, took in a late tender of the notice.
abbrev pub has_come_late : List Given → List ℕ → Bool
has_come_late [] notice = false
has_come_late (x ∷ xs) notice = is_late_for notice (taken_in xs x) || has_come_late xs notice

-- From then on no accepted command takes in a tender of the notice in time, whether it is presented or replaces another one.
abbrev pub NoneInTimeAfterLate : Type 0
NoneInTimeAfterLate = (means : Means) (x : Given) (xs : List Given) (t : Tables) → Reaches means (x ∷ xs) t → (notice : List ℕ)
    → has_come_late xs notice ≡ true → is_in_time_for notice (taken_in xs x) ≡ false
