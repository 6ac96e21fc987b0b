-- The moments of a notice's releases never fall.
use Rattle.office_machine.proofs.Names.{◌≡◌, ℕ, ◌≤◌, Bool, true, false, cond, List, [], ◌∷◌, ◌++◌, filter, Option, Some, None, option_to_list, option_map, option_and_then, refl, sym, subst, arith, AllByRecursion, le-max_right, same_id, ReleaseRow, Tables, Means, Given, Reaches, time_of, publication, release_row, published_for, published_by, MomentsNeverFall, ReleasesAreInTime}
use Rattle.office_machine.proofs.Releases.ClockSet.{clock_set}
use Rattle.office_machine.proofs.Releases.ReleasesMade.{releases_published}

-- none of these releases was published after this moment
abbrev AreBy : ℕ → List ReleaseRow → Type 0
AreBy moment rows = AllByRecursion (λ (r : ReleaseRow). r.moment ≤ moment) rows

by_later : (m n : ℕ) → m ≤ n → (rows : List ReleaseRow) → AreBy m rows → AreBy n rows
by_later m n le [] are = tt
by_later m n le (r ∷ rows) are = (omega (arith, le, are.0), by_later m n le rows are.1)

-- a later release may be added at the end
last_by : (rows : List ReleaseRow) (r : ReleaseRow) → AreBy r.moment rows → AreBy r.moment (rows ++ r ∷ [])
last_by [] r are = (omega arith, tt)
last_by (q ∷ rows) r are = (are.0, last_by rows r are.1)

last_falls : (rows : List ReleaseRow) (r : ReleaseRow) → AreBy r.moment rows → MomentsNeverFall rows → MomentsNeverFall (rows ++ r ∷ [])
last_falls [] r are never = tt
last_falls (q ∷ []) r are never = (are.0, tt)
last_falls (q ∷ later ∷ rows) r are never = (never.0, last_falls (later ∷ rows) r are.1 never.1)

-- the releases are in time, and none of them is after this moment
record AreInTime (moment : ℕ) (rows : List ReleaseRow) : Type 0 where
  never : MomentsNeverFall rows
  are : AreBy moment rows

abbrev IsAt : ℕ → Option ReleaseRow → Type 0
IsAt moment None = Unit {0}
IsAt moment (Some r) = r.moment ≡ moment

-- the release of a command has the command's moment
published_at : (means : Means) (x : Given) → IsAt (time_of x) (publication means x)
published_at means x = by (published_for x.before x.command) (means.release x)
  where
    by : (key text : Option (List ℕ)) → IsAt (time_of x) (option_and_then (λ n. option_map (release_row x n) text) key)
    by None text = tt
    by (Some n) None = tt
    by (Some n) (Some text) = refl

ends : {X : Type 0} (xs : List X) → xs ++ [] ≡ xs
ends [] = refl
ends (x ∷ xs) = λ i. x ∷ ends xs i

-- the releases with that of one more command, given at this moment
module _ (p : ReleaseRow → Bool) (moment : ℕ) (rows : List ReleaseRow) (old : AreInTime moment rows) where
  same : AreInTime moment (rows ++ [])
  same = subst (AreInTime moment) (sym (ends rows)) old

  one_more : (r : ReleaseRow) → r.moment ≡ moment → AreInTime moment (rows ++ r ∷ [])
  one_more r at =
      let are = subst (λ m. AreBy m rows) (sym at) old.are in
      record { never = last_falls rows r are old.never; are = subst (λ m. AreBy m (rows ++ r ∷ [])) at (last_by rows r are) }

  joined : (o : Option ReleaseRow) → IsAt moment o → AreInTime moment (rows ++ filter p (option_to_list o))
  joined None at = same
  joined (Some r) at = by (p r)
    where
      by : (b : Bool) → AreInTime moment (rows ++ cond b (r ∷ []) [])
      by true = one_more r at
      by false = same

published_in_time : (means : Means) (xs : List Given) (t : Tables) → Reaches means xs t → (notice : List ℕ) → AreInTime t.clock.moment (published_by means xs notice)
published_in_time means [] t reached notice = record { never = tt; are = tt }
published_in_time means (x ∷ xs) t reached notice =
    let before = published_in_time means xs x.before reached.reached notice in
    let rows : List ReleaseRow = published_by means xs notice in
    let old : AreInTime (time_of x) rows = record {
      never = before.never;
      are = by_later x.before.clock.moment (time_of x) (le-max_right x.moment x.before.clock.moment) rows before.are;
    } in
    subst (λ m. AreInTime m (published_by means (x ∷ xs) notice)) (sym (clock_set means x xs t reached))
    (joined (λ (r : ReleaseRow). same_id r.notice notice) (time_of x) rows old (publication means x) (published_at means x))

pub releases_in_time : ReleasesAreInTime
releases_in_time means xs t reached notice =
    subst MomentsNeverFall (sym (releases_published means xs t reached notice)) (published_in_time means xs t reached notice).never
