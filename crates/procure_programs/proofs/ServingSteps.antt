-- One more connection.
use Rattle.procure_programs.proofs.Names.{◌≡◌, inl, inr, ℕ, ◌+◌, ◌≤◌, Bool, true, false, List, [], ◌∷◌, ◌++◌, length, Option, Result, refl, sym, subst, ◌∙◌, arith, SocketAddrV4, Keeps, Meaning, Standing, Tables, DeskOf, Answers, IsOneAtMost, Step, office_left, IsWholeAfter, LeftAfter, StandsAs, is_accepted, meant_in, office_answers, StepsAreKept, LeftBySteps, StopsBy, ProgramFault, Hosting, TakesTurns, WasServed, WasServedAt, ServesAt}
use Rattle.office_values.specs.declared.settings.Settings.{Settings}
use Rattle.office_http.specs.Answering.{Held}

-- The office after two lists of steps.
pub office_on : {S : Type 0} (A : Answers S) (xs ys : List Step) (s : S) → office_left A s (xs ++ ys) ≡ office_left A (office_left A s xs) ys
office_on A [] ys s = refl
office_on A (x ∷ xs) ys s = office_on A xs ys (A.after x.busy s x.block)

pub at_most_one : (moment : ℕ) (steps : List Step) → IsOneAtMost moment steps → length steps ≤ 1
at_most_one moment [] one = omega arith
at_most_one moment (x ∷ []) one = omega arith
at_most_one moment (x ∷ y ∷ more) one = absurd one

-- ---- the states that a stop may leave

-- A stop may leave more if it could leave more before.
left_weaker : (accepted busy : Bool) (First Before IsAfter : Type 0) → (Before → First) → LeftAfter accepted busy Before IsAfter → LeftAfter accepted busy First IsAfter
left_weaker false busy First Before IsAfter more left = more left
left_weaker true false First Before IsAfter more left = left
left_weaker true true First Before IsAfter more (inl left) = inl (more left)
left_weaker true true First Before IsAfter more (inr whole) = inr whole

-- The states that a stop may leave after one step, by those that it could leave before.
abbrev pub left_by : (Tables → Type 0) → Held → Step → Tables → Type 0
left_by Before h x v = LeftAfter (is_accepted h.tables x.block.moment (meant_in h x.block)) x.busy (Before v) (IsWholeAfter h.settings h.tables x.block.moment (meant_in h x.block) v)

left_more : (steps : List Step) (h : Held) (First Before : Tables → Type 0) → ((v : Tables) → Before v → First v)
    → (u : Tables) → LeftBySteps Before h steps u → LeftBySteps First h steps u
left_more [] h First Before more u it = more u it
left_more (x ∷ steps) h First Before more u it =
    left_more steps (office_answers.after x.busy h x.block) (left_by First h x) (left_by Before h x)
    (λ v. left_weaker (is_accepted h.tables x.block.moment (meant_in h x.block)) x.busy (First v) (Before v) (IsWholeAfter h.settings h.tables x.block.moment (meant_in h x.block) v) (more v))
    u it

left_on : (xs ys : List Step) (h : Held) (Before : Tables → Type 0) (u : Tables)
    → LeftBySteps (LeftBySteps Before h xs) (office_left office_answers h xs) ys u → LeftBySteps Before h (xs ++ ys) u
left_on [] ys h Before u it = it
left_on (x ∷ xs) ys h Before u it = left_on xs ys (office_answers.after x.busy h x.block) (left_by Before h x) u it

pub stops_on : {S : Type 0} (M : Meaning S) (old mid new : S) (h : Held) (xs ys : List Step) → StopsBy M old mid h xs → StopsBy M mid new (office_left office_answers h xs) ys
    → StopsBy M old new h (xs ++ ys)
stops_on M old mid new h xs ys first last = record {
  left = λ u may. left_on xs ys h (M.may_leave old) u (left_more ys (office_left office_answers h xs) (LeftBySteps (M.may_leave old) h xs) (M.may_leave mid) first.left u (last.left u may));
  sound = λ before. last.sound (first.sound before);
}

-- A call that changes nothing adds no state that a stop may leave.
pub stops_still : {S : Type 0} (M : Meaning S) (old mid new : S) (h : Held) (steps : List Step) → StopsBy M old mid h steps → Keeps M mid new → M.honest new → StopsBy M old new h steps
stops_still M old mid new h steps first keeps honest = record {
  left = λ u may. first.left u (keeps.stop honest u may);
  sound = λ before. keeps.sound honest (first.sound before);
}

pub stops_none : {S : Type 0} (M : Meaning S) (shelf : S) (h : Held) → StopsBy M shelf shelf h []
stops_none M shelf h = record { left = λ u may. may; sound = λ before. before }

-- ---- the office

-- The desk went through at most this many steps: as `TakesTurns` says, but for the accepted commands.
abbrev pub Turned : {S : Type 0} → Meaning S → ℕ → DeskOf S → DeskOf S → Type 0
Turned M most old new =
    M.honest new.shelf → (h : Held) → StandsAs M old h
    → (steps : List Step) × (length steps ≤ most) × StandsAs M new (office_left office_answers h steps) × StopsBy M old.shelf new.shelf h steps

pub served_none : {S : Type 0} (M : Meaning S) (n : ℕ) (office : DeskOf S) → Turned M n office office
served_none M n office honest h held = ([], omega arith, held, stops_none M office.shelf h)

-- A call that only asks changes nothing.
pub served_still : {S : Type 0} (M : Meaning S) (n : ℕ) (first old new : DeskOf S) → Turned M n first old → Keeps M old.shelf new.shelf → new.settings ≡ old.settings → Turned M n first new
served_still M n first old new so_far keeps same honest h held =
    let (xs, few, ((are, now), stands), stops) = so_far (keeps.before honest) h held in
    (xs, few, ((same ∙ are, keeps.same honest _ now), stands), stops_still M first.shelf old.shelf new.shelf h xs stops keeps honest)

-- The accepted commands are kept.
pub serving_kept : {S : Type 0} (M : Meaning S) (most : ℕ) (old new : DeskOf S) → StepsAreKept → Turned M most old new → TakesTurns M most old new
serving_kept M most old new law serves honest h held =
    let (steps, few, stands, stops) = serves honest h held in
    (steps, few, record { stands = stands; stops = stops; kept = λ xs reached. law xs h reached steps })

-- An office was made of a store and served, and its store was returned.
pub was_served : {S : Type 0} (M : Meaning S) (most : ℕ) (settings : Settings) (shelf left : S) (begun ended : DeskOf S) → begun ≡ record { shelf = shelf; settings = settings }
    → left ≡ ended.shelf → (M.honest ended.shelf → M.honest begun.shelf) → TakesTurns M most begun ended → WasServed M most settings shelf left
was_served M most settings shelf left begun ended is out before serves =
    subst (λ (s : _). WasServed M most settings shelf s) (sym out)
    (subst (λ (d : DeskOf _). M.honest ended.shelf → M.honest d.shelf) is before, (ended.settings, subst (λ (d : DeskOf _). TakesTurns M most d ended) is serves))

-- The same of its port and its connections.
pub was_served_at : {S X T R W : Type 0} (binds : X → SocketAddrV4 → Option T → X → Type 0) (N : Hosting T R W) (M : Meaning S) (store : Standing S) (network bound : X) (port count : ℕ)
    (settings : Settings) (shelf left : S) (result : Result (Unit {0}) ProgramFault) (begun ended : DeskOf S) → begun ≡ record { shelf = shelf; settings = settings } → left ≡ ended.shelf
    → ServesAt binds N M store network bound port count begun ended result → WasServedAt binds N M store network bound port count settings shelf left result
was_served_at binds N M store network bound port count settings shelf left result begun ended is out serves =
    subst (λ (s : _). WasServedAt binds N M store network bound port count settings shelf s result) (sym out)
    (ended.settings, subst (λ (d : DeskOf _). ServesAt binds N M store network bound port count d ended result) is serves)
