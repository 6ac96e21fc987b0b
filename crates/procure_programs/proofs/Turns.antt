-- One connection after another.
use Rattle.procure_programs.proofs.Names.{◌≡◌, ◌⊎◌, inl, inr, ℕ, zero, suc, ◌+◌, ◌≤◌, Bool, true, false, List, [], ◌++◌, length, Option, Some, Result, Ok, Err, refl, sym, subst, ◌∙◌, arith, append-nil, length-append, ⊤, IfErr, Keeps, Meaning, ShelfFault, Standing, TellsShut, DeskOf, Step, office_left, RunFault, StandsAs, office_answers, StepsAreKept, StopsBy, ProgramFault, Arguments, Store, Input, Output, Refused, Hosting, TellsMoment, clock_moment, TakesTurns, AnswersConnection, AreOfConnection, AreOfServing, AreOfTurn, AreOfTurns, EndsBy, GoesOnFor, IsOneTurn, ServesAndAsks, ServesConnection, ServesInTurn, ServesSteps, TakesOne}
use Rattle.office_http.specs.Answering.{Held}
use Rattle.procure_config.specs.declared.fault.ProgramFault.TheVariants.{Settings}
use Rattle.procure_programs.proofs.ServingSteps.{at_most_one, office_on, stops_none, stops_on, stops_still}

-- ---- one connection that was taken

module _ {S T R W : Type 0} (N : Hosting T R W) (M : Meaning S) (before taken : T) (reader : R) (writer : W) (takes : N.events.takes before (Some (reader, writer)) taken) where
  pub no_clock : (fault : ProgramFault) (after : T) (office : DeskOf S) → TellsMoment N.events taken after (Err fault) → TakesOne N M before after office office (Err fault)
  no_clock Input after office it = (((reader, writer), taken, takes, it), refl)
  no_clock Store after office it = absurd it
  no_clock (Arguments e) after office it = absurd it
  no_clock (Settings name) after office it = absurd it
  no_clock Output after office it = absurd it
  no_clock (Refused why) after office it = absurd it

  pub served_one : (told after : T) (left : W) (old new : DeskOf S) (moment : ℕ) (ended : Result ⊤ RunFault) (begun over : Option (List ℕ)) → TellsMoment N.events taken told (Ok moment)
      → begun ≡ N.contents writer → N.contents left ≡ over → AnswersConnection M moment (N.remaining reader) begun over old new ended
      → (M.honest new.shelf → M.honest old.shelf) → N.events.closes told left ended after → TakesOne N M before after old new (Ok true)
  served_one told after left old new moment ended begun over (nanos, tells, is) at_first at_last answers honest closes = record {
    reader = reader;
    writer = writer;
    taken = taken;
    takes = takes;
    nanos = nanos;
    told = told;
    tells = tells;
    ended = ended;
    left = left;
    answers = subst (λ (m : ℕ). AnswersConnection M m (N.remaining reader) (N.contents writer) (N.contents left) old new ended) is
        (subst (λ (b : Option (List ℕ)). AnswersConnection M moment (N.remaining reader) b (N.contents left) old new ended) at_first
        (subst (λ (o : Option (List ℕ)). AnswersConnection M moment (N.remaining reader) begun o old new ended) (sym at_last) answers));
    honest = honest;
    closes = closes;
  }

-- ---- all of them

module _ {S T R W : Type 0} (N : Hosting T R W) (M : Meaning S) (store : Standing S) where
  asked_before : (before after : T) (old new : DeskOf S) (answer : Result Bool ShelfFault) → ServesAndAsks N M store before after old new answer
      → M.honest new.shelf → M.honest old.shelf
  asked_before before after old new answer it honest = it.one.honest (it.asked.3.before honest)

  goes_before : (before after : T) (old new : DeskOf S) → IsOneTurn N M store before after old new → M.honest new.shelf → M.honest old.shelf
  goes_before before after old new (inl same) honest = subst (λ (d : DeskOf S). M.honest d.shelf) same.1 honest
  goes_before before after old new (inr it) honest = asked_before before after old new it.0 it.1 honest

  for_before : (n : ℕ) (before after : T) (first new : DeskOf S) → GoesOnFor N M store n before after first new → M.honest new.shelf → M.honest first.shelf
  for_before zero before after first new same honest = subst (λ (d : DeskOf S). M.honest d.shelf) same.1 honest
  for_before (suc n) before after first new it honest = for_before n before it.0 first it.1 it.2 (goes_before it.0 after it.1 new it.3 honest)

  -- ---- the steps of all connections

  -- The desk was led from the first one, by at most this many steps, which are as `Are` says.
  abbrev LedTo : ℕ → (Held → List Step → Type 0) → DeskOf S → DeskOf S → Type 0
  LedTo most Are first new =
      M.honest new.shelf → (h : Held) → StandsAs M first h
      → (steps : List Step) × (length steps ≤ most) × Are h steps × StandsAs M new (office_left office_answers h steps) × StopsBy M first.shelf new.shelf h steps

  -- The same with the steps of one more turn.
  abbrev LedOn : ℕ → (Held → List Step → Type 0) → (Held → List Step → Type 0) → DeskOf S → DeskOf S → Type 0
  LedOn most Are Last first new =
      M.honest new.shelf → (h : Held) → StandsAs M first h
      → (xs : List Step) × (ys : List Step) × (length (xs ++ ys) ≤ most) × Are h xs × Last (office_left office_answers h xs) ys
      × StandsAs M new (office_left office_answers h (xs ++ ys)) × StopsBy M first.shelf new.shelf h (xs ++ ys)

  connection_led : (n : ℕ) (Are : Held → List Step → Type 0) (before after : T) (first old served new : DeskOf S) (one : ServesConnection N M before after old served)
      → LedTo n Are first old → Keeps M served.shelf new.shelf → new.settings ≡ served.settings → LedOn (n + 1) Are (AreOfConnection N M before after old served one) first new
  connection_led n Are before after first old served new one so_far keeps same honest h held =
      let middle = keeps.before honest in
      let (xs, few, are, stands, stops) = so_far (one.honest middle) h held in
      let (ys, told, went) = one.answers.1 middle (office_left office_answers h xs) stands in
      let short : length ys ≤ 1 = at_most_one (clock_moment one.nanos) ys told.one in
      let bound : length (xs ++ ys) ≤ n + 1 = rw (length-append xs ys) (omega (arith, few, short)) in
      let after_both : StandsAs M new (office_left office_answers (office_left office_answers h xs) ys) =
      ((same ∙ went.stands.0.0, keeps.same honest _ went.stands.0.1), went.stands.1) in (
        xs,
        ys,
        bound,
        are,
        told,
        subst (λ (k : Held). StandsAs M new k) (sym (office_on office_answers xs ys h)) after_both,
        stops_still M first.shelf served.shelf new.shelf h (xs ++ ys) (stops_on M first.shelf old.shelf served.shelf h xs ys stops went.stops) keeps honest,
      )

  turn_led : (n : ℕ) (Are : Held → List Step → Type 0) (before after : T) (first old new : DeskOf S) (turn : IsOneTurn N M store before after old new)
      → LedTo n Are first old → LedOn (n + 1) Are (AreOfTurn N M store before after old new turn) first new
  turn_led n Are before after first old new (inl same) so_far honest h held =
      let (xs, few, are, stands, stops) = subst (λ (d : DeskOf S). LedTo n Are first d) (sym same.1) so_far honest h held in
      let whole : xs ≡ xs ++ [] = sym (append-nil xs) in (
        xs,
        [],
        subst (λ (zs : List Step). length zs ≤ n + 1) whole (omega (arith, few)),
        are,
        refl,
        subst (λ (zs : List Step). StandsAs M new (office_left office_answers h zs)) whole stands,
        subst (λ (zs : List Step). StopsBy M first.shelf new.shelf h zs) whole stops,
      )
  turn_led n Are before after first old new (inr it) so_far honest h held =
      connection_led n Are before after first old it.1.served new it.1.one so_far it.1.asked.3 it.1.settings honest h held

  for_led : (n : ℕ) (before after : T) (first new : DeskOf S) (it : GoesOnFor N M store n before after first new) → LedTo n (AreOfTurns N M store n before after first new it) first new
  for_led zero before after first new it honest h held =
      subst (λ (d : DeskOf S). LedTo zero (λ h steps. steps ≡ []) first d) (sym it.1) (λ honest h held. ([], omega arith, refl, held, stops_none M first.shelf h)) honest h held
  for_led (suc n) before after first new it honest h held =
      let (xs, ys, few, are, last, stands, stops) =
      turn_led n (AreOfTurns N M store n before it.0 first it.1 it.2) it.0 after first it.1 new it.3 (for_led n before it.0 first it.1 it.2) honest h held in
      (xs ++ ys, omega (arith, few), (xs, ys, refl, are, last), stands, stops)

  serving_led : (count : ℕ) (before after : T) (old new : DeskOf S) (result : Result (Unit {0}) ProgramFault) (turns : ServesInTurn N M store count before after old new result)
      → LedTo count (AreOfServing N M store count before after old new result turns) old new
  serving_led count before after old new (Ok done) it honest h held = for_led count before after old new it honest h held
  serving_led count before after old new (Err Store) it honest h held =
      let (xs, ys, few, are, last, stands, stops) =
      connection_led it.0 (AreOfTurns N M store it.0 before it.2 old it.3 it.4) it.2 after old it.3 it.5.1.served new it.5.1.one
      (for_led it.0 before it.2 old it.3 it.4) it.5.1.asked.3 it.5.1.settings honest h held in
      (xs ++ ys, omega (arith, few, it.1), (xs, ys, refl, are, last), stands, stops)
  serving_led count before after old new (Err Input) it honest h held =
      let (xs, few, are, stands, stops) =
      subst (λ (d : DeskOf S). LedTo it.0 (AreOfTurns N M store it.0 before it.2 old it.3 it.4) old d) (sym it.5.1) (for_led it.0 before it.2 old it.3 it.4) honest h held in
      (xs, omega (arith, few, it.1), are, stands, stops)
  serving_led count before after old new (Err (Arguments e)) it honest h held = absurd it.5
  serving_led count before after old new (Err (Settings name)) it honest h held = absurd it.5
  serving_led count before after old new (Err Output) it honest h held = absurd it.5
  serving_led count before after old new (Err (Refused why)) it honest h held = absurd it.5

  -- The accepted commands are kept.
  pub serves_steps : StepsAreKept → (count : ℕ) (before after : T) (old new : DeskOf S) (result : Result (Unit {0}) ProgramFault)
      → ServesInTurn N M store count before after old new result → ServesSteps N M store count before after old new result
  serves_steps law count before after old new result turns = (
    turns,
    λ honest h held.
        let (steps, few, are, stands, stops) = serving_led count before after old new result turns honest h held in
        (steps, few, are, record { stands = stands; stops = stops; kept = λ xs reached. law xs h reached steps }),
  )

  pub takes_turns : (count : ℕ) (before after : T) (old new : DeskOf S) (result : Result (Unit {0}) ProgramFault) → ServesSteps N M store count before after old new result
      → TakesTurns M count old new
  takes_turns count before after old new result (turns, led) honest h held = let (steps, few, are, went) = led honest h held in (steps, few, went)

  -- ---- one more turn

  pub one_more : (n : ℕ) (before host after : T) (first mid new : DeskOf S) → GoesOnFor N M store n before host first mid → IsOneTurn N M store host after mid new
      → GoesOnFor N M store (n + 1) before after first new
  one_more n before host after first mid new so_far last =
      let next : suc n ≡ n + 1 = omega arith in subst (λ (k : ℕ). GoesOnFor N M store k before after first new) next (host, mid, so_far, last)

  -- A connection that couldn't be taken.
  pub none_taken : (before after : T) (old new : DeskOf S) (taken : Bool) → taken ≡ false → TakesOne N M before after old new (Ok taken)
      → IsOneTurn N M store before after old new
  none_taken before after old new false is it = inl it
  none_taken before after old new true is it = absurd (cc is)

  pub asks : (before after : T) (old served new : DeskOf S) (answer : Result Bool ShelfFault) (taken : Bool) → taken ≡ true
      → TakesOne N M before after old served (Ok taken) → TellsShut M store served.shelf new.shelf answer → new.settings ≡ served.settings
      → ServesAndAsks N M store before after old new answer
  asks before after old served new answer true is one asked settings = record { served = served; one = one; asked = asked; settings = settings }
  asks before after old served new answer false is one asked settings = absurd (cc is)

  -- A fault of the next connection.
  pub ends_by : (fault : ProgramFault) (before after : T) (old new : DeskOf S) → TakesOne N M before after old new (Err fault) → EndsBy N M store fault before after old new
  ends_by Input before after old new it = it
  ends_by Store before after old new it = absurd it
  ends_by (Arguments e) before after old new it = absurd it
  ends_by (Settings name) before after old new it = absurd it
  ends_by Output before after old new it = absurd it
  ends_by (Refused why) before after old new it = absurd it

  -- ---- the facts that follow

  pub turns_before : (count : ℕ) (before after : T) (old new : DeskOf S) (result : Result (Unit {0}) ProgramFault) → ServesInTurn N M store count before after old new result
      → M.honest new.shelf → M.honest old.shelf
  turns_before count before after old new (Ok done) it honest = for_before count before after old new it honest
  turns_before count before after old new (Err Store) it honest = for_before it.0 before it.2 old it.3 it.4 (asked_before it.2 after it.3 new it.5.0 it.5.1 honest)
  turns_before count before after old new (Err Input) it honest = for_before it.0 before it.2 old it.3 it.4 (subst (λ (d : DeskOf S). M.honest d.shelf) it.5.1 honest)
  turns_before count before after old new (Err (Arguments e)) it honest = absurd it.5
  turns_before count before after old new (Err (Settings name)) it honest = absurd it.5
  turns_before count before after old new (Err Output) it honest = absurd it.5
  turns_before count before after old new (Err (Refused why)) it honest = absurd it.5

  pub turns_fault : (count : ℕ) (before after : T) (old new : DeskOf S) (result : Result (Unit {0}) ProgramFault) → ServesInTurn N M store count before after old new result
      → IfErr result (λ fault. (fault ≡ Store) ⊎ (fault ≡ Input))
  turns_fault count before after old new (Ok done) it = tt
  turns_fault count before after old new (Err Store) it = inl refl
  turns_fault count before after old new (Err Input) it = inr refl
  turns_fault count before after old new (Err (Arguments e)) it = absurd it.5
  turns_fault count before after old new (Err (Settings name)) it = absurd it.5
  turns_fault count before after old new (Err Output) it = absurd it.5
  turns_fault count before after old new (Err (Refused why)) it = absurd it.5
