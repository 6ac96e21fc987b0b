-- The specification's law about sealed bytes, applied to the requests of runs over HTTP.
use Rattle.office_http.proofs.Names.{◌≡◌, ℕ, ◌⊎◌, inl, inr, Bool, true, false, not, ◌&&◌, is_some, List, [], ◌∷◌, Option, Some, None, Result, Ok, Err, refl, sym, ◌∙◌, ap, subst, if◌then◌else◌, Caller, Command, Query, is_id, Refusal, BadKey, Settings, CompiledRow, Tables, find_tenderer, received_at, fate_of_tender, Given, Means, refusal_of, with_merges, FatesReadNoMerges, RefusalsReadNoMerges, RepliesReadNoMerges, bare, beside, AreRequests, Asks, Demand, Request, all_accepted, accepted_with, accepted_by, office_after, office_by, reply_to, AlikeUntil, DifferingAreGone, KnowAlike, SameButSeals, ToldAlike, bytes_of, is_gone, is_opening, never, opens_it, Modified, Presented, Same, SameBut, ChosenTender, KeptStepsReadNoMerges, PublishedLooksReadNoMerges, packages, publishing, PublishedRunsAreAlike, PublishedSealsAreKept, office_kept, given, caller_of, clerk_with_key, is_clerk_name, tenderer_with_key, RequestView, Step, routed, Allow, Route, Held, answer_bytes, meant_in, office_answers, tables_left, told_as, unavailable_text, credentials_of, WhatIsAskedCanBeGiven, CanBeMeant, accepted_steps, joined_with, Meant, Refuses, Gives, Sees, meant, meant_at, meant_by, who, response_of, AlikeTo, AnsweredAlikeUntil, AnsweredRunsAreAlike, AnsweredSealsAreKept, AreAlike, MeaningsReadTenderers, MeansSame, SameSteps, meant_opens}
use Rattle.office_machine.specs.Requests.{Looks}
use Rattle.office_http.specs.declared.reply.Reply.TheVariants.{Refused}
use Rattle.office_http.proofs.MeantSteps.{meant_can}

-- The laws that this proof uses.
pub record Laws : Type 0 where
  pub seals : PublishedSealsAreKept
  pub whole : PublishedRunsAreAlike
  pub refusals : RefusalsReadNoMerges
  pub replies : RepliesReadNoMerges
  pub looks : PublishedLooksReadNoMerges
  pub kept : KeptStepsReadNoMerges
  pub fates : FatesReadNoMerges
  pub asked : WhatIsAskedCanBeGiven

-- The specification's request for a block that has a meaning.
abbrev request_of : Bool → ℕ → Caller → Demand → Request
request_of busy moment caller demand = record { moment = moment; caller = caller; demand = demand; unavailable = busy }

-- This request before the others, or none if the block is refused before.
abbrev asks : Bool → ℕ → Meant → List Request → List Request
asks busy moment (Refuses why method) rest = rest
asks busy moment (Gives caller command) rest = request_of busy moment caller (Asks command) ∷ rest
asks busy moment (Sees caller query) rest = request_of busy moment caller (Looks query) ∷ rest

-- The requests of a run.
abbrev run_asks : Held → List Step → List Request
run_asks h [] = []
run_asks h (x ∷ steps) = asks x.busy x.block.moment (meant_in h x.block) (run_asks (office_answers.after x.busy h x.block) steps)

-- The bytes are the same tenderer's, whatever merges the office has.
past_merges : (th : ChosenTender) (merges : List CompiledRow) (s : Tables) (caller : Caller) (command command' : Command)
    → SameBut th (with_merges merges s) caller command command' → SameBut th s caller command command'
past_merges th merges s caller command command' (Same e) = Same e
past_merges th merges s caller command command' (Presented security bytes bytes' long who is is') = Presented security bytes bytes' long who is is'
past_merges th merges s caller command command' (Modified receipt bytes bytes' long who lot is is') = Modified receipt bytes bytes' long who lot is is'

module _ (laws : Laws) (settings : Settings) where
  abbrev means : Means
  means = publishing settings.publisher

  -- An office of the specification, with merges added.
  abbrev held : List CompiledRow → Tables → Held
  held merges s = record { settings = settings; tables = with_merges merges s }

  -- ---- the office after a block

  abbrev machine_after : Tables → Bool → ℕ → Meant → Tables
  machine_after s busy moment (Refuses why method) = s
  machine_after s busy moment (Gives caller command) = office_after means s (request_of busy moment caller (Asks command))
  machine_after s busy moment (Sees caller query) = office_after means s (request_of busy moment caller (Looks query))

  module _ (merges : List CompiledRow) (s : Tables) (moment : ℕ) where
    kept_is : (x : Given) (why : Option Refusal)
        → office_kept why settings.publisher (beside merges x) ≡ with_merges (office_kept why settings.publisher (beside merges x)).compiled (office_by why means x)
    kept_is x None = laws.kept settings.publisher merges x
    kept_is x (Some why) = refl

    after_is : (busy : Bool) (m : Meant)
        → tables_left settings busy (with_merges merges s) moment m
        ≡ with_merges (tables_left settings busy (with_merges merges s) moment m).compiled (machine_after s busy moment m)
    after_is true (Refuses why method) = refl
    after_is true (Gives caller command) = refl
    after_is true (Sees caller query) = refl
    after_is false (Refuses why method) = refl
    after_is false (Gives caller command) =
        let x : Given = given s moment caller command in
        subst (λ why. office_kept why settings.publisher (beside merges x) ≡ with_merges (office_kept why settings.publisher (beside merges x)).compiled (office_by (refusal_of x) means x))
        (sym (laws.refusals merges x)) (kept_is x (refusal_of x))
    after_is false (Sees caller query) = refl

  module _ (merges : List CompiledRow) (s : Tables) (x : Step) where
    abbrev meaning : Meant
    meaning = meant_in (held merges s) x.block

    abbrev merges_left : List CompiledRow
    merges_left = (tables_left settings x.busy (with_merges merges s) x.block.moment meaning).compiled

    abbrev office_left : Tables
    office_left = machine_after s x.busy x.block.moment meaning

    held_is : office_answers.after x.busy (held merges s) x.block ≡ held merges_left office_left
    held_is = ap (λ t. record { settings = settings; tables = t }) (after_is merges s x.block.moment x.busy meaning)

  -- ---- the text of a response

  given_text : (merges : List CompiledRow) (s : Tables) (moment : ℕ) (busy : Bool) (caller : Caller) (command : Command)
      → answer_bytes settings busy (with_merges merges s) moment (Gives caller command)
      ≡ response_of (told_as (reply_to means (packages settings.publisher) s (request_of busy moment caller (Asks command))))
  given_text merges s moment true caller command = refl
  given_text merges s moment false caller command = ap (λ reply. response_of (told_as reply)) (laws.replies means merges (given s moment caller command))

  seen_text : (merges : List CompiledRow) (s : Tables) (moment : ℕ) (busy : Bool) (caller : Caller) (query : Query)
      → answer_bytes settings busy (with_merges merges s) moment (Sees caller query)
      ≡ response_of (told_as (reply_to means (packages settings.publisher) s (request_of busy moment caller (Looks query))))
  seen_text merges s moment true caller query = refl
  seen_text merges s moment false caller query = ap (λ reply. response_of (told_as reply)) (laws.looks settings.publisher merges s caller query)

  -- ---- the requests of a run can be given

  asks_can : (merges : List CompiledRow) (s : Tables) (moment : ℕ) (busy : Bool) (rest : List Request) (m : Meant) → CanBeMeant (with_merges merges s) m
      → AreRequests means (machine_after s busy moment m) rest → AreRequests means s (asks busy moment m rest)
  asks_can merges s moment busy rest (Refuses why method) can more = more
  asks_can merges s moment busy rest (Gives caller command) can more = (can, more)
  asks_can merges s moment busy rest (Sees caller query) can more = (tt, more)

  all_can : (merges : List CompiledRow) (s : Tables) (steps : List Step) → AreRequests means s (run_asks (held merges s) steps)
  all_can merges s [] = tt
  all_can merges s (x ∷ steps) =
      asks_can merges s x.block.moment x.busy (run_asks (office_answers.after x.busy (held merges s) x.block) steps) (meaning merges s x)
      (meant_can laws.asked settings x.block.request (with_merges merges s))
      (subst (λ h. AreRequests means (office_left merges s x) (run_asks h steps)) (sym (held_is merges s x)) (all_can (merges_left merges s x) (office_left merges s x) steps))

  module _ (th : ChosenTender) where
    -- ---- the requests of both runs are the same except for such bytes

    asks_same : (merges : List CompiledRow) (s : Tables) (moment moment' : ℕ) (busy busy' : Bool) (rest rest' : List Request)
        → moment' ≡ moment → busy' ≡ busy → (m m' : Meant) → MeansSame th (with_merges merges s) m m'
        → SameButSeals means th (machine_after s busy moment m) rest rest' → SameButSeals means th s (asks busy moment m rest) (asks busy' moment' m' rest')
    asks_same merges s moment moment' busy busy' rest rest' same_moment same_busy (Refuses why method) m' same more =
        subst (λ (m' : Meant). SameButSeals means th s rest (asks busy' moment' m' rest')) (sym same) more
    asks_same merges s moment moment' busy busy' rest rest' same_moment same_busy (Gives caller command) (Refuses why method) same more = absurd same
    asks_same merges s moment moment' busy busy' rest rest' same_moment same_busy (Gives caller command) (Gives caller' command') same more =
        (record { moment = same_moment; caller = same.0; unavailable = same_busy; demand = past_merges th merges s caller command command' same.1 }, more)
    asks_same merges s moment moment' busy busy' rest rest' same_moment same_busy (Gives caller command) (Sees caller' query) same more = absurd same
    asks_same merges s moment moment' busy busy' rest rest' same_moment same_busy (Sees caller query) m' same more =
        subst (λ (m' : Meant). SameButSeals means th s (asks busy moment (Sees caller query) rest) (asks busy' moment' m' rest')) (sym same)
        (record { moment = same_moment; caller = refl; unavailable = same_busy; demand = refl }, more)

    all_same : (merges trees' : List CompiledRow) (s s' : Tables) (steps steps' : List Step) → SameSteps th (held merges s) (held trees' s') steps steps'
        → SameButSeals means th s (run_asks (held merges s) steps) (run_asks (held trees' s') steps')
    all_same merges trees' s s' [] [] same = tt
    all_same merges trees' s s' [] (y ∷ steps') same = absurd same
    all_same merges trees' s s' (x ∷ steps) [] same = absurd same
    all_same merges trees' s s' (x ∷ steps) (y ∷ steps') same =
        let more : (h h' : Held) → h ≡ held (merges_left merges s x) (office_left merges s x) → h' ≡ held (merges_left trees' s' y) (office_left trees' s' y)
        → SameSteps th h h' steps steps' → SameButSeals means th (office_left merges s x) (run_asks h steps) (run_asks h' steps') =
        λ h h' is is'. subst (λ h. SameSteps th h h' steps steps' → SameButSeals means th (office_left merges s x) (run_asks h steps) (run_asks h' steps')) (sym is)
        (subst (λ h'. SameSteps th (held (merges_left merges s x) (office_left merges s x)) h' steps steps'
        → SameButSeals means th (office_left merges s x) (run_asks (held (merges_left merges s x) (office_left merges s x)) steps) (run_asks h' steps')) (sym is')
        (all_same (merges_left merges s x) (merges_left trees' s' y) (office_left merges s x) (office_left trees' s' y) steps steps')) in
        asks_same merges s x.block.moment y.block.moment x.busy y.busy
        (run_asks (office_answers.after x.busy (held merges s) x.block) steps) (run_asks (office_answers.after y.busy (held trees' s') y.block) steps')
        same.0.moment same.0.busy (meaning merges s x) (meaning trees' s' y) same.0.meaning
        (more (office_answers.after x.busy (held merges s) x.block) (office_answers.after y.busy (held trees' s') y.block) (held_is merges s x) (held_is trees' s' y) same.1)

    -- ---- the specification's replies are the responses

    -- A test of a block that agrees with a test of the specification's request, whatever merges there are.
    record AgreeOn (halts : Tables → Bool → ℕ → Meant → Bool) (stops : Tables → Request → Bool) : Type 0 where
      gives : (merges : List CompiledRow) (s : Tables) (busy : Bool) (moment : ℕ) (caller : Caller) (command : Command)
          → halts (with_merges merges s) busy moment (Gives caller command) ≡ stops s (request_of busy moment caller (Asks command))
      sees : (merges : List CompiledRow) (s : Tables) (busy : Bool) (moment : ℕ) (caller : Caller) (query : Query)
          → halts (with_merges merges s) busy moment (Sees caller query) ≡ stops s (request_of busy moment caller (Looks query))
      refuses : (s : Tables) (busy : Bool) (moment : ℕ) (why : Refusal) (method : Option Allow) → halts s busy moment (Refuses why method) ≡ false

    module _ (halts : Tables → Bool → ℕ → Meant → Bool) (stops : Tables → Request → Bool) (agree : AgreeOn halts stops) where
      abbrev Alike : Tables → Tables → List Request → List Request → Type 0
      Alike s s' rest rest' = AlikeUntil means (packages settings.publisher) th stops s s' rest rest'

      know : (s s' : Tables) (rest rest' : List Request) → Alike s s' rest rest' → KnowAlike s s'
      know s s' [] [] alike = alike
      know s s' [] (b ∷ rest') alike = absurd alike
      know s s' (a ∷ rest) [] alike = absurd alike
      know s s' (a ∷ rest) (b ∷ rest') alike = alike.0

      alike_to : (caller : Caller) (text text' : List ℕ) (r r' : Rattle.office_machine.specs.Replies.Reply) → text ≡ response_of (told_as r) → text' ≡ response_of (told_as r')
          → ToldAlike th caller r r' → AlikeTo th caller text text'
      alike_to caller text text' r r' tells tells' told = record {
        others = λ out. tells' ∙ ap (λ reply. response_of (told_as reply)) (told.others out) ∙ sym tells;
        but_digest = record { first = r; second = r'; tells = tells; tells' = tells'; same = told.but_digest };
      }

      -- One block.
      record Sent (merges trees' : List CompiledRow) (s s' : Tables) (moment moment' : ℕ) (busy busy' : Bool) (rest rest' : List Request) (m m' : Meant) : Type 0 where
        told : AreAlike th m (answer_bytes settings busy (with_merges merges s) moment m) (answer_bytes settings busy' (with_merges trees' s') moment' m')
        goes : halts (with_merges merges s) busy moment m ≡ false → Alike (machine_after s busy moment m) (machine_after s' busy' moment' m') rest rest'

      sent : (merges trees' : List CompiledRow) (s s' : Tables) (moment moment' : ℕ) (busy busy' : Bool) (rest rest' : List Request) → busy' ≡ busy
          → (m m' : Meant) → MeansSame th (with_merges merges s) m m' → Alike s s' (asks busy moment m rest) (asks busy' moment' m' rest')
          → Sent merges trees' s s' moment moment' busy busy' rest rest' m m'
      sent merges trees' s s' moment moment' busy busy' rest rest' same_busy (Refuses why method) m' same =
          subst (λ (m' : Meant). Alike s s' rest (asks busy' moment' m' rest') → Sent merges trees' s s' moment moment' busy busy' rest rest' (Refuses why method) m') (sym same)
          (λ alike. record {
            told = λ i. if same_busy i then unavailable_text else response_of (Refused why method);
            goes = λ goes_on. alike;
          })
      sent merges trees' s s' moment moment' busy busy' rest rest' same_busy (Gives caller command) (Refuses why method) same = absurd same
      sent merges trees' s s' moment moment' busy busy' rest rest' same_busy (Gives caller command) (Gives caller' command') same = λ alike. record {
        told = alike_to caller _ _ _ _ (given_text merges s moment busy caller command) (given_text trees' s' moment' busy' caller' command') alike.1;
        goes = λ goes_on. alike.2 (sym (agree.gives merges s busy moment caller command) ∙ goes_on);
      }
      sent merges trees' s s' moment moment' busy busy' rest rest' same_busy (Gives caller command) (Sees caller' query) same = absurd same
      sent merges trees' s s' moment moment' busy busy' rest rest' same_busy (Sees caller query) m' same =
          subst (λ (m' : Meant). Alike s s' (asks busy moment (Sees caller query) rest) (asks busy' moment' m' rest')
          → Sent merges trees' s s' moment moment' busy busy' rest rest' (Sees caller query) m') (sym same)
          (λ alike. record {
            told = alike_to caller _ _ _ _ (seen_text merges s moment busy caller query) (seen_text trees' s' moment' busy' caller query) alike.1;
            goes = λ goes_on. alike.2 (sym (agree.sees merges s busy moment caller query) ∙ goes_on);
          })

      -- A block ends a run if its test holds.
      abbrev ends : Held → Step → Bool
      ends h x = halts h.tables x.busy x.block.moment (meant_in h x.block)

      all_sent : (merges trees' : List CompiledRow) (s s' : Tables) (steps steps' : List Step) → SameSteps th (held merges s) (held trees' s') steps steps'
          → Alike s s' (run_asks (held merges s) steps) (run_asks (held trees' s') steps') → AnsweredAlikeUntil th ends (held merges s) (held trees' s') steps steps'
      all_sent merges trees' s s' [] [] same alike = alike
      all_sent merges trees' s s' [] (y ∷ steps') same alike = absurd same
      all_sent merges trees' s s' (x ∷ steps) [] same alike = absurd same
      all_sent merges trees' s s' (x ∷ steps) (y ∷ steps') same alike =
          let it = sent merges trees' s s' x.block.moment y.block.moment x.busy y.busy
          (run_asks (office_answers.after x.busy (held merges s) x.block) steps) (run_asks (office_answers.after y.busy (held trees' s') y.block) steps')
          same.0.busy (meaning merges s x) (meaning trees' s' y) same.0.meaning alike in
          let more : (h h' : Held) → h ≡ held (merges_left merges s x) (office_left merges s x) → h' ≡ held (merges_left trees' s' y) (office_left trees' s' y)
          → SameSteps th h h' steps steps' → Alike (office_left merges s x) (office_left trees' s' y) (run_asks h steps) (run_asks h' steps')
          → AnsweredAlikeUntil th ends h h' steps steps' =
          λ h h' is is'. subst (λ h. SameSteps th h h' steps steps' → Alike (office_left merges s x) (office_left trees' s' y) (run_asks h steps) (run_asks h' steps')
          → AnsweredAlikeUntil th ends h h' steps steps') (sym is)
          (subst (λ h'. SameSteps th (held (merges_left merges s x) (office_left merges s x)) h' steps steps'
          → Alike (office_left merges s x) (office_left trees' s' y) (run_asks (held (merges_left merges s x) (office_left merges s x)) steps) (run_asks h' steps')
          → AnsweredAlikeUntil th ends (held (merges_left merges s x) (office_left merges s x)) h' steps steps') (sym is')
          (all_sent (merges_left merges s x) (merges_left trees' s' y) (office_left merges s x) (office_left trees' s' y) steps steps')) in (
            know s s' (run_asks (held merges s) (x ∷ steps)) (run_asks (held trees' s') (y ∷ steps')) alike,
            it.told,
            λ goes_on. more (office_answers.after x.busy (held merges s) x.block) (office_answers.after y.busy (held trees' s') y.block)
                (held_is merges s x) (held_is trees' s' y) same.1 (it.goes goes_on),
          )

  -- ---- the commands that a run accepts

  abbrev machine_joined : Tables → Bool → ℕ → Meant → List Given → List Given
  machine_joined s busy moment (Refuses why method) zs = zs
  machine_joined s busy moment (Gives caller command) zs = accepted_with s (request_of busy moment caller (Asks command)) zs
  machine_joined s busy moment (Sees caller query) zs = accepted_with s (request_of busy moment caller (Looks query)) zs

  one_joined : (s : Tables) (busy : Bool) (moment : ℕ) (m : Meant) (zs : List Given) (rest : List Request)
      → all_accepted means (machine_after s busy moment m) (machine_joined s busy moment m zs) rest ≡ all_accepted means s zs (asks busy moment m rest)
  one_joined s busy moment (Refuses why method) zs rest = refl
  one_joined s busy moment (Gives caller command) zs rest = refl
  one_joined s busy moment (Sees caller query) zs rest = refl

  module _ (merges : List CompiledRow) (s : Tables) (moment : ℕ) (xs zs : List Given) (same : bare xs ≡ bare zs) where
    by_refusal : (x : Given) (why : Option Refusal) → bare (accepted_by why (beside merges x) xs) ≡ bare (accepted_by why x zs)
    by_refusal x None = ap (λ (ys : List Given). beside [] x ∷ ys) same
    by_refusal x (Some why) = same

    joined_bare : (busy : Bool) (m : Meant) → bare (joined_with busy (with_merges merges s) moment m xs) ≡ bare (machine_joined s busy moment m zs)
    joined_bare true (Refuses why method) = same
    joined_bare true (Gives caller command) = same
    joined_bare true (Sees caller query) = same
    joined_bare false (Refuses why method) = same
    joined_bare false (Gives caller command) =
        ap (λ why. bare (accepted_by why (beside merges (given s moment caller command)) xs)) (laws.refusals merges (given s moment caller command))
        ∙ by_refusal (given s moment caller command) (refusal_of (given s moment caller command))
    joined_bare false (Sees caller query) = same

  all_bare : (merges : List CompiledRow) (s : Tables) (xs zs : List Given) → bare xs ≡ bare zs → (steps : List Step)
      → bare (accepted_steps (held merges s) steps xs) ≡ bare (all_accepted means s zs (run_asks (held merges s) steps))
  all_bare merges s xs zs same [] = same
  all_bare merges s xs zs same (x ∷ steps) =
      let ys : List Given = joined_with x.busy (with_merges merges s) x.block.moment (meaning merges s x) xs in
      let ws : List Given = machine_joined s x.busy x.block.moment (meaning merges s x) zs in
      subst (λ h. bare (accepted_steps h steps ys) ≡ bare (all_accepted means (office_left merges s x) ws (run_asks h steps))) (sym (held_is merges s x))
      (all_bare (merges_left merges s x) (office_left merges s x) ys ws (joined_bare merges s x.block.moment xs zs same x.busy (meaning merges s x)) steps)
      ∙ ap bare (one_joined s x.busy x.block.moment (meaning merges s x) zs (run_asks (office_answers.after x.busy (held merges s) x.block) steps))

-- Lists of commands whose offices differ only in their merges have the same withdrawn and returned tenders.
module _ (laws : Laws) where
  same_came : (xs ys : List Given) → bare xs ≡ bare ys → (r : ℕ) → received_at xs r ≡ received_at ys r
  same_came xs ys same r = sym (laws.fates xs r).0 ∙ ap (λ zs. received_at zs r) same ∙ (laws.fates ys r).0

  same_fate : (xs ys : List Given) → bare xs ≡ bare ys → (r : ℕ) → fate_of_tender xs r ≡ fate_of_tender ys r
  same_fate xs ys same r = sym (laws.fates xs r).1 ∙ ap (λ zs. fate_of_tender zs r) same ∙ (laws.fates ys r).1

  same_gone : (xs ys zs ws : List Given) → bare xs ≡ bare zs → bare ys ≡ bare ws → DifferingAreGone xs ys → DifferingAreGone zs ws
  same_gone xs ys zs ws first second gone r =
      elim (gone r) as (λ _. (bytes_of (received_at zs r) ≡ bytes_of (received_at ws r)) ⊎ (is_gone (fate_of_tender zs r) ≡ true)) [
        | inl same ↦ inl (ap bytes_of (sym (same_came xs zs first r)) ∙ same ∙ ap bytes_of (same_came ys ws second r))
        | inr is ↦ inr (ap is_gone (sym (same_fate xs zs first r)) ∙ is)
      ]

abbrev opening_halts : ChosenTender → Tables → Bool → ℕ → Meant → Bool
opening_halts th s busy moment m = not busy && meant_opens th s moment m

openings_agree : (laws : Laws) (settings : Settings) (th : ChosenTender) → AgreeOn laws settings th (opening_halts th) (is_opening th)
openings_agree laws settings th = record {
  gives = λ merges s busy moment caller command.
      ap (λ (why : Option Refusal). not busy && (opens_it th command && not (is_some why))) (laws.refusals merges (given s moment caller command));
  sees = λ merges s busy moment caller query. refl;
  refuses = λ s busy moment why method. never_true (not busy);
}
  where
    never_true : (b : Bool) → (b && false) ≡ false
    never_true true = refl
    never_true false = refl

pub seals_kept : Laws → AnsweredSealsAreKept
seals_kept laws th xs h reached steps steps' same =
    all_sent laws h.settings th (opening_halts th) (is_opening th) (openings_agree laws h.settings th) h.tables.compiled h.tables.compiled h.tables h.tables steps steps' same
    (laws.seals h.settings.publisher th xs h.tables reached (run_asks h steps) (run_asks h steps') (all_can laws h.settings h.tables.compiled h.tables steps)
    (all_same laws h.settings th h.tables.compiled h.tables.compiled h.tables h.tables steps steps' same))

pub runs_alike : Laws → AnsweredRunsAreAlike
runs_alike laws th xs h reached steps steps' same gone =
    all_sent laws h.settings th (λ s busy moment m. false) never (record { gives = λ merges s busy moment caller command. refl; sees = λ merges s busy moment caller query. refl; refuses = λ s busy moment why method. refl })
    h.tables.compiled h.tables.compiled h.tables h.tables steps steps' same
    (laws.whole h.settings.publisher th xs h.tables reached (run_asks h steps) (run_asks h steps') (all_can laws h.settings h.tables.compiled h.tables steps)
    (all_same laws h.settings th h.tables.compiled h.tables.compiled h.tables h.tables steps steps' same)
    (same_gone laws (accepted_steps h steps xs) (accepted_steps h steps' xs) (all_accepted (publishing h.settings.publisher) h.tables xs (run_asks h steps)) (all_accepted (publishing h.settings.publisher) h.tables xs (run_asks h steps'))
    (all_bare laws h.settings h.tables.compiled h.tables xs xs refl steps) (all_bare laws h.settings h.tables.compiled h.tables xs xs refl steps') gone))

-- The caller depends only on the tenderers that an office knows.

module _ (settings : Settings) (s s' : Tables) (known : KnowAlike s s') where
  caller_same : (name key : Option (List ℕ)) → caller_of settings s' name key ≡ caller_of settings s name key
  caller_same None None = refl
  caller_same None (Some key) = refl
  caller_same (Some name) None = refl
  caller_same (Some name) (Some key) =
      λ i. if is_clerk_name name then clerk_with_key settings key else (if is_id name then tenderer_with_key name key (find_tenderer (known i) name) else Err BadKey)

  who_same : (values : Result (Option (List ℕ) × Option (List ℕ)) Refusal) → who settings s' values ≡ who settings s values
  who_same (Err why) = refl
  who_same (Ok values) = caller_same values.0 values.1

  meant_same : (request : RequestView) (route : Result Route (Refusal × Option Allow)) → meant_at settings request s' route ≡ meant_at settings request s route
  meant_same request (Err why) = refl
  meant_same request (Ok route) = ap (meant_by route request) (who_same (credentials_of request.head.fields))

pub meanings_read : MeaningsReadTenderers
meanings_read h h' same known x =
    ap (λ settings. meant settings x.block.request h'.tables) same
    ∙ meant_same h.settings h.tables h'.tables known x.block.request (routed x.block.request.head.method x.block.request.head.target)
