-- The states that a stop may leave, step by step.
use Rattle.office_http.proofs.Names.{◌≡◌, ℕ, Bool, true, false, List, [], ◌∷◌, ◌++◌, Option, Some, None, Result, append_assoc, append-nil, refl, sym, ap, ◌∙◌, subst, ⊤, is_none, Refusal, Settings, Tables, Meaning, DeskOf, IsReached, Allow, ReaderView, Block, Ran, Served, Step, office_left, RunFault, TellsAtSight, refused_at_sight, Meant, Refuses, meant, Held, IsAnswered, IsWholeAfter, LeftAfter, StandsAs, StopsAfter, answer_bytes, is_accepted, meant_in, office_answers, tables_left, response_of, LeftBySteps, StandsWatched, StopsBy, Watched, office_now, watched_answers}
use Rattle.office_http.specs.declared.reply.Reply.TheVariants.{Refused}
use Rattle.office_http.proofs.LeftSteps.{left_weaker}
use Rattle.office_http.proofs.SightSteps.{sight_meant}
use Rattle.office_http.proofs.ViewedAnswers.{ran_as, served_as}

-- ---- one more step at the end

office_push : (h : Held) (steps : List Step) (x : Step)
    → office_left office_answers h (steps ++ x ∷ []) ≡ office_answers.after x.busy (office_left office_answers h steps) x.block
office_push h [] x = refl
office_push h (y ∷ steps) x = office_push (office_answers.after y.busy h y.block) steps x

-- The states that a stop may leave after a step, by those that it could leave before.
abbrev LeftByStep : (Tables → Type 0) → Held → Step → Tables → Type 0
LeftByStep Before h x u =
    LeftAfter (is_accepted h.tables x.block.moment (meant_in h x.block)) x.busy (Before u) (IsWholeAfter h.settings h.tables x.block.moment (meant_in h x.block) u)

left_push : (Before : Tables → Type 0) (h : Held) (steps : List Step) (x : Step) (u : Tables)
    → LeftByStep (LeftBySteps Before h steps) (office_left office_answers h steps) x u → LeftBySteps Before h (steps ++ x ∷ []) u
left_push Before h [] x u left = left
left_push Before h (y ∷ steps) x u left = left_push (LeftByStep Before h y) (office_answers.after y.busy h y.block) steps x u left

-- ---- a request that is refused at sight is never answered `Unavailable`

module _ {S : Type 0} (M : Meaning S) (settings : Settings) (old new : S) (s : Tables) (b : Block) (text : List ℕ) where
  -- How the meaning of a request was answered.
  abbrev AnsweredBy : Bool → Meant → Type 0
  AnsweredBy busy m =
      (text ≡ answer_bytes settings busy s b.moment m) × M.holds new (tables_left settings busy s b.moment m)
      × IsReached settings.publisher (tables_left settings busy s b.moment m) × StopsAfter M settings old new busy s b.moment m

  -- After a refusal it is the same whether the answer was `Unavailable`, but for the text.
  refused_by : (why : Refusal) (method : Option Allow) → text ≡ response_of (Refused why method) → (busy : Bool) → AnsweredBy busy (Refuses why method)
      → AnsweredBy false (Refuses why method)
  refused_by why method told true it = (told, it.1, it.2, it.3)
  refused_by why method told false it = it

  pub sure : (sight : Option (Refusal × Option Allow)) → refused_at_sight settings b.request ≡ sight → TellsAtSight settings b.request text
      → (busy : Bool) × AnsweredBy busy (meant settings b.request s)
      → (busy : Bool) × (busy ≡ true → is_none (refused_at_sight settings b.request) ≡ true) × AnsweredBy busy (meant settings b.request s)
  sure None is sight a = (a.0, λ on. ap (λ (o : Option (Refusal × Option Allow)). is_none o) is, a.1)
  sure (Some why) is sight a =
      let means : meant settings b.request s ≡ Refuses why.0 why.1 = sight_meant settings b.request s why is in (
        false,
        λ on. absurd (cc on),
        subst (λ (m : Meant). AnsweredBy false m) (sym means) (refused_by why.0 why.1 (sight why is) a.0 (subst (λ (m : Meant). AnsweredBy a.0 m) means a.1)),
      )

module _ {S : Type 0} (M : Meaning S) where
  -- ---- one answer

  module _ (old new : DeskOf S) (w : Watched S) (b : Block) (text : List ℕ) where
    abbrev here : Held
    here = office_now w

    abbrev next : Bool → Watched S
    next busy = watched_answers.after busy w b

    -- A step of the office as it is now.
    step_stands : (busy : Bool) → StandsAs M new (office_answers.after busy here b)
        → ((u : Tables) → M.may_leave new.shelf u → LeftByStep (M.may_leave old.shelf) here (record { busy = busy; block = b }) u)
        → (M.leaves_sound old.shelf → M.leaves_sound new.shelf) → StopsBy M w.shelf old.shelf w.first w.steps → StandsWatched M new (next busy)
    step_stands busy stands leaves whole stops = (
      subst (λ (h : Held). StandsAs M new h) (sym (office_push w.first w.steps (record { busy = busy; block = b }))) stands,
      record {
        left = λ u left. left_push (M.may_leave w.shelf) w.first w.steps (record { busy = busy; block = b }) u
            (left_weaker (is_accepted here.tables b.moment (meant_in here b)) busy (LeftBySteps (M.may_leave w.shelf) w.first w.steps u) (M.may_leave old.shelf u)
            (IsWholeAfter here.settings here.tables b.moment (meant_in here b) u) (stops.left u) (leaves u left));
        sound = λ was. whole (stops.sound was);
      },
    )

    pub answered_step : M.honest new.shelf → new.settings ≡ old.settings → IsAnswered M old.settings old.shelf new.shelf b.moment (meant old.settings b.request) text
        → TellsAtSight old.settings b.request text → (M.leaves_sound old.shelf → M.leaves_sound new.shelf) → StandsWatched M old w
        → (busy : Bool) × (busy ≡ true → watched_answers.may_be_busy w b ≡ true) × (text ≡ watched_answers.reply busy w b) × StandsWatched M new (next busy)
    answered_step honest same answered sight whole held =
        let is : old.settings ≡ here.settings = held.0.0.0 in
        let family : Settings → Type 0 = λ u. IsAnswered M u old.shelf new.shelf b.moment (meant u b.request) text in
        let told : TellsAtSight here.settings b.request text = subst (λ (u : Settings). TellsAtSight u b.request text) is sight in
        let (busy, reply, holds, reached, stops) = subst family is answered honest here.tables held.0.0.1 held.0.1 in
        let a = sure M here.settings old.shelf new.shelf here.tables b text (refused_at_sight here.settings b.request) refl told (busy, (reply, holds, reached, stops)) in
        (a.0, a.1, a.2.0, step_stands a.0 ((same ∙ is, a.2.1), a.2.2) a.2.3 whole held.1)

  -- ---- all steps of a run, from the office that a desk held

  abbrev pub watched_from : S → Held → Watched S
  watched_from shelf h = record { shelf = shelf; first = h; steps = [] }

  watched_left : (w : Watched S) (steps : List Step) → office_left watched_answers w steps ≡ record w { steps = w.steps ++ steps }
  watched_left w [] = ap (λ (done : List Step). record w { steps = done }) (sym (append-nil w.steps))
  watched_left w (x ∷ steps) =
      watched_left (watched_answers.after x.busy w x.block) steps
      ∙ ap (λ (done : List Step). record w { steps = done }) (append_assoc w.steps (x ∷ []) steps)

  pub watched_start : (desk : DeskOf S) (h : Held) → StandsAs M desk h → StandsWatched M desk (watched_from desk.shelf h)
  watched_start desk h stands = (stands, record { left = λ u left. left; sound = λ was. was })

  module _ (shelf : S) (new : DeskOf S) (h : Held) where
    pub watched_end : (steps : List Step) → StandsWatched M new (office_left watched_answers (watched_from shelf h) steps)
        → StandsAs M new (office_left office_answers h steps) × StopsBy M shelf new.shelf h steps
    watched_end steps stands = subst (λ (w : Watched S). StandsWatched M new w) (watched_left (watched_from shelf h) steps) stands

    pub ran_watched : (result : Result ℕ RunFault) (came rest : ReaderView) (steps : List Step) (before after : Option (List ℕ))
        → Ran watched_answers result came rest (watched_from shelf h) steps before after → Ran office_answers result came rest h steps before after
    ran_watched result came rest steps before after ran =
        ran_as watched_answers office_answers office_now (λ busy w b. refl) (λ busy w b. office_push w.first w.steps (record { busy = busy; block = b })) (λ w b. refl) (λ why. refl)
        result came rest (watched_from shelf h) steps before after ran

    pub served_watched : (result : Result ⊤ RunFault) (came now : Option (List ℕ)) (moment : ℕ) (steps : List Step) (before after : Option (List ℕ))
        → Served watched_answers result came now moment (watched_from shelf h) steps before after → Served office_answers result came now moment h steps before after
    served_watched result came now moment steps before after served =
        served_as watched_answers office_answers office_now (λ busy w b. refl) (λ busy w b. office_push w.first w.steps (record { busy = busy; block = b })) (λ w b. refl) (λ why. refl)
        came now (watched_from shelf h) result moment steps before after served
