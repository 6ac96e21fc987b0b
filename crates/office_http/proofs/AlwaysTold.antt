-- The answer and the tables after it, for any tables in a store.
use Rattle.office_http.proofs.Names.{◌≡◌, ℕ, ◌⊎◌, inl, inr, Bool, true, false, not, ◌&&◌, List, Option, Some, None, Result, Ok, Err, refl, sym, ap, ◌∙◌, subst, true≢false, is_none, query_kind_of, Caller, Command, Query, Refusal, Unavailable, Settings, Tables, after_puts, Put, Given, refusal_of, reply_by, packages, publishing, office_kept, given, Plan, text_of, IsPlan, IsSeen, Needs, RequestView, asked_by_route, routed, Asked, Allow, Route, credentials_of, Meant, Refuses, Gives, Sees, meant, meant_asked, meant_at, meant_by, who, KeepsMeant, NeedsMeant, WritesMeant, answer_bytes, is_accepted, is_done, reply_to_meant, seen_as, tables_after, tables_left, told_as, unavailable_text, response_of, Json}
use Rattle.office_machine.specs.Sights.{told}
use Rattle.office_http.specs.declared.reply.Reply as replies
use Rattle.office_http.specs.declared.reply.Reply.TheVariants.{Refused}
use Rattle.office_http.proofs.ToldSteps.{accepted_as, refused_as, told_seen}

module _ (settings : Settings) (s : Tables) (moment : ℕ) (text : List ℕ) (Holds : Tables → Type 0) where
  -- The answer, and the tables after it.
  abbrev pub Tells : Meant → Type 0
  Tells m =
      (busy : Bool) × (text ≡ answer_bytes settings busy s moment m) × (is_done busy s moment m ≡ false → Holds s)
      × (is_done busy s moment m ≡ true → KeepsMeant s moment m → Holds (tables_left settings busy s moment m))
      × (is_done busy s moment m ≡ true → WritesMeant settings.publisher Holds s moment m)

  -- The answer is `Unavailable`, or a reply that leaves the tables as they are.
  pub tells_unavailable : (m : Meant) → text ≡ unavailable_text → Holds s → Tells m
  tells_unavailable m is held = (true, is, λ none. held, (λ done keeps. held), λ done. never (is_accepted s moment m) done)
    where
      never : {P : Type 0} (b : Bool) → (b && not true) ≡ true → P
      never true e = cc
      never false e = cc

  tells_reply : (m : Meant) (reply : replies.Reply) → reply_to_meant settings s moment m ≡ reply → tables_after settings s moment m ≡ s
      → (is_done false s moment m ≡ true → WritesMeant settings.publisher Holds s moment m) → text ≡ response_of reply → Holds s → Tells m
  tells_reply m reply replies stays writes is held = (false, is ∙ ap response_of (sym replies), λ none. held, (λ done keeps. subst Holds (sym stays) held), writes)

  unavailable_refusal : (why : Refusal) → why ≡ Unavailable → text ≡ response_of (Refused why None) → text ≡ unavailable_text
  unavailable_refusal why is tells = tells ∙ ap (λ (w : Refusal). response_of (Refused w None)) is

  -- ---- a command

  pub tells_refused_command : (caller : Caller) (command : Command) (why : Refusal) → (refusal_of (given s moment caller command) ≡ Some why) ⊎ (why ≡ Unavailable)
      → text ≡ response_of (Refused why None) → Holds s → Tells (Gives caller command)
  tells_refused_command caller command why (inl guarded) is held =
      tells_reply (Gives caller command) (Refused why None)
      (ap (λ (o : Option Refusal). told_as (reply_by o (publishing settings.publisher) (given s moment caller command))) guarded)
      (ap (λ (o : Option Refusal). office_kept o settings.publisher (given s moment caller command)) guarded)
      (λ done. absurd (true≢false (sym done ∙ ap (λ (o : Option Refusal). is_none o && not false) guarded))) is held
  tells_refused_command caller command why (inr wanting) is held = tells_unavailable (Gives caller command) (unavailable_refusal why wanting is) held

  pub tells_done_command : (caller : Caller) (command : Command) (planned : Plan) → IsPlan settings.publisher (given s moment caller command) planned
      → text ≡ response_of (Json planned.reply) → Holds (after_puts planned.puts s) → Tells (Gives caller command)
  tells_done_command caller command planned plan is held =
      let x : Given = given s moment caller command in
      let accepted : is_accepted s moment (Gives caller command) ≡ true = ap (λ (o : Option Refusal). is_none o) plan.allowed in (
        false,
        is ∙ ap response_of (sym (ap (λ (o : Option Refusal). told_as (reply_by o (publishing settings.publisher) x)) plan.allowed ∙ accepted_as x plan.allowed ∙ ap Json (sym plan.reply))),
        λ none. absurd (true≢false (sym (ap (λ (b : Bool). b && not false) accepted) ∙ none)),
        (λ done keeps. subst Holds
            (ap (λ (ps : List Put). after_puts ps s) (plan.put keeps).puts ∙ ap (λ (o : Option Refusal). office_kept o settings.publisher x) (sym plan.allowed)) held),
        λ done. (plan.effect.0, subst (λ (ps : List Put). Holds (after_puts ps s)) plan.effect.1 held),
      )

  -- ---- a query

  said_refused : (caller : Caller) (query : Query) (why : Refusal)
      → (let it : Result (List ℕ) Refusal = Err why in (it ≡ text_of (told (packages settings.publisher) s caller query)) ⊎ (it ≡ Err Unavailable))
      → text ≡ response_of (Refused why None) → Holds s → Tells (Sees caller query)
  said_refused caller query why (inl said) is held =
      tells_reply (Sees caller query) (Refused why None) (refused_as (told (packages settings.publisher) s caller query) why said) refl (λ done. tt) is held
  said_refused caller query why (inr wanting) is held = tells_unavailable (Sees caller query) (unavailable_refusal why (cc wanting) is) held

  pub tells_refused_query : (caller : Caller) (query : Query) (why : Refusal) → IsSeen settings.publisher caller query s (Err why)
      → Needs settings.publisher query s
      → text ≡ response_of (Refused why None) → Holds s → Tells (Sees caller query)
  tells_refused_query caller query why seen needs is held = said_refused caller query why (seen needs) is held

  said_shown : (caller : Caller) (query : Query) (shown : List ℕ)
      → (let it : Result (List ℕ) Refusal = Ok shown in (it ≡ text_of (told (packages settings.publisher) s caller query)) ⊎ (it ≡ Err Unavailable))
      → text ≡ response_of (seen_as (query_kind_of query) shown) → Holds s → Tells (Sees caller query)
  said_shown caller query shown (inl said) is held =
      tells_reply (Sees caller query) (seen_as (query_kind_of query) shown) (told_seen (packages settings.publisher) s caller query shown said) refl (λ done. tt) is held
  said_shown caller query shown (inr never) is held = absurd (cc never)

  pub tells_shown_query : (caller : Caller) (query : Query) (shown : List ℕ) → IsSeen settings.publisher caller query s (Ok shown)
      → Needs settings.publisher query s
      → text ≡ response_of (seen_as (query_kind_of query) shown) → Holds s → Tells (Sees caller query)
  tells_shown_query caller query shown seen needs is held = said_shown caller query shown (seen needs) is held

  -- ---- the meaning of a request

  module _ (request : RequestView) where
    abbrev takes : Result Route (Refusal × Option Allow)
    takes = routed request.head.method request.head.target

    abbrev asker : Result Caller Refusal
    asker = who settings s (credentials_of request.head.fields)

    abbrev no_caller : Result Caller Refusal
    no_caller = Err Unavailable

    pub tells_refused : (m : Meant) (why : Refusal) (method : Option Allow) → m ≡ Refuses why method → text ≡ response_of (Refused why method) → Holds s → Tells m
    tells_refused m why method means is held =
        tells_reply m (Refused why method) (ap (λ (n : Meant). reply_to_meant settings s moment n) means) (ap (λ (n : Meant). tables_after settings s moment n) means)
        (λ done. subst (λ (n : Meant). WritesMeant settings.publisher Holds s moment n) (sym means) tt) is held

    pub tells_no_route : (why : Refusal) (method : Option Allow) → takes ≡ Err (why, method) → text ≡ response_of (Refused why method) → Holds s → Tells (meant settings request s)
    tells_no_route why method at is held =
        tells_refused (meant settings request s) why method (ap (λ (r : Result Route (Refusal × Option Allow)). meant_at settings request s r) at) is held

    means : (route : Route) (caller : Result Caller Refusal) → takes ≡ Ok route → asker ≡ caller → meant settings request s ≡ meant_by route request caller
    means route caller at by =
        ap (λ (r : Result Route (Refusal × Option Allow)). meant_at settings request s r) at
        ∙ ap (λ (c : Result Caller Refusal). meant_by route request c) by

    pub tells_nobody : (route : Route) (why : Refusal) → takes ≡ Ok route → (Err why ≡ asker) ⊎ (Err why ≡ no_caller) → text ≡ response_of (Refused why None) → Holds s
        → Tells (meant settings request s)
    tells_nobody route why at (inl by) is held = tells_refused (meant settings request s) why None (means route (Err why) at (sym by)) is held
    tells_nobody route why at (inr wanting) is held = tells_unavailable (meant settings request s) (unavailable_refusal why (cc wanting) is) held

    -- The command or query, or too little memory to read it.
    wanting_asked : (caller : Caller) → NeedsMeant settings s (meant settings request s)
        → (NeedsMeant settings s (meant_asked caller (Err Unavailable)) → Tells (meant_asked caller (Err Unavailable))) → Tells (meant settings request s)
    wanting_asked caller needs tells = from (tells tt)
      where
        from : Tells (meant_asked caller (Err Unavailable)) → Tells (meant settings request s)
        from (true, is, held, done, writes) = tells_unavailable (meant settings request s) is (held refl)
        from (false, is, held, done, writes) = tells_unavailable (meant settings request s) is (held refl)

    pub tells_asked : (route : Route) (caller : Caller) (read : Result Asked Refusal) → takes ≡ Ok route → (Ok caller ≡ asker) ⊎ (Ok caller ≡ no_caller)
        → (read ≡ asked_by_route caller route request) ⊎ (read ≡ Err Unavailable) → NeedsMeant settings s (meant settings request s)
        → (NeedsMeant settings s (meant_asked caller read) → Tells (meant_asked caller read)) → Tells (meant settings request s)
    tells_asked route caller read at (inr never) is needs tells = absurd (cc never)
    tells_asked route caller read at (inl by) (inl is) needs tells =
        let same : meant_asked caller read ≡ meant settings request s = ap (λ (r : Result Asked Refusal). meant_asked caller r) is ∙ sym (means route (Ok caller) at (sym by)) in
        subst (λ (m : Meant). Tells m) same (tells (subst (λ (m : Meant). NeedsMeant settings s m) (sym same) needs))
    tells_asked route caller read at (inl by) (inr is) needs tells =
        wanting_asked caller needs
        (subst (λ (r : Result Asked Refusal). NeedsMeant settings s (meant_asked caller r) → Tells (meant_asked caller r)) is tells)
