-- Refusals at sight.
use Rattle.office_http.proofs.Names.{◌≡◌, ℕ, Bool, true, false, not, ◌||◌, List, Option, Some, None, Result, Ok, Err, if◌then◌else◌, refl, sym, ap, ◌∙◌, subst, Caller, Refusal, is_id, BadKey, Forbidden, Settings, Tables, no_tables, tenderer_at, caller_of, clerk_with_key, is_clerk_name, names_no_tenderer, tenderer_with_key, RequestView, asked_by, may_ask, query_of, routed, Asked, Allow, Route, is_known_at_sight, refused_at_sight, refused_by_route, refused_to, credentials_of, Refuses, meant, meant_asked, meant_at, meant_by, who, response_of}
use Rattle.office_http.specs.declared.reply.Reply.TheVariants.{Refused}

-- ---- the cases of a test

taken_if : {A : Type 0} (b : Bool) (o : Option A) (a : A) → ◌≡◌ {A = Option A} (if b then o else None) (Some a) → (b ≡ true) × (o ≡ Some a)
taken_if true o a is = (refl, is)
taken_if false o a is = absurd (cc is)

taken_else : {A : Type 0} (b : Bool) (o : Option A) (a : A) → ◌≡◌ {A = Option A} (if b then None else o) (Some a) → (b ≡ false) × (o ≡ Some a)
taken_else true o a is = absurd (cc is)
taken_else false o a is = (refl, is)

-- A refusal, with the method of the path if the request has another one.
abbrev Reason : Type 0
Reason = Refusal × Option Allow

module _ (settings : Settings) (request : RequestView) (text : List ℕ) (why : Reason) (at_sight : refused_at_sight settings request ≡ Some why) where
  abbrev taken : Result Route Reason
  taken = routed request.head.method request.head.target

  -- The response is this refusal.
  told_so : (refusal : Refusal) (method : Option Allow) → Some (refusal, method) ≡ Some why → text ≡ response_of (Refused refusal method) → text ≡ response_of (Refused why.0 why.1)
  told_so refusal method same is =
      let e : (refusal, method) ≡ why = cc same in subst (λ (w : Reason). text ≡ response_of (Refused w.0 w.1)) e is

  -- There is no such route.
  pub sight_of_route : (refusal : Refusal) (method : Option Allow) → taken ≡ Err (refusal, method) → text ≡ response_of (Refused refusal method) → text ≡ response_of (Refused why.0 why.1)
  sight_of_route refusal method at is =
      told_so refusal method (sym (ap (λ (r : Result Route Reason). refused_by_route settings request r) at) ∙ at_sight) is

  -- There is a route, and the caller is known at sight.
  known : (route : Route) → taken ≡ Ok route
      → (is_known_at_sight (credentials_of request.head.fields) ≡ true) × (refused_to route (who settings no_tables (credentials_of request.head.fields)) ≡ Some why)
  known route at =
      taken_if {A = Reason} (is_known_at_sight (credentials_of request.head.fields)) (refused_to route (who settings no_tables (credentials_of request.head.fields))) why
      (sym (ap (λ (r : Result Route Reason). refused_by_route settings request r) at) ∙ at_sight)

  -- The caller isn't known.
  pub sight_of_nobody : (route : Route) (refusal : Refusal) → taken ≡ Ok route
      → (is_known_at_sight (credentials_of request.head.fields) ≡ true → (s : Tables) → Err refusal ≡ who settings s (credentials_of request.head.fields))
      → text ≡ response_of (Refused refusal None) → text ≡ response_of (Refused why.0 why.1)
  sight_of_nobody route refusal at asks is =
      let it = known route at in
      told_so refusal None (ap (λ (c : Result Caller Refusal). refused_to route c) (asks it.0 no_tables) ∙ it.1) is

  -- The caller may not use this route.
  pub sight_of_asker : (route : Route) (caller : Caller) (read : Result Asked Refusal) → taken ≡ Ok route
      → (is_known_at_sight (credentials_of request.head.fields) ≡ true → (s : Tables) → Ok caller ≡ who settings s (credentials_of request.head.fields))
      → (may_ask caller route.endpoint ≡ false → read ≡ Err Forbidden) → ((refusal : Refusal) → read ≡ Err refusal → text ≡ response_of (Refused refusal None))
      → text ≡ response_of (Refused why.0 why.1)
  sight_of_asker route caller read at asks forbids tells =
      let it = known route at in
      let right = taken_else {A = Reason} (may_ask caller route.endpoint) (Some (Forbidden, None)) why (ap (λ (c : Result Caller Refusal). refused_to route c) (asks it.0 no_tables) ∙ it.1) in
      told_so Forbidden None right.1 (tells Forbidden (forbids right.0))

-- ---- the meaning of a request that is refused at sight

same_name : (clerk id : Bool) (a b c : Result Caller Refusal) → (clerk || not id) ≡ true
    → ◌≡◌ {A = Result Caller Refusal} (if clerk then a else (if id then b else Err BadKey)) (if clerk then a else (if id then c else Err BadKey))
same_name true id a b c is = refl
same_name false false a b c is = refl
same_name false true a b c is = absurd (cc is)

-- A caller who is known without a look-up is the same to every office.
same_caller : (settings : Settings) (s : Tables) (name key : Option (List ℕ)) → names_no_tenderer name key ≡ true
    → caller_of settings s name key ≡ caller_of settings no_tables name key
same_caller settings s None None is = refl
same_caller settings s None (Some key) is = refl
same_caller settings s (Some name) None is = refl
same_caller settings s (Some name) (Some key) is =
    same_name (is_clerk_name name) (is_id name) (clerk_with_key settings key) (tenderer_with_key name key (tenderer_at name s)) (tenderer_with_key name key (tenderer_at name no_tables)) is

same_who : (settings : Settings) (s : Tables) (values : Result (Option (List ℕ) × Option (List ℕ)) Refusal) → is_known_at_sight values ≡ true
    → who settings s values ≡ who settings no_tables values
same_who settings s (Err why) is = refl
same_who settings s (Ok values) is = same_caller settings s values.0 values.1 is

asker_meant : (route : Route) (request : RequestView) (caller : Result Caller Refusal) (why : Reason) → refused_to route caller ≡ Some why
    → meant_by route request caller ≡ Refuses why.0 why.1
asker_meant route request (Err refusal) why is = let e : (refusal, None) ≡ why = cc is in ap (λ (w : Reason). Refuses w.0 w.1) e
asker_meant route request (Ok caller) why is =
    let it = taken_else {A = Reason} (may_ask caller route.endpoint) (Some (Forbidden, None)) why is in
    let e : (Forbidden, None) ≡ why = cc it.1 in
    ap (λ (b : Bool). meant_asked caller (if b then asked_by route.endpoint route.place (query_of request.head.target) request.body else Err Forbidden)) it.0
    ∙ ap (λ (w : Reason). Refuses w.0 w.1) e

route_meant : (settings : Settings) (request : RequestView) (s : Tables) (route : Result Route Reason) (why : Reason) → refused_by_route settings request route ≡ Some why
    → meant_at settings request s route ≡ Refuses why.0 why.1
route_meant settings request s (Err refusal) why is = let e : refusal ≡ why = cc is in ap (λ (w : Reason). Refuses w.0 w.1) e
route_meant settings request s (Ok route) why is =
    let it = taken_if {A = Reason} (is_known_at_sight (credentials_of request.head.fields)) (refused_to route (who settings no_tables (credentials_of request.head.fields))) why is in
    ap (λ (c : Result Caller Refusal). meant_by route request c) (same_who settings s (credentials_of request.head.fields) it.0)
    ∙ asker_meant route request (who settings no_tables (credentials_of request.head.fields)) why it.1

-- To every office it is this refusal.
pub sight_meant : (settings : Settings) (request : RequestView) (s : Tables) (why : Refusal × Option Allow) → refused_at_sight settings request ≡ Some why
    → meant settings request s ≡ Refuses why.0 why.1
sight_meant settings request s why is = route_meant settings request s (routed request.head.method request.head.target) why is
