-- The refusals that are certain.
use Rattle.office_http.proofs.Names.{◌≡◌, ℕ, ◌⊎◌, inl, inr, Bool, true, false, not, ◌||◌, if◌then◌else◌, List, Option, Some, None, Result, Ok, Err, refl, sym, ap, ◌∙◌, subst, option_map, Caller, Command, Query, Refusal, Forbidden, Unavailable, Settings, Tables, refusal_of, given, takes_memory, text_of, no_packages, RequestView, asked_by, asked_by_route, is_read_at_once, may_ask, query_of, routed, Asked, Allow, Route, is_found, result_err, refusal_meant, takes_none, credentials_of, Meant, Refuses, Gives, Sees, meant, meant_asked, meant_at, meant_by, who, response_of}
use Rattle.office_machine.specs.Sights.{told}
use Rattle.office_http.specs.declared.reply.Reply.TheVariants.{Refused}

-- A refusal, with the method of the path if the request has another one.
abbrev Reason : Type 0
Reason = Refusal × Option Allow

-- A refusal to which the text is the response.
pub certain_refusal : (text : List ℕ) (Rises : Type 0) (s : Tables) (moment : ℕ) (m : Meant) (refusal : Refusal) (method : Option Allow) → m ≡ Refuses refusal method
    → text ≡ response_of (Refused refusal method) → (why : Reason) → refusal_meant s moment m ≡ Some why → takes_none m why.0 ≡ true
    → (text ≡ response_of (Refused why.0 why.1)) ⊎ Rises
certain_refusal text Rises s moment m refusal method means is why refused small =
    let same : (refusal, method) ≡ why = cc (sym (ap (λ (n : Meant). refusal_meant s moment n) means) ∙ refused) in
    inl (subst (λ (w : Reason). text ≡ response_of (Refused w.0 w.1)) same is)

-- ---- a command

-- The refusal in the response is this one.
same_told : {T : Type 0} (text : List ℕ) (refusal why : Refusal) → ◌≡◌ {A = Result T Refusal} (Err refusal) (Err why) → text ≡ response_of (Refused refusal None)
    → text ≡ response_of (Refused why None)
same_told text refusal why same is = let e : refusal ≡ why = cc same in is ∙ ap (λ (w : Refusal). response_of (Refused w None)) e

-- The response has no method of a path.
with_none : (text : List ℕ) (why : Reason) → why.1 ≡ None → text ≡ response_of (Refused why.0 None) → text ≡ response_of (Refused why.0 why.1)
with_none text why none is = is ∙ ap (λ (m : Option Allow). response_of (Refused why.0 m)) (sym none)

module _ (s : Tables) (moment : ℕ) (caller : Caller) (command : Command) where
  takes_no_memory : (why : Refusal) → takes_none (Gives caller command) why ≡ true → takes_memory command why ≡ false
  takes_no_memory why none = by (takes_memory command why) none
    where
      by : (b : Bool) → not b ≡ true → b ≡ false
      by true is = absurd (cc is)
      by false is = refl

  -- The command's own refusal.
  own : (refusal : Option Refusal) (why : Reason) → option_map (λ (w : Refusal). (w, (let none : Option Allow = None in none))) refusal ≡ Some why → (refusal ≡ Some why.0) × (why.1 ≡ None)
  own None why is = absurd (cc is)
  own (Some w) why is = let same : (w, None) ≡ why = cc is in (ap (λ (r : Reason). Some r.0) same, ap (λ (r : Reason). r.1) (sym same))

  -- A refused command gets its refusal, or another one because of a fault.
  pub certain_command : {T : Type 0} (text : List ℕ) (Rises : Type 0) (refusal : Refusal)
      → ((why : Refusal) → refusal_of (given s moment caller command) ≡ Some why → takes_memory command why ≡ false → ◌≡◌ {A = Result T Refusal} (Err refusal) (Err why) ⊎ Rises)
      → text ≡ response_of (Refused refusal None) → (why : Reason) → refusal_meant s moment (Gives caller command) ≡ Some why → takes_none (Gives caller command) why.0 ≡ true
      → (text ≡ response_of (Refused why.0 why.1)) ⊎ Rises
  certain_command text Rises refusal tells is why refused small =
      let it = own (refusal_of (given s moment caller command)) why refused in
      elim (tells why.0 it.0 (takes_no_memory why.0 small)) [
        | inl same ↦ inl (with_none text why it.1 (same_told text refusal why.0 same is))
        | inr rises ↦ inr rises
      ]

  -- An allowed command has no refusal.
  pub nothing_certain : (text : List ℕ) (Rises : Type 0) → refusal_of (given s moment caller command) ≡ None → (why : Reason)
      → refusal_meant s moment (Gives caller command) ≡ Some why → takes_none (Gives caller command) why.0 ≡ true → (text ≡ response_of (Refused why.0 why.1)) ⊎ Rises
  nothing_certain text Rises allowed why refused small =
      let it = own (refusal_of (given s moment caller command)) why refused in
      let never : ◌≡◌ {A = Option Refusal} None (Some why.0) = sym allowed ∙ it.0 in
      absurd (cc never)

-- ---- a query

module _ (s : Tables) (moment : ℕ) (caller : Caller) (query : Query) where
  -- The refusal is the specification's answer to the query.
  is_refusal : (shown : Result (List ℕ) Refusal) (why : Reason) → option_map (λ (w : Refusal). (w, (let none : Option Allow = None in none))) (result_err shown) ≡ Some why
      → (shown ≡ Err why.0) × (why.1 ≡ None)
  is_refusal (Ok text) why is = absurd (cc is)
  is_refusal (Err w) why is = let same : (w, None) ≡ why = cc is in (ap (λ (r : Reason). Err r.0) same, ap (λ (r : Reason). r.1) (sym same))

  -- A query that was refused.
  pub refused_query : {T : Type 0} (text : List ℕ) (Rises : Type 0) (refusal : Refusal)
      → ((why : Refusal) → text_of (told no_packages s caller query) ≡ Err why → ◌≡◌ {A = Result T Refusal} (Err refusal) (Err why) ⊎ Rises)
      → text ≡ response_of (Refused refusal None) → (why : Reason) → refusal_meant s moment (Sees caller query) ≡ Some why → takes_none (Sees caller query) why.0 ≡ true
      → (text ≡ response_of (Refused why.0 why.1)) ⊎ Rises
  refused_query text Rises refusal tells is why refused small =
      let it = is_refusal (text_of (told no_packages s caller query)) why refused in
      elim (tells why.0 it.0) [
        | inl same ↦ inl (with_none text why it.1 (same_told text refusal why.0 same is))
        | inr rises ↦ inr rises
      ]

  -- A query that was answered.
  pub shown_query : {T : Type 0} (text : List ℕ) (Rises : Type 0) (value : T)
      → ((why : Refusal) → text_of (told no_packages s caller query) ≡ Err why → ◌≡◌ {A = Result T Refusal} (Ok value) (Err why) ⊎ Rises)
      → (why : Reason) → refusal_meant s moment (Sees caller query) ≡ Some why → takes_none (Sees caller query) why.0 ≡ true
      → (text ≡ response_of (Refused why.0 why.1)) ⊎ Rises
  shown_query text Rises value tells why refused small =
      let it = is_refusal (text_of (told no_packages s caller query)) why refused in
      elim (tells why.0 it.0) [
        | inl never ↦ absurd (cc never)
        | inr rises ↦ inr rises
      ]

-- ---- the meaning of a request

-- A command or query is read without memory, or the caller may not use the route.
found_read : (request : RequestView) (route : Route) (caller : Caller) (read : Result Asked Refusal)
    → (is_read_at_once route.endpoint request.body ≡ true → read ≡ asked_by_route caller route request) → (may_ask caller route.endpoint ≡ false → read ≡ Err Forbidden)
    → (is_read_at_once route.endpoint request.body || not (may_ask caller route.endpoint)) ≡ true → read ≡ asked_by_route caller route request
found_read request route caller read path forbidden = by (is_read_at_once route.endpoint request.body) (may_ask caller route.endpoint) refl refl
  where
    by : (alone may : Bool) → is_read_at_once route.endpoint request.body ≡ alone → may_ask caller route.endpoint ≡ may → (alone || not may) ≡ true → read ≡ asked_by_route caller route request
    by true may is right found = path is
    by false true is right found = absurd (cc found)
    by false false is right found =
        forbidden right ∙ sym (ap (λ (b : Bool). if b then asked_by route.endpoint route.place (query_of request.head.target) request.body else Err Forbidden) right)

module _ (settings : Settings) (s : Tables) (moment : ℕ) (text : List ℕ) (Rises : Type 0) (request : RequestView) where
  -- The refusal that is certain for this meaning.
  abbrev pub Certain : Meant → Type 0
  Certain m = (why : Reason) → refusal_meant s moment m ≡ Some why → takes_none m why.0 ≡ true → (text ≡ response_of (Refused why.0 why.1)) ⊎ Rises

  abbrev takes : Result Route Reason
  takes = routed request.head.method request.head.target

  abbrev asker : Result Caller Refusal
  asker = who settings s (credentials_of request.head.fields)

  abbrev no_caller : Result Caller Refusal
  no_caller = Err Unavailable

  pub certain_route : (refusal : Refusal) (method : Option Allow) → takes ≡ Err (refusal, method) → text ≡ response_of (Refused refusal method) → Certain (meant settings request s)
  certain_route refusal method at is =
      certain_refusal text Rises s moment (meant settings request s) refusal method (ap (λ (r : Result Route Reason). meant_at settings request s r) at) is

  means : (route : Route) (caller : Result Caller Refusal) → takes ≡ Ok route → asker ≡ caller → meant settings request s ≡ meant_by route request caller
  means route caller at by =
      ap (λ (r : Result Route Reason). meant_at settings request s r) at ∙ ap (λ (c : Result Caller Refusal). meant_by route request c) by

  pub certain_nobody : (route : Route) (refusal : Refusal) → takes ≡ Ok route → (Err refusal ≡ asker) ⊎ (Err refusal ≡ no_caller) → (Err refusal ≡ no_caller → Rises)
      → text ≡ response_of (Refused refusal None) → Certain (meant settings request s)
  certain_nobody route refusal at (inl by) risen is why refused small =
      certain_refusal text Rises s moment (meant settings request s) refusal None (means route (Err refusal) at (sym by)) is why refused small
  certain_nobody route refusal at (inr wanting) risen is why refused small = inr (risen wanting)

  pub certain_asked : (route : Route) (caller : Caller) (read : Result Asked Refusal) → takes ≡ Ok route → (Ok caller ≡ asker) ⊎ (Ok caller ≡ no_caller)
      → (is_read_at_once route.endpoint request.body ≡ true → read ≡ asked_by_route caller route request) → (may_ask caller route.endpoint ≡ false → read ≡ Err Forbidden)
      → is_found request.body takes asker ≡ true → Certain (meant_asked caller read) → Certain (meant settings request s)
  certain_asked route caller read at (inr never) path forbidden found certain = absurd (cc never)
  certain_asked route caller read at (inl by) path forbidden found certain =
      let here : is_found request.body takes asker ≡ is_found request.body (Ok route) (Ok caller) =
      ap (λ (r : Result Route Reason). is_found request.body r asker) at ∙ ap (λ (c : Result Caller Refusal). is_found request.body (Ok route) c) (sym by) in
      let is : read ≡ asked_by_route caller route request = found_read request route caller read path forbidden (sym here ∙ found) in
      subst (λ (m : Meant). Certain m) (ap (λ (r : Result Asked Refusal). meant_asked caller r) is ∙ sym (means route (Ok caller) at (sym by))) certain
