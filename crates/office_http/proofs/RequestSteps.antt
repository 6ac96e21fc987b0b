-- From a request to its answer: the route, the caller, and the command or query.
use Rattle.office_http.proofs.Names.{◌≡◌, ℕ, ◌⊎◌, inl, inr, true, false, List, Option, None, Result, Ok, Err, sym, ap, ◌∙◌, subst, IfOk, Caller, Refusal, Unavailable, Publisher, Settings, Tables, Meaning, RequestView, CanBeAsked, asked_by_route, routed, Asked, Allow, Route, credentials_of, Meant, Refuses, Gives, Sees, meant, meant_at, meant_by, meant_asked, who, GivesWhole, IsRefusedText, ShowsMeant, is_accepted, reply_to_meant, tables_after, Answered, CanBeMeant, HoldsStanding}
use Rattle.office_http.proofs.AnswerSteps.{TellsRefusal, is_refused, is_unavailable, tells_unavailable}
use Rattle.office_http.proofs.KnownCallers.{IsKnown, IsRead, who_known}
use Rattle.office_http.proofs.MeantSteps.{asked_can}

module _ {S : Type 0} (M : Meaning S) (settings : Settings) (old new : S) (s : Tables) (moment : ℕ) (text : List ℕ) (request : RequestView) where
  -- The route, or its refusal.
  abbrev pub taken : Result Route (Refusal × Option Allow)
  taken = routed request.head.method request.head.target

  -- The caller, or the refusal.
  abbrev pub asker : Result Caller Refusal
  asker = who settings s (credentials_of request.head.fields)

  abbrev pub unavailable_caller : Result Caller Refusal
  unavailable_caller = Err Unavailable

  -- There is no such route.
  pub route_refused : (why : Refusal) (method : Option Allow) → taken ≡ Err (why, method) → TellsRefusal why method text → HoldsStanding M settings new s
      → ((u : Tables) → M.may_leave new u → M.may_leave old u) → Answered M settings old new s moment (meant settings request s) text
  route_refused why method is tells held stays =
      is_refused M settings old new s moment text (meant settings request s) why method
      (ap (λ (r : Result Route (Refusal × Option Allow)). reply_to_meant settings s moment (meant_at settings request s r)) is)
      (ap (λ (r : Result Route (Refusal × Option Allow)). tables_after settings s moment (meant_at settings request s r)) is)
      (ap (λ (r : Result Route (Refusal × Option Allow)). is_accepted s moment (meant_at settings request s r)) is)
      tells held stays

  -- The meaning, by the route and the caller.
  pub meant_is : (route : Route) (caller : Result Caller Refusal) → taken ≡ Ok route → asker ≡ caller → meant settings request s ≡ meant_by route request caller
  meant_is route caller at by =
      ap (λ (r : Result Route (Refusal × Option Allow)). meant_at settings request s r) at
      ∙ ap (λ (c : Result Caller Refusal). meant_by route request c) by

  -- The caller is refused.
  pub caller_refused : (route : Route) (why : Refusal) → taken ≡ Ok route → (Err why ≡ asker) ⊎ (Err why ≡ unavailable_caller) → TellsRefusal why None text
      → HoldsStanding M settings new s → ((u : Tables) → M.may_leave new u → M.may_leave old u) → Answered M settings old new s moment (meant settings request s) text
  caller_refused route why at (inl by) tells held stays =
      let is = meant_is route (Err why) at (sym by) in
      is_refused M settings old new s moment text (meant settings request s) why None
      (ap (λ (m : Meant). reply_to_meant settings s moment m) is)
      (ap (λ (m : Meant). tables_after settings s moment m) is)
      (ap (λ (m : Meant). is_accepted s moment m) is)
      tells held stays
  caller_refused route why at (inr is) tells held stays =
      is_unavailable M settings old new s moment text (meant settings request s) (tells_unavailable why text (cc) tells) held stays

  -- The caller is known.
  caller_known : (caller : Caller) → Ok caller ≡ asker → IsRead (IsKnown s) (Ok caller)
  caller_known caller by = subst (λ (c : Result Caller Refusal). IsRead (IsKnown s) c) (sym by) (who_known settings s (credentials_of request.head.fields))

  -- The answer to a command or query that couldn't be read because memory is too small.
  wanting : (caller : Caller) → Answered M settings old new s moment (meant_asked caller (Err Unavailable)) text
      → Answered M settings old new s moment (meant settings request s) text
  wanting caller (true, is, held, stops) = is_unavailable M settings old new s moment text (meant settings request s) is held stops
  wanting caller (false, is, held, stops) = is_unavailable M settings old new s moment text (meant settings request s) is held stops

  read_answered : (route : Route) (caller : Caller) (read : Result Asked Refusal) → taken ≡ Ok route → Ok caller ≡ asker
      → (read ≡ asked_by_route caller route request) ⊎ (read ≡ Err Unavailable) → Answered M settings old new s moment (meant_asked caller read) text
      → Answered M settings old new s moment (meant settings request s) text
  read_answered route caller read at by (inl is) answered =
      subst (λ (m : Meant). Answered M settings old new s moment m text)
      (ap (λ (r : Result Asked Refusal). meant_asked caller r) is ∙ sym (meant_is route (Ok caller) at (sym by)))
      answered
  read_answered route caller read at by (inr is) answered =
      wanting caller (subst (λ (r : Result Asked Refusal). Answered M settings old new s moment (meant_asked caller r) text) is answered)

  -- The command or query is answered.
  pub asked_answered : (route : Route) (caller : Caller) (read : Result Asked Refusal) → taken ≡ Ok route
      → (Ok caller ≡ asker) ⊎ (Ok caller ≡ unavailable_caller) → (read ≡ asked_by_route caller route request) ⊎ (read ≡ Err Unavailable)
      → IfOk read CanBeAsked → (CanBeMeant s (meant_asked caller read) → Answered M settings old new s moment (meant_asked caller read) text)
      → Answered M settings old new s moment (meant settings request s) text
  asked_answered route caller read at (inr never) is can answered = absurd (cc)
  asked_answered route caller read at (inl by) is can answered =
      read_answered route caller read at by is (answered (asked_can s caller read (caller_known caller by) can))

-- ---- the rows that an answer shows

-- The text of a refusal shows nothing, whatever the meaning is.
pub refused_shows : (publisher : Publisher) (m : Meant) (s : Tables) (text : List ℕ) → IsRefusedText text → ShowsMeant publisher m s text
refused_shows publisher (Refuses why method) s text refused = refused
refused_shows publisher (Gives caller command) s text refused = tt
refused_shows publisher (Sees caller query) s text refused = inr refused

pub tells_some : (why : Refusal) (method : Option Allow) (text : List ℕ) → TellsRefusal why method text → IsRefusedText text
tells_some why method text (inl is) = (why, method, is)
tells_some why method text (inr is) = (Unavailable, None, is)

module _ (settings : Settings) (s : Tables) (text : List ℕ) (request : RequestView) (route : Route) (caller : Caller) (read : Result Asked Refusal) where
  read_shown : routed request.head.method request.head.target ≡ Ok route → Ok caller ≡ who settings s (credentials_of request.head.fields)
      → (read ≡ asked_by_route caller route request) ⊎ (read ≡ Err Unavailable) → ShowsMeant settings.publisher (meant_asked caller read) s text → ShowsMeant settings.publisher (meant settings request s) s text
  read_shown at by (inl is) shown =
      subst (λ (m : Meant). ShowsMeant settings.publisher m s text)
      (ap (λ (r : Result Asked Refusal). meant_asked caller r) is
      ∙ sym (ap (λ (r : Result Route (Refusal × Option Allow)). meant_at settings request s r) at ∙ ap (λ (c : Result Caller Refusal). meant_by route request c) (sym by)))
      shown
  read_shown at by (inr is) shown =
      refused_shows settings.publisher (meant settings request s) s text (subst (λ (r : Result Asked Refusal). ShowsMeant settings.publisher (meant_asked caller r) s text) is shown)

  -- The answer to the query shows rows that exist.
  pub asked_shown : routed request.head.method request.head.target ≡ Ok route
      → (Ok caller ≡ who settings s (credentials_of request.head.fields)) ⊎ (let none : Result Caller Refusal = Err Unavailable in Ok caller ≡ none)
      → (read ≡ asked_by_route caller route request) ⊎ (read ≡ Err Unavailable) → ShowsMeant settings.publisher (meant_asked caller read) s text → ShowsMeant settings.publisher (meant settings request s) s text
  asked_shown at (inl by) is shown = read_shown at by is shown
  asked_shown at (inr never) is shown = absurd (cc)

  -- A command that was read is the command of the request.
  read_gives : routed request.head.method request.head.target ≡ Ok route → Ok caller ≡ who settings s (credentials_of request.head.fields)
      → (read ≡ asked_by_route caller route request) ⊎ (read ≡ Err Unavailable) → GivesWhole s (meant_asked caller read) → GivesWhole s (meant settings request s)
  read_gives at by (inl is) gives =
      subst (GivesWhole s)
      (ap (λ (r : Result Asked Refusal). meant_asked caller r) is
      ∙ sym (ap (λ (r : Result Route (Refusal × Option Allow)). meant_at settings request s r) at ∙ ap (λ (c : Result Caller Refusal). meant_by route request c) (sym by)))
      gives
  read_gives at by (inr is) gives = absurd (subst (λ (r : Result Asked Refusal). GivesWhole s (meant_asked caller r)) is gives)

  pub asked_gives : routed request.head.method request.head.target ≡ Ok route
      → (Ok caller ≡ who settings s (credentials_of request.head.fields)) ⊎ (let none : Result Caller Refusal = Err Unavailable in Ok caller ≡ none)
      → (read ≡ asked_by_route caller route request) ⊎ (read ≡ Err Unavailable) → GivesWhole s (meant_asked caller read) → GivesWhole s (meant settings request s)
  asked_gives at (inl by) is gives = read_gives at by is gives
  asked_gives at (inr never) is gives = absurd (cc)
