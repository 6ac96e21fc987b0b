-- One answer to the meaning of a request: a refusal, the response, or `Unavailable`.
use Rattle.office_http.proofs.Names.{◌≡◌, ℕ, ◌⊎◌, inl, inr, true, false, List, ◌∷◌, Option, Some, None, Result, Ok, Err, refl, sym, ap, ◌∙◌, subst, is_none, query_kind_of, Caller, Command, Query, Refusal, Unavailable, Settings, Tables, after_puts, Meaning, Put, Given, IsRegistered, refusal_of, reply_by, KeepsItsReleases, KeepsReleases, KeptStepsReach, ReleasesStayKept, next_with_merges, packages, publishing, IsReached, office_kept, given, Plan, text_of, IsPlan, IsPut, IsSeen, Needs, Allow, Meant, Gives, Sees, IsWholeAfter, StopsAfter, is_accepted, told_as, seen_as, reply_to_meant, tables_after, unavailable_text, Answered, HoldsStanding, response_of, Json}
use Rattle.office_commands.specs.declared.queries.Query.TheVariants as queries
use Rattle.office_machine.specs.Sights.{told}
use Rattle.office_http.specs.declared.reply.Reply as replies
use Rattle.office_http.specs.declared.reply.Reply.TheVariants.{Refused}
use Rattle.office_http.proofs.LeftSteps.{leaves_accepted, leaves_either, stays_refused, stays_unavailable}
use Rattle.office_http.proofs.ToldSteps.{accepted_as, refused_as, told_seen}

-- The text is the response to this refusal, or to `Unavailable`.
abbrev pub TellsRefusal : Refusal → Option Allow → List ℕ → Type 0
TellsRefusal why method text = (text ≡ response_of (Refused why method)) ⊎ (text ≡ unavailable_text)

-- If the refusal is `Unavailable`, the text is the response to `Unavailable`.
pub tells_unavailable : (why : Refusal) (text : List ℕ) → why ≡ Unavailable → TellsRefusal why None text → text ≡ unavailable_text
tells_unavailable why text is (inl tells) = tells ∙ ap (λ (w : Refusal). response_of (Refused w None)) is
tells_unavailable why text is (inr tells) = tells

-- A reached office has everything that a query needs.
has_needed : (settings : Settings) (s : Tables) → IsReached settings.publisher s → (query : Query) → Needs settings.publisher query s
has_needed settings s stands (queries.Releases notice) = stands
has_needed settings s stands (queries.Record notice) = stands
has_needed settings s stands _ = tt

-- An office that keeps its releases keeps those of each command's notice.
its_own : (x : Given) → KeepsReleases x.before → KeepsItsReleases x
its_own x keeps notice is = record { releases = keeps.releases notice; merged = keeps.merged notice }

-- The answer of such an office to a query.
abbrev IsSaid : Settings → Caller → Query → Tables → Result (List ℕ) Refusal → Type 0
IsSaid settings caller query s result = (result ≡ text_of (told (packages settings.publisher) s caller query)) ⊎ (result ≡ Err Unavailable)

module _ {S : Type 0} (M : Meaning S) (settings : Settings) (old new : S) (s : Tables) (moment : ℕ) (text : List ℕ) where
  -- A stop may leave nothing new.
  abbrev pub Stays : Type 0
  Stays = (u : Tables) → M.may_leave new u → M.may_leave old u

  -- The answer is `Unavailable`, and the office stays as it is.
  pub is_unavailable : (m : Meant) → text ≡ unavailable_text → HoldsStanding M settings new s → Stays → Answered M settings old new s moment m text
  is_unavailable m is held stays = (true, is, held, stays_unavailable M settings old new s moment m stays)

  -- The answer is a reply, and the store holds the office after it.
  pub is_told : (t : Tables) (m : Meant) (reply : replies.Reply) → reply_to_meant settings s moment m ≡ reply → tables_after settings s moment m ≡ t
      → text ≡ response_of reply → HoldsStanding M settings new t → StopsAfter M settings old new false s moment m → Answered M settings old new s moment m text
  is_told t m reply replies after is held stops =
      (false, is ∙ ap response_of (sym replies), subst (λ (u : Tables). HoldsStanding M settings new u) (sym after) held, stops)

  -- The answer is a refusal, and the office stays as it is.
  pub is_refused : (m : Meant) (why : Refusal) (method : Option Allow) → reply_to_meant settings s moment m ≡ Refused why method
      → tables_after settings s moment m ≡ s → is_accepted s moment m ≡ false → TellsRefusal why method text → HoldsStanding M settings new s → Stays
      → Answered M settings old new s moment m text
  is_refused m why method replies stands refused (inl is) held stays =
      is_told s m (Refused why method) replies stands is held (stays_refused M settings old new s moment m refused stays)
  is_refused m why method replies stands refused (inr is) held stays = is_unavailable m is held stays

  -- A command that is refused.
  pub command_refused : (caller : Caller) (command : Command) (why : Refusal)
      → (refusal_of (given s moment caller command) ≡ Some why) ⊎ (why ≡ Unavailable) → TellsRefusal why None text → HoldsStanding M settings new s → Stays
      → Answered M settings old new s moment (Gives caller command) text
  command_refused caller command why (inl guarded) tells held stays =
      let x : Given = given s moment caller command in
      is_refused (Gives caller command) why None
      (ap (λ (o : Option Refusal). told_as (reply_by o (publishing settings.publisher) x)) guarded)
      (ap (λ (o : Option Refusal). office_kept o settings.publisher x) guarded)
      (ap (λ (o : Option Refusal). is_none o) guarded)
      tells held stays
  command_refused caller command why (inr is) tells held stays = is_unavailable (Gives caller command) (tells_unavailable why text is tells) held stays

  -- The tables after a command that was planned.
  planned_after : (caller : Caller) (command : Command) (planned : Plan) → IsPlan settings.publisher (given s moment caller command) planned → IsReached settings.publisher s
      → after_puts planned.puts s ≡ tables_after settings s moment (Gives caller command)
  planned_after caller command planned plan stands =
      let x : Given = given s moment caller command in
      ap (λ (ps : List Put). after_puts ps s) (plan.put (its_own x stands.keeps)).puts ∙ ap (λ (o : Option Refusal). office_kept o settings.publisher x) (sym plan.allowed)

  -- The office after a command that was planned. The command joins those that led to the office before it, and its release is kept.
  stands_after : KeptStepsReach → ReleasesStayKept → (caller : Caller) (command : Command) (planned : Plan)
      → IsPlan settings.publisher (given s moment caller command) planned → IsRegistered caller s.tenderers → IsReached settings.publisher s
      → IsReached settings.publisher (next_with_merges settings.publisher (given s moment caller command))
  stands_after reach stay caller command planned plan registered stands =
      let x : Given = given s moment caller command in
      record {
        commands = x ∷ stands.commands;
        reaches = reach settings.publisher stands.commands x stands.reaches (plan.given, registered) plan.allowed;
        keeps = stay settings.publisher stands.commands x stands.reaches (plan.given, registered) plan.allowed (plan.put (its_own x stands.keeps)).reads stands.keeps;
      }

  -- A stop leaves this office.
  whole_after : KeptStepsReach → ReleasesStayKept → (caller : Caller) (command : Command) (planned : Plan)
      → IsPlan settings.publisher (given s moment caller command) planned → IsRegistered caller s.tenderers → IsReached settings.publisher s
      → (u : Tables) → u ≡ after_puts planned.puts s → IsWholeAfter settings s moment (Gives caller command) u
  whole_after reach stay caller command planned plan registered stands u is =
      let x : Given = given s moment caller command in
      let same : u ≡ next_with_merges settings.publisher x = is ∙ ap (λ (ps : List Put). after_puts ps s) (plan.put (its_own x stands.keeps)).puts in (
        is ∙ planned_after caller command planned plan stands,
        subst (IsReached settings.publisher) (sym same) (stands_after reach stay caller command planned plan registered stands),
      )

  -- A command that is done.
  pub command_done : KeptStepsReach → ReleasesStayKept → (caller : Caller) (command : Command) (planned : Plan)
      → IsPlan settings.publisher (given s moment caller command) planned → IsRegistered caller s.tenderers → IsReached settings.publisher s
      → text ≡ response_of (Json planned.reply) → M.holds new (after_puts planned.puts s) → ((u : Tables) → M.may_leave new u → u ≡ after_puts planned.puts s)
      → Answered M settings old new s moment (Gives caller command) text
  command_done reach stay caller command planned plan registered stands is held leaves =
      let x : Given = given s moment caller command in
      let put : IsPut settings.publisher x planned = plan.put (its_own x stands.keeps) in
      let after : HoldsStanding M settings new (next_with_merges settings.publisher x) = (
        subst (λ (ps : List Put). M.holds new (after_puts ps s)) put.puts held,
        stands_after reach stay caller command planned plan registered stands,
      ) in
      is_told (next_with_merges settings.publisher x) (Gives caller command) (Json planned.reply)
      (ap (λ (o : Option Refusal). told_as (reply_by o (publishing settings.publisher) x)) plan.allowed ∙ accepted_as x plan.allowed ∙ ap Json (sym plan.reply))
      (ap (λ (o : Option Refusal). office_kept o settings.publisher x) plan.allowed)
      is after
      (leaves_accepted M settings old new s moment (Gives caller command) (ap (λ (o : Option Refusal). is_none o) plan.allowed)
      (λ u left. whole_after reach stay caller command planned plan registered stands u (leaves u left)))

  -- A command that was planned and isn't done. The office stays as it is, and a stop may leave the whole command.
  pub command_undone : KeptStepsReach → ReleasesStayKept → (caller : Caller) (command : Command) (planned : Plan)
      → IsPlan settings.publisher (given s moment caller command) planned → IsRegistered caller s.tenderers → text ≡ unavailable_text → HoldsStanding M settings new s → ((u : Tables) → M.may_leave new u → M.may_leave old u ⊎ (u ≡ after_puts planned.puts s))
      → Answered M settings old new s moment (Gives caller command) text
  command_undone reach stay caller command planned plan registered is held leaves = (
    true,
    is,
    held,
    leaves_either M settings old new s moment (Gives caller command) (ap (λ (o : Option Refusal). is_none o) plan.allowed)
        (λ u left. elim (leaves u left) [ inl before ↦ inl before | inr whole ↦ inr (whole_after reach stay caller command planned plan registered held.1 u whole) ]),
  )

  -- A query that is refused.
  seen_refused : (caller : Caller) (query : Query) (why : Refusal) → IsSaid settings caller query s (Err why) → TellsRefusal why None text
      → HoldsStanding M settings new s → Stays → Answered M settings old new s moment (Sees caller query) text
  seen_refused caller query why (inl said) tells held stays =
      is_refused (Sees caller query) why None (refused_as (told (packages settings.publisher) s caller query) why said) refl refl tells held stays
  seen_refused caller query why (inr is) tells held stays = is_unavailable (Sees caller query) (tells_unavailable why text (cc) tells) held stays

  pub query_refused : (caller : Caller) (query : Query) (why : Refusal) → IsSeen settings.publisher caller query s (Err why) → TellsRefusal why None text
      → HoldsStanding M settings new s → Stays → Answered M settings old new s moment (Sees caller query) text
  query_refused caller query why seen tells held stays = seen_refused caller query why (seen (has_needed settings s held.1 query)) tells held stays

  -- A query that is answered.
  seen_told : (caller : Caller) (query : Query) (shown : List ℕ) → IsSaid settings caller query s (Ok shown)
      → text ≡ response_of (seen_as (query_kind_of query) shown) → HoldsStanding M settings new s → Stays → Answered M settings old new s moment (Sees caller query) text
  seen_told caller query shown (inl said) is held stays =
      is_told s (Sees caller query) (seen_as (query_kind_of query) shown) (told_seen (packages settings.publisher) s caller query shown said) refl is held stays
  seen_told caller query shown (inr never) is held stays = absurd (cc)

  pub query_told : (caller : Caller) (query : Query) (shown : List ℕ) → IsSeen settings.publisher caller query s (Ok shown)
      → text ≡ response_of (seen_as (query_kind_of query) shown) → HoldsStanding M settings new s → Stays → Answered M settings old new s moment (Sees caller query) text
  query_told caller query shown seen is held stays = seen_told caller query shown (seen (has_needed settings s held.1 query)) is held stays
