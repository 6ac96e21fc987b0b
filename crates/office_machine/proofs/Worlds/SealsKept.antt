-- Two runs that differ only in sealed bytes remain alike.
use Rattle.office_machine.proofs.Names.{◌≡◌, ℕ, Bool, true, false, not, ◌&&◌, List, [], ◌∷◌, Option, Some, None, is_some, option_map, ◌+◌, refl, sym, ◌∙◌, ap, subst, option_and_then, same_id, holds_of, Caller, Refusal, Unavailable, Command, EnvelopeRow, SealRow, published_for, releases_in, Tables, notice_at, find_seal, envelope_at, seal_at, after_puts, ReleaseRow, IsCommand, Means, Given, CanBeGiven, Reaches, time_of, refusal_of, effect, done, next, publication_puts, publication, ChosenTender, is_theirs, AlikeRows, Pairs, AlikeOffices, IsNext, SameBut, Same, Presented, Modified, OpensAlike, Demand, Asks, Looks, Request, given_by_request, reply_by, office_by, accepted_by, reply_to, office_after, accepted_with, IsDemand, AreRequests, Packages, ReleasesHideSeals, PackagesHideSeals, SameDemand, SameRequest, SameButSeals, ToldAlike, opens_it, demand_opens, is_opening, KnowAlike, AlikeUntilOpening, SealsAreKept, equal_ids, each_found}
use Rattle.office_commands.specs.declared.commands.Command.TheVariants as commands
use Rattle.office_machine.specs.Replies.{Refused}
use Rattle.office_machine.proofs.Reached.{steps_reach}
use Rattle.office_machine.proofs.FateLaws.FatesKept.{all_kept}
use Rattle.office_machine.proofs.FateLaws.NextReceipt.{no_envelope_yet, nothing_yet}
use Rattle.office_machine.proofs.Rows.Keyed as keyed
use Rattle.office_machine.proofs.FateLaws.Seen.{after-append}
use Rattle.office_machine.proofs.Rows.SortedTables.{sorted}
use Rattle.office_machine.proofs.Worlds.WorldsKept.{with_own}
use Rattle.office_machine.proofs.Worlds.WorldsSealed.{steps_stay}
use Rattle.office_machine.proofs.Worlds.RepliesAlike.{told_same, but_digests, query_told, command_told}

-- the number of the next receipt is unused
next_free : (means : Means) (xs : List Given) (s : Tables) → Reaches means xs s → IsNext s
next_free means xs s reached = let kept = all_kept means xs s reached in record { envelope = no_envelope_yet means.readings xs s kept; seal = (nothing_yet means.readings xs s kept).no_seal }

-- the put of a release leaves two worlds alike
published : (th : ChosenTender) (p : Option ReleaseRow) (u u' : Tables) → AlikeOffices th u u' → AlikeOffices th (after_puts (publication_puts p) u) (after_puts (publication_puts p) u')
published th None u u' a = a
published th (Some p) u u' a = record { but_sealed = ap (after_puts (publication_puts (Some p))) a.but_sealed; envelopes = a.envelopes; seals = a.seals }

next_alike : (th : ChosenTender) (means : Means) (x x' : Given) → AlikeOffices th (after_puts (effect means.readings x) x.before) (after_puts (effect means.readings x') x'.before) → publication means x' ≡ publication means x
    → AlikeOffices th (next means x) (next means x')
next_alike th means x x' a same =
    subst (λ u. AlikeOffices th u (next means x')) (sym (after-append (effect means.readings x) (publication_puts (publication means x)) x.before))
    (subst (λ u. AlikeOffices th (after_puts (publication_puts (publication means x)) (after_puts (effect means.readings x) x.before)) u)
    (sym (after-append (effect means.readings x') (publication_puts (publication means x')) x'.before ∙ ap (λ p. after_puts (publication_puts p) (after_puts (effect means.readings x') x'.before)) same))
    (published th (publication means x) (after_puts (effect means.readings x) x.before) (after_puts (effect means.readings x') x'.before) a))

-- the tenderers of two worlds are the same
pub know_alike : (th : ChosenTender) (s s' : Tables) → AlikeOffices th s s' → KnowAlike s s'
know_alike th s s' alike = ap (λ (u : Tables). u.tenderers) alike.but_sealed

-- a command that can be given can be given with other bytes
given_too : (th : ChosenTender) (s : Tables) (caller : Caller) (command command' : Command) → SameBut th s caller command command' → IsCommand command → IsCommand command'
given_too th s caller command command' (Same e) h = subst IsCommand e h
given_too th s caller command command' (Presented security bytes bytes' len who is is') h = subst IsCommand is' tt
given_too th s caller command command' (Modified receipt bytes bytes' len who lot is is') h = subst IsCommand is' tt

-- a request that is accepted opens equal seals, if it opens any
abbrev pub FindsAlike : Tables → Tables → Request → Type 0
FindsAlike s s' a = (command : Command) → a.demand ≡ Asks command → a.unavailable ≡ false → refusal_of (given_by_request s a command) ≡ None → OpensAlike command s s'

pub record StepAlike (means : Means) (packages : Packages) (th : ChosenTender) (xs ys : List Given) (s s' : Tables) (a b : Request) : Type 0 where
  pub told : ToldAlike th a.caller (reply_to means packages s a) (reply_to means packages s' b)
  pub reached : Reaches means (accepted_with s a xs) (office_after means s a)
  pub reached' : Reaches means (accepted_with s' b ys) (office_after means s' b)
  pub alike : FindsAlike s s' a → AlikeOffices th (office_after means s a) (office_after means s' b)

module _ (means : Means) (packages : Packages) (publishes : ReleasesHideSeals means) (sees : PackagesHideSeals packages) (th : ChosenTender) where
  module _ (xs ys : List Given) (s : Tables) (es' : List EnvelopeRow) (ss' : List SealRow)
      (reached : Reaches means xs s) (reached' : Reaches means ys (record s { envelopes = es'; seals = ss' }))
      (rows : Pairs (AlikeRows th) s.envelopes es') (seals : (n : ℕ) → holds_of (is_theirs th) (envelope_at n s) ≡ false → seal_at n s ≡ find_seal ss' n) where
    abbrev other : Tables
    other = record s { envelopes = es'; seals = ss' }

    abbrev W : ℕ → Bool
    W n = holds_of (is_theirs th) (envelope_at n s)

    all : Pairs (Rattle.office_machine.proofs.Worlds.WorldsPut.Alike th W) s.envelopes es'
    all = with_own th s s.envelopes es' (each_found keyed.envelopes s.envelopes (sorted means xs s reached).envelopes) rows

    here : AlikeOffices th s other
    here = record { but_sealed = refl; envelopes = rows; seals = seals }

    module _ (moment : ℕ) (caller : Caller) where
      abbrev given : Command → Given
      given command = record { before = s; moment = moment; caller = caller; command = command }

      abbrev given' : Command → Given
      given' command = record { before = other; moment = moment; caller = caller; command = command }

      same_publication : (command command' : Command) → SameBut th s caller command command' → OpensAlike command s other → publication means (given' command') ≡ publication means (given command)
      same_publication command command' (Same e) opens =
          subst (λ c. publication means (given' c) ≡ publication means (given command)) e
          (λ i. option_and_then (λ n. option_map (λ text. record { notice = n; seq = releases_in (notice_at n s) + 1; moment = time_of (given command); text = text }) (publishes (given command) es' ss' (but_digests th s.envelopes es' rows) opens i)) (published_for s command))
      same_publication command command' (Presented security bytes bytes' len who is is') opens =
          subst (λ c. publication means (given' c) ≡ publication means (given command)) is'
          (subst (λ c. publication means (given' (commands.Present th.notice th.lot security bytes')) ≡ publication means (given c)) is refl)
      same_publication command command' (Modified receipt bytes bytes' len who lot is is') opens =
          subst (λ c. publication means (given' c) ≡ publication means (given command)) is'
          (subst (λ c. publication means (given' (commands.Modify receipt bytes')) ≡ publication means (given c)) is refl)

      record OneAlike (command command' : Command) (o o' : Option Refusal) : Type 0 where
        told : ToldAlike th caller (reply_by o means (given command)) (reply_by o' means (given' command'))
        first : Reaches means (accepted_by o (given command) xs) (office_by o means (given command))
        second : Reaches means (accepted_by o' (given' command') ys) (office_by o' means (given' command'))
        alike : (o ≡ None → OpensAlike command s other) → AlikeOffices th (office_by o means (given command)) (office_by o' means (given' command'))

      one : (command command' : Command) → CanBeGiven (given command) → SameBut th s caller command command' → (o o' : Option Refusal) → refusal_of (given command) ≡ o → refusal_of (given' command') ≡ o' → o' ≡ o → OneAlike command command' o o'
      one command command' own same None None allowed allowed' e =
          let step = steps_stay th means.readings s other moment caller command command' (sorted means xs s reached) (sorted means ys other reached') (next_free means xs s reached) (next_free means ys other reached') here same in
          let after : OpensAlike command s other → AlikeOffices th (next means (given command)) (next means (given' command')) = λ opens. next_alike th means (given command) (given' command') (step.alike allowed opens) (same_publication command command' same opens) in
          record {
            told = command_told th W s es' ss' all means.readings (done means.readings (given command)) (done means.readings (given' command')) (time_of (given command)) caller command command' same (step.alike allowed);
            first = steps_reach means xs (given command) reached own allowed;
            second = steps_reach means ys (given' command') reached' (given_too th s caller command command' same own.0, own.1) allowed';
            alike = λ opens. after (opens refl);
          }
      one command command' own same None (Some why) allowed allowed' e = absurd (let clash : Some why ≡ None = e in cc)
      one command command' own same (Some why) None allowed allowed' e = absurd (let clash : None ≡ Some why = e in cc)
      one command command' own same (Some why) (Some why') allowed allowed' e =
          let equal : why' ≡ why = cc in
          record { told = told_same th caller (Refused why) (Refused why') (ap Refused equal); first = reached; second = reached'; alike = λ _. here }

      abbrev request : Bool → Demand → Request
      request unavailable demand = record { moment = moment; caller = caller; demand = demand; unavailable = unavailable }

      step_by : (unavailable : Bool) (d d' : Demand) → IsDemand s (request unavailable d) d → SameDemand th s caller d d' → StepAlike means packages th xs ys s other (request unavailable d) (request unavailable d')
      step_by true d d' own same = record { told = told_same th caller (Refused Unavailable) (Refused Unavailable) refl; reached = reached; reached' = reached'; alike = λ _. here }
      step_by false (Asks command) (Looks query) own same = absurd same
      step_by false (Looks query) (Asks command) own same = absurd same
      step_by false (Looks query) (Looks query') own same = record {
        told =
            subst (λ q. ToldAlike th caller (Rattle.office_machine.specs.Sights.told packages s caller query) (Rattle.office_machine.specs.Sights.told packages other caller q)) same
            (query_told th W s es' ss' all packages sees (but_digests th s.envelopes es' rows) caller query);
        reached = reached;
        reached' = reached';
        alike = λ _. here;
      }
      step_by false (Asks command) (Asks command') own same =
          let step = steps_stay th means.readings s other moment caller command command' (sorted means xs s reached) (sorted means ys other reached') (next_free means xs s reached) (next_free means ys other reached') here same in
          let it = one command command' own same (refusal_of (given command)) (refusal_of (given' command')) refl refl step.refused in
          record { told = it.told; reached = it.first; reached' = it.second; alike = λ finds. it.alike (λ allowed. finds command refl refl allowed) }

  -- one request leaves the worlds alike
  pub step : (xs ys : List Given) (s s' : Tables) → Reaches means xs s → Reaches means ys s' → AlikeOffices th s s' → (a b : Request) → IsDemand s a a.demand → SameRequest th s a b → StepAlike means packages th xs ys s s' a b
  step xs ys s s' reached reached' alike a b own same =
      let form : s' ≡ record s { envelopes = s'.envelopes; seals = s'.seals } = alike.but_sealed in
      let request : b ≡ record { moment = a.moment; caller = a.caller; demand = b.demand; unavailable = a.unavailable } = λ i. record { moment = same.moment i; caller = same.caller i; demand = b.demand; unavailable = same.unavailable i } in
      subst (λ u. StepAlike means packages th xs ys s u a b) (sym form)
      (subst (λ q. StepAlike means packages th xs ys s (record s { envelopes = s'.envelopes; seals = s'.seals }) a q) (sym request)
      (step_by xs ys s s'.envelopes s'.seals reached (subst (Reaches means ys) form reached') alike.envelopes alike.seals a.moment a.caller a.unavailable a.demand b.demand own same.demand))

  -- a command that doesn't open the chosen notice opens equal seals, if it opens any
  opens_others : (s s' : Tables) → AlikeOffices th s s' → (command : Command) → opens_it th command ≡ false → OpensAlike command s s'
  opens_others s s' alike (commands.Open notice) apart = λ r e found of sealed.
      alike.seals r (ap (holds_of (is_theirs th)) found ∙ (ap (λ b. same_id e.tenderer th.who && (b && same_id e.lot th.lot)) (ap (λ k. same_id k th.notice) (equal_ids e.notice notice of) ∙ apart) ∙ none_of (same_id e.tenderer th.who) (same_id e.lot th.lot)))
    where
      none_of : (b c : Bool) → (b && (false && c)) ≡ false
      none_of true c = refl
      none_of false c = refl
  opens_others s s' alike _ apart = tt

  isnt_opened : (b : Bool) (o : Option Refusal) → (b && not (is_some o)) ≡ false → o ≡ None → b ≡ false
  isnt_opened true None e h = e
  isnt_opened true (Some why) e h = cc
  isnt_opened false o e h = refl

  finds : (s s' : Tables) → AlikeOffices th s s' → (a : Request) → is_opening th s a ≡ false → FindsAlike s s' a
  finds s s' alike a closed command is available allowed =
      let now : demand_opens th s a (Asks command) ≡ false = (λ i. not (sym available i) && demand_opens th s a (sym is i)) ∙ closed in
      opens_others s s' alike command (isnt_opened (opens_it th command) (refusal_of (given_by_request s a command)) now allowed)

  run : (xs ys : List Given) (s s' : Tables) → Reaches means xs s → Reaches means ys s' → AlikeOffices th s s' → (rest rest' : List Request) → AreRequests means s rest → SameButSeals means th s rest rest' → AlikeUntilOpening means packages th s s' rest rest'
  run xs ys s s' reached reached' alike [] [] own same = know_alike th s s' alike
  run xs ys s s' reached reached' alike [] (b ∷ rest') own same = absurd same
  run xs ys s s' reached reached' alike (a ∷ rest) [] own same = absurd same
  run xs ys s s' reached reached' alike (a ∷ rest) (b ∷ rest') own same =
      let it = step xs ys s s' reached reached' alike a b own.0 same.0 in
      (know_alike th s s' alike, it.told, λ closed. run (accepted_with s a xs) (accepted_with s' b ys) (office_after means s a) (office_after means s' b) it.reached it.reached' (it.alike (finds s s' alike a closed)) rest rest' own.1 same.1)

pub itself : (th : ChosenTender) (s : Tables) → AlikeOffices th s s
itself th s = record { but_sealed = refl; envelopes = rows s.envelopes; seals = λ n out. refl }
  where
    rows : (es : List EnvelopeRow) → Pairs (AlikeRows th) es es
    rows [] = tt
    rows (e ∷ es) = (record { but_digest = refl; digest = λ _. refl }, rows es)

pub seals_kept : SealsAreKept
seals_kept means packages publishes sees th xs s reached rest rest' own same = run means packages publishes sees th xs xs s s reached reached (itself th s) rest rest' own same
