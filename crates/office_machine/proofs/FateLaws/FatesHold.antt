-- The facts about fates that are true of every reached office, and how commands keep them.
use Rattle.office_machine.proofs.Names.{◌≡◌, ℕ, ◌+◌, Bool, true, false, cond, List, ◌∷◌, Option, Some, None, option_map, max, refl, sym, ap, ◌∙◌, subst, NamedSecurity, Caller, Command, EnvelopeRow, SealRow, SecurityRow, EnvelopeState, SecurityState, is_sealed, is_held, first_of, IsSorted, Tables, envelope_at, seal_at, security_at, after_puts, IsCommand, HaveParents, Given, tests_for, puts_for, Readings, Reception, received_by, received_after, received_at, tender_decided, fate_after, fate_of_tender, security_received, security_decided, security_after, fate_of_security, is_kept, EnvelopeIs, SecurityIs}
use Rattle.office_base.specs.declared.records.EnvelopeState.TheVariants as envelope
use Rattle.office_base.specs.declared.records.SecurityState.TheVariants as security
use Rattle.office_machine.proofs.FateLaws.Views.{IsSound}
use Rattle.office_machine.proofs.FateLaws.Matched.{EnvelopesMatch, EnvelopeKeeps, envelopes_changed, SecuritiesMatch, SecurityKeeps, named_in, securities_changed}
use Rattle.office_machine.proofs.FateLaws.Seen.{seen}

-- the rows of tenders and securities have their fates
pub record HaveFates (readings : Readings) (xs : List Given) (t : Tables) : Type 0 where
  pub sound : IsSound (seen t)
  pub tenders : EnvelopesMatch readings.digest (received_at xs) (fate_of_tender xs) (λ r. seal_at r t) t.clock.receipts (λ r. envelope_at r t)
  pub named : SecuritiesMatch (received_at xs) (fate_of_security xs) (λ s. security_at s t)

-- and the tables are those of a reached office
pub record FatesStand (readings : Readings) (xs : List Given) (t : Tables) : Type 0 where
  pub sound : IsSound (seen t)
  pub tenders : EnvelopesMatch readings.digest (received_at xs) (fate_of_tender xs) (λ r. seal_at r t) t.clock.receipts (λ r. envelope_at r t)
  pub named : SecuritiesMatch (received_at xs) (fate_of_security xs) (λ s. security_at s t)
  pub parents : HaveParents t t
  pub order : IsSorted t

abbrev pub given : Tables → ℕ → Caller → Command → Given
given t m caller command = record { before = t; moment = m; caller = caller; command = command }

abbrev pub Keeps : Readings → Command → Type 0
Keeps readings command = (xs : List Given) (t : Tables) (m : ℕ) (caller : Caller) → FatesStand readings xs t → IsCommand command
    → first_of (tests_for t (max m t.clock.moment) caller command) ≡ None
    → HaveFates readings (given t m caller command ∷ xs) (after_puts (puts_for readings t (max m t.clock.moment) caller command) t)

-- a decided fate remains, and an undecided one is decided now
fate_step : (st : EnvelopeState) (now : Option Reception) (d : EnvelopeState) → fate_after (Some st) now d ≡ Some (cond (is_sealed st) d st)
fate_step envelope.Sealed now d = refl
fate_step envelope.Withdrawn now d = refl
fate_step envelope.Returned now d = refl
fate_step envelope.Opened now d = refl

pub fate_goes : (fate : Option EnvelopeState) (st : EnvelopeState) (now : Option Reception) (d : EnvelopeState) → fate ≡ Some st
    → fate_after fate now d ≡ Some (cond (is_sealed st) d st)
fate_goes fate st now d e = ap (λ f. fate_after f now d) e ∙ fate_step st now d

security_step : (st : SecurityState) (now : Option Reception) (d : SecurityState) → security_after (Some st) now d ≡ Some (cond (is_held st) d st)
security_step security.Held now d = refl
security_step security.Returned now d = refl
security_step security.Forfeited now d = refl

pub security_goes : (fate : Option SecurityState) (st : SecurityState) (now : Option Reception) (d : SecurityState) → fate ≡ Some st
    → security_after fate now d ≡ Some (cond (is_held st) d st)
security_goes fate st now d e = ap (λ f. security_after f now d) e ∙ security_step st now d

pub still_sealed : (st : EnvelopeState) → st ≡ cond (is_sealed st) envelope.Sealed st
still_sealed envelope.Sealed = refl
still_sealed envelope.Withdrawn = refl
still_sealed envelope.Returned = refl
still_sealed envelope.Opened = refl

pub still_held : (st : SecurityState) → st ≡ cond (is_held st) security.Held st
still_held security.Held = refl
still_held security.Returned = refl
still_held security.Forfeited = refl

none_new : (b : Bool) → (let o : Option Reception = cond b None None in o) ≡ None
none_new true = refl
none_new false = refl

-- if the command takes nothing in, the earlier tender remains
pub came_none : (o new : Option Reception) (b : Bool) → new ≡ None → received_after o (cond b new None) ≡ o
came_none None new b e = ap (λ (n : Option Reception). cond b n None) e ∙ none_new b
came_none (Some c) new b e = refl

none_fate : (fate : Option EnvelopeState) (now : Option Reception) (d : EnvelopeState) → fate ≡ None → now ≡ None → fate_after fate now d ≡ None
none_fate fate now d e n = ap (λ f. fate_after f now d) e ∙ ap (λ now. fate_after None now d) n

no_name : (now : Option Reception) → named_in now ≡ None → security_received now ≡ None
no_name None e = refl
no_name (Some c) e = ap (option_map (Rattle.office_machine.specs.Fates.first_security c)) e

none_security : (fate : Option SecurityState) (now : Option Reception) (d : SecurityState) → fate ≡ None → named_in now ≡ None
    → security_after fate now d ≡ None
none_security fate now d e n = ap (λ f. security_after f now d) e ∙ no_name now n

-- a command that takes no tender in
module _ (digest : List ℕ → List ℕ) (xs : List Given) (x : Given) (none : received_by x.command x (λ q. received_at xs q) ≡ None) where
  came_same : (r : ℕ) → received_at (x ∷ xs) r ≡ received_at xs r
  came_same r = came_none (received_at xs r) (received_by x.command x (λ q. received_at xs q)) (Rattle.office_base.specs.Tables.same_number r (x.before.clock.receipts + 1)) none

  module _ (n : ℕ) (E E' : ℕ → Option EnvelopeRow) (K K' : ℕ → Option SealRow) (m : EnvelopesMatch digest (received_at xs) (fate_of_tender xs) K n E)
      (f : ℕ → EnvelopeRow → EnvelopeRow) (keeps : EnvelopeKeeps digest f) (is : (r : ℕ) → E' r ≡ option_map (f r) (E r))
      (goes : (r : ℕ) (e : EnvelopeRow) (c : Reception) → E r ≡ Some e → received_at xs r ≡ Some c → EnvelopeIs digest r c (fate_of_tender xs r) e (K r)
      → (f r e).state ≡ cond (is_sealed e.state) (tender_decided x.command x (received_at xs) r) e.state)
      (seal : (r : ℕ) (e : EnvelopeRow) (c : Reception) → E r ≡ Some e → EnvelopeIs digest r c (fate_of_tender xs r) e (K r)
      → K' r ≡ cond (is_kept (f r e).state) (Some (record { receipt = r; bytes = c.bytes })) None)
      (no_seal : (r : ℕ) → E r ≡ None → K r ≡ None → K' r ≡ None) where
    changed_tenders : EnvelopesMatch digest (received_at (x ∷ xs)) (fate_of_tender (x ∷ xs)) K' n (λ r. option_map (f r) (E r))
    changed_tenders =
        envelopes_changed digest (received_at xs) (received_at (x ∷ xs)) (fate_of_tender xs) (fate_of_tender (x ∷ xs)) K K' n E m f keeps
        came_same
        (λ r e found c came_is stands. record {
          fate_is =
              fate_goes (fate_of_tender xs r) e.state (received_at (x ∷ xs) r) (tender_decided x.command x (received_at xs) r) stands.fate_is
              ∙ sym (ap Some (goes r e c found came_is stands));
          seal_is = seal r e c found stands;
        })
        (λ r found was. record {
          no_reception = came_same r ∙ was.no_reception;
          no_fate =
              none_fate (fate_of_tender xs r) (received_at (x ∷ xs) r) (tender_decided x.command x (received_at xs) r) was.no_fate (came_same r ∙ was.no_reception);
          no_seal = no_seal r found was.no_seal;
        })

    pub tenders_changed : EnvelopesMatch digest (received_at (x ∷ xs)) (fate_of_tender (x ∷ xs)) K' n E'
    tenders_changed = subst (EnvelopesMatch digest (received_at (x ∷ xs)) (fate_of_tender (x ∷ xs)) K' n) (sym (λ i r. is r i)) changed_tenders

  module _ (S S' : ℕ → Option SecurityRow) (m : SecuritiesMatch (received_at xs) (fate_of_security xs) S) (g : ℕ → SecurityRow → SecurityRow)
      (keeps : SecurityKeeps g)
      (is : (s : ℕ) → S' s ≡ option_map (g s) (S s))
      (goes : (s : ℕ) (w : SecurityRow) (c : Reception) (named : NamedSecurity) → S s ≡ Some w → received_at xs s ≡ Some c → SecurityIs s c named (fate_of_security xs s) w
      → (g s w).state ≡ cond (is_held w.state) (security_decided x.command x (received_at xs) s) w.state) where
    changed_named : SecuritiesMatch (received_at (x ∷ xs)) (fate_of_security (x ∷ xs)) (λ s. option_map (g s) (S s))
    changed_named =
        securities_changed (received_at xs) (received_at (x ∷ xs)) (fate_of_security xs) (fate_of_security (x ∷ xs)) S m g keeps
        (λ s w found. came_same s)
        (λ s w found c named came_is named_is stands.
        security_goes (fate_of_security xs s) w.state (received_at (x ∷ xs) s) (security_decided x.command x (received_at xs) s) stands.fate_is
        ∙ sym (ap Some (goes s w c named found came_is stands)))
        (λ s found was. record {
          none_named = ap named_in (came_same s) ∙ was.none_named;
          no_fate =
              none_security (fate_of_security xs s) (received_at (x ∷ xs) s) (security_decided x.command x (received_at xs) s) was.no_fate (ap named_in (came_same s) ∙ was.none_named);
        })

    pub named_changed : SecuritiesMatch (received_at (x ∷ xs)) (fate_of_security (x ∷ xs)) S'
    named_changed = subst (SecuritiesMatch (received_at (x ∷ xs)) (fate_of_security (x ∷ xs))) (sym (λ i s. is s i)) changed_named

map_same : {X : Type 0} (o : Option X) → o ≡ option_map (λ x. x) o
map_same None = refl
map_same (Some x) = refl

pub all_keep : (digest : List ℕ → List ℕ) → EnvelopeKeeps digest (λ r e. e)
all_keep digest = record {
  notice =
      λ r e. refl;
  lot = λ r e. refl;
  tenderer = λ r e. refl;
  security = λ r e. refl;
  moment = λ r e. refl;
  len = λ r e. refl;
  digest = λ r e. refl;
}

pub securities_keep : SecurityKeeps (λ s w. w)
securities_keep = record {
  number =
      λ s w. refl;
  notice = λ s w. refl;
  lot = λ s w. refl;
  tenderer = λ s w. refl;
  reference = λ s w. refl;
  amount = λ s w. refl;
}

-- a command that takes in no tender and decides none leaves the envelopes as they are; if it decides no security, it leaves the securities
module _ (digest : List ℕ → List ℕ) (xs : List Given) (x : Given) (none : received_by x.command x (λ q. received_at xs q) ≡ None) where
  pub tenders_same : (n : ℕ) (E E' : ℕ → Option EnvelopeRow) (K K' : ℕ → Option SealRow) → EnvelopesMatch digest (received_at xs) (fate_of_tender xs) K n E
      → ((r : ℕ) → tender_decided x.command x (received_at xs) r ≡ envelope.Sealed) → ((r : ℕ) → E' r ≡ E r) → ((r : ℕ) → K' r ≡ K r)
      → EnvelopesMatch digest (received_at (x ∷ xs)) (fate_of_tender (x ∷ xs)) K' n E'
  tenders_same n E E' K K' m undecided same seals =
      tenders_changed digest xs x none n E E' K K' m (λ r e. e) (all_keep digest) (λ r. same r ∙ map_same (E r))
      (λ r e c found came_is stands. still_sealed e.state ∙ ap (λ d. cond (is_sealed e.state) d e.state) (sym (undecided r)))
      (λ r e c found stands. seals r ∙ stands.seal_is)
      (λ r found no. seals r ∙ no)

  pub named_same : (S S' : ℕ → Option SecurityRow) → SecuritiesMatch (received_at xs) (fate_of_security xs) S
      → ((s : ℕ) → security_decided x.command x (received_at xs) s ≡ security.Held) → ((s : ℕ) → S' s ≡ S s) → SecuritiesMatch (received_at (x ∷ xs)) (fate_of_security (x ∷ xs)) S'
  named_same S S' m undecided same =
      named_changed digest xs x none S S' m (λ s w. w) securities_keep (λ s. same s ∙ map_same (S s))
      (λ s w c named found came_is stands. still_held w.state ∙ ap (λ d. cond (is_held w.state) d w.state) (sym (undecided s)))
