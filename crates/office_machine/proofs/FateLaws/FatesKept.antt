-- Every accepted command keeps the fates, so they are right in every reached office.
use Rattle.office_machine.proofs.Names.{◌≡◌, ℕ, ◌+◌, ◌≤◌, ◌<◌, ◌⊎◌, true, false, List, [], ◌∷◌, Option, Some, None, is_some, refl, sym, subst, inl, inr, arith, row_at, EnvelopeRow, SealRow, SecurityRow, EnvelopeState, SecurityState, Tables, no_tables, envelope_key, envelope_at, seal_at, security_at, after_puts, Given, Means, Reaches, effect, publication_puts, publication, with_merges, CompiledRow, Reception, received_at, fate_of_tender, fate_of_security, TenderIs, NamedIs, HasFate, TendersAreKept, SecuritiesAreKept}
use Rattle.office_machine.proofs.FateLaws.Matched.{EnvelopeStands, NoneStands, SecurityStands, named_in}
use Rattle.office_machine.proofs.FateLaws.Seen.{after-append}
use Rattle.office_machine.proofs.FateLaws.FatesHold.{FatesStand, HaveFates}
use Rattle.office_machine.proofs.FateLaws.QuietFates.{publication_keeps}
use Rattle.office_machine.proofs.Commands.{lawful}
use Rattle.office_machine.proofs.Runs.{along}
use Rattle.office_machine.proofs.Passed.{allowed_by}
use Rattle.office_machine.proofs.Parents.ParentsThere.{parents_there}
use Rattle.office_machine.proofs.Rows.SortedTables.{sorted}
use Rattle.office_machine.proofs.Rows.Numbered.{FindsAll, keys_are}

nothing : {X : Type 0} {A : Type 0} (x : X) → None ≡ Some x → A
nothing x h = absurd cc

start : (means : Means) → HaveFates means.readings [] no_tables
unfolding row_at
start means = record {
  sound = record {
    envelopes = λ r e h. nothing e h;
    homed = λ k l h. nothing l h;
    undecided = λ k l receiving h. nothing l h;
    securities = λ s w h held. nothing w h;
    awards = λ a w h active. nothing w h;
    one_award = λ a b v w hv hw av aw n l. nothing v hv;
  };
  tenders = record {
    received = λ r e h. nothing e h;
    others = λ r h. record { no_reception = refl; no_fate = refl; no_seal = refl };
    given = λ r e h. nothing e h;
    all = λ r h. zero_or_more r;
  };
  named = record { there = λ s w h. nothing w h; none = λ s h. record { none_named = refl; no_fate = refl } };
} where
  zero_or_more : (r : ℕ) → (0 < r) ⊎ (r ≡ 0)
  zero_or_more r = grind arith

-- merges of releases beside the office don't change the fates
kept_beside : (means : Means) (merges : List CompiledRow) (xs : List Given) (t : Tables) → HaveFates means.readings xs t → HaveFates means.readings xs (with_merges merges t)
kept_beside means merges xs t k = record { sound = k.sound; tenders = k.tenders; named = k.named }

-- in a reached office
stands : (means : Means) (xs : List Given) (t : Tables) → Reaches means xs t → HaveFates means.readings xs t → FatesStand means.readings xs t
stands means xs t reached h = record { sound = h.sound; tenders = h.tenders; named = h.named; parents = parents_there means xs t reached; order = sorted means xs t reached }

have_fates : (means : Means) (xs : List Given) (t : Tables) → Reaches means xs t → HaveFates means.readings xs t
have_fates means = along means (HaveFates means.readings) (start means) (λ merges in_order xs t of_notices. kept_beside means merges xs t)
    (λ xs x accepted kept. subst (HaveFates means.readings (x ∷ xs))
    (sym (after-append (effect means.readings x) (publication_puts (publication means x)) x.before))
    (publication_keeps means.readings (x ∷ xs) (after_puts (effect means.readings x) x.before) (publication means x)
    ((lawful x.command).fates means.readings xs x.before x.moment x.caller (stands means xs x.before accepted.reached kept) accepted.given.0 (allowed_by x accepted.allowed))))

pub all_kept : (means : Means) (xs : List Given) (t : Tables) → Reaches means xs t → FatesStand means.readings xs t
all_kept means xs t reached = stands means xs t reached (have_fates means xs t reached)

tender_there : (digest : List ℕ → List ℕ) (r : ℕ) (o : Option Reception) (fate : Option EnvelopeState) (e : EnvelopeRow) (seal : Option SealRow)
    → EnvelopeStands digest r o fate e seal
    → TenderIs digest r o fate (Some e) seal
tender_there digest r o fate e seal is = subst (λ o. TenderIs digest r o fate (Some e) seal) (sym is.came_is) is.stands

tender_not : (digest : List ℕ → List ℕ) (r : ℕ) (o : Option Reception) (fate : Option EnvelopeState) (seal : Option SealRow)
    → NoneStands digest o fate seal → TenderIs digest r o fate None seal
tender_not digest r o fate seal is = subst (λ o. TenderIs digest r o fate None seal) (sym is.no_reception) (is.no_fate, is.no_seal)

tender_by : (means : Means) (xs : List Given) (t : Tables) → FatesStand means.readings xs t → (r : ℕ) (o : Option EnvelopeRow) → envelope_at r t ≡ o
    → TenderIs means.readings.digest r (received_at xs r) (fate_of_tender xs r) o (seal_at r t)
tender_by means xs t kept r None at = tender_not means.readings.digest r (received_at xs r) (fate_of_tender xs r) (seal_at r t) (kept.tenders.others r at)
tender_by means xs t kept r (Some e) at = tender_there means.readings.digest r (received_at xs r) (fate_of_tender xs r) e (seal_at r t) (kept.tenders.received r e at)

envelope_there : (means : Means) (xs : List Given) (t : Tables) → FatesStand means.readings xs t → (q : ℕ) → 1 ≤ q → q < 1 + t.clock.receipts
    → (o : Option EnvelopeRow) → envelope_at q t ≡ o → is_some o ≡ true
envelope_there means xs t kept q low high None at = out (kept.tenders.all q at)
  where
    out : (t.clock.receipts < q) ⊎ (q ≡ 0) → false ≡ true
    out (inl more) = absurd (omega (arith, more, high))
    out (inr none) = absurd (omega (arith, none, low))
envelope_there means xs t kept q low high (Some e) at = refl

finds : (means : Means) (xs : List Given) (t : Tables) → FatesStand means.readings xs t → FindsAll envelope_key 1 t.clock.receipts t.envelopes
finds means xs t kept = record {
  here = λ q low high. envelope_there means xs t kept q low high (envelope_at q t) refl;
  nowhere = λ q e at. let given = kept.tenders.given q e at in (given.0, omega (arith, given.1));
}

pub tenders_kept : TendersAreKept
tenders_kept means xs t reached =
    let kept = all_kept means xs t reached in
    record {
      numbered = keys_are envelope_key t.clock.receipts 1 t.envelopes kept.order.envelopes (finds means xs t kept);
      each = λ r. tender_by means xs t kept r (envelope_at r t) refl;
      seals_in_order = kept.order.seals;
    }

named_there : (s : ℕ) (o : Option Reception) (fate : Option SecurityState) (w : SecurityRow) → SecurityStands s o fate w → HasFate s o fate (Some w)
named_there s o fate w is =
    subst (λ o. HasFate s o fate (Some w)) (sym is.came_is) (subst (λ n. NamedIs s is.came_with n fate (Some w)) (sym is.named_is) is.stands)

named_not : (s : ℕ) (o : Option Reception) (fate : Option SecurityState) → named_in o ≡ None → fate ≡ None → HasFate s o fate None
named_not s None fate none no_fate = no_fate
named_not s (Some c) fate none no_fate = subst (λ n. NamedIs s c n fate None) (sym none) no_fate

security_by : (means : Means) (xs : List Given) (t : Tables) → FatesStand means.readings xs t → (s : ℕ) (o : Option SecurityRow) → security_at s t ≡ o
    → HasFate s (received_at xs s) (fate_of_security xs s) o
security_by means xs t kept s None at = let is = kept.named.none s at in named_not s (received_at xs s) (fate_of_security xs s) is.none_named is.no_fate
security_by means xs t kept s (Some w) at = named_there s (received_at xs s) (fate_of_security xs s) w (kept.named.there s w at)

pub securities_kept : SecuritiesAreKept
securities_kept means xs t reached =
    let kept = all_kept means xs t reached in
    record { each = λ s. security_by means xs t kept s (security_at s t) refl; in_order = kept.order.securities }
