-- An office remains sound when rows are added.
use Rattle.office_machine.proofs.Names.{◌≡◌, ℕ, ◌⊎◌, Bool, true, false, cond, List, Option, Some, None, is_some, refl, sym, ap, ◌∙◌, subst, inl, inr, nat_cmp, is_eq, eq_by_cmp, nat_cmp-IsAntisymmetric, Ordering, Less, Equal, Greater, EnvelopeRow, SecurityRow, AwardRow, LotState, NoticeState}
use Rattle.office_machine.proofs.Rows.Counting.{is_live}
use Rattle.office_base.specs.declared.records.SecurityState.TheVariants as security
use Rattle.office_base.specs.declared.records.AwardState.TheVariants as award
use Rattle.office_base.specs.declared.records.LotState.TheVariants as lot
use Rattle.office_base.specs.declared.records.NoticeState.TheVariants as notice
use Rattle.office_machine.proofs.FateLaws.Views.{View, EnvelopeFits, AwardFits, IsSound, live_lot}

-- a look-up that also finds one more row
abbrev pub added : {X : Type 0} → ℕ → X → (ℕ → Option X) → ℕ → Option X
added k x f q = cond (eq_by_cmp nat_cmp q k) (Some x) (f q)

equal_test : (c : Ordering) → is_eq c ≡ true → c ≡ Equal
equal_test Less e = cc
equal_test Equal e = refl
equal_test Greater e = cc

pub equal_numbers : (a b : ℕ) → eq_by_cmp nat_cmp a b ≡ true → a ≡ b
equal_numbers a b e = nat_cmp-IsAntisymmetric a b (equal_test (nat_cmp a b) e)

added_by : {X : Type 0} (q k : ℕ) (x y : X) (f : ℕ → Option X) (b : Bool) → eq_by_cmp nat_cmp q k ≡ b → cond b (Some x) (f q) ≡ Some y
    → ((q ≡ k) × (x ≡ y)) ⊎ ((eq_by_cmp nat_cmp q k ≡ false) × (f q ≡ Some y))
added_by q k x y f true e h = inl (equal_numbers q k e, let same : Some x ≡ Some y = h in cc)
added_by q k x y f false e h = inr (e, h)

-- the found row is the new one, or one from before
pub added_is : {X : Type 0} (q k : ℕ) (x y : X) (f : ℕ → Option X) → added k x f q ≡ Some y
    → ((q ≡ k) × (x ≡ y)) ⊎ ((eq_by_cmp nat_cmp q k ≡ false) × (f q ≡ Some y))
added_is q k x y f h = added_by q k x y f (eq_by_cmp nat_cmp q k) refl h

there_by : {X : Type 0} (q k : ℕ) (x y : X) (f : ℕ → Option X) → f k ≡ None → f q ≡ Some y → (b : Bool) → eq_by_cmp nat_cmp q k ≡ b
    → cond b (Some x) (f q) ≡ Some y
there_by q k x y f none h true e = let same : f q ≡ None = ap f (equal_numbers q k e) ∙ none in cc
there_by q k x y f none h false e = h

-- if the row is new, earlier rows are still found
pub there_still : {X : Type 0} (q k : ℕ) (x y : X) (f : ℕ → Option X) → f k ≡ None → f q ≡ Some y → added k x f q ≡ Some y
there_still q k x y f none h = there_by q k x y f none h (eq_by_cmp nat_cmp q k) refl

module _ (k : ℕ) (x : EnvelopeRow) (V : View) (sound : IsSound V) (new : V.envelope_at k ≡ None) (fits : EnvelopeFits V x) where
  abbrev with_it : View
  with_it = record V { envelope_at = added k x V.envelope_at }

  fits_still : (e : EnvelopeRow) → EnvelopeFits V e → EnvelopeFits with_it e
  fits_still e old = record {
    noticed = old.noticed;
    housed = old.housed;
    receiving = old.receiving;
    secured = λ s h.
        let is = old.secured s h in record { row = is.row; found = is.found; of_notice = is.of_notice; of_lot = is.of_lot };
  }

  award_still : (w : AwardRow) → AwardFits V w → AwardFits with_it w
  award_still w old = record {
    tender = old.tender;
    found = there_still w.receipt k x old.tender V.envelope_at new old.found;
    opened = old.opened;
    of_notice = old.of_notice;
    of_lot = old.of_lot;
    awarded = old.awarded;
  }

  pub sound_envelope : IsSound with_it
  sound_envelope = record {
    envelopes = λ r e h.
        elim (added_is r k x e V.envelope_at h) as (λ _. EnvelopeFits with_it e) [
          | inl it ↦ subst (EnvelopeFits with_it) it.1 (fits_still x fits)
          | inr old ↦ fits_still e (sound.envelopes r e old.1)
        ];
    homed = sound.homed;
    undecided = sound.undecided;
    securities = sound.securities;
    awards = λ a w h active. award_still w (sound.awards a w h active);
    one_award = sound.one_award;
  }

module _ (k : ℕ) (x : SecurityRow) (V : View) (sound : IsSound V) (new : V.security_at k ≡ None)
    (live : x.state ≡ security.Held → is_live (V.lot_at (x.notice, x.lot)) ≡ true) where
  abbrev with_security : View
  with_security = record V { security_at = added k x V.security_at }

  secured_fits : (e : EnvelopeRow) → EnvelopeFits V e → EnvelopeFits with_security e
  secured_fits e old = record {
    noticed = old.noticed;
    housed = old.housed;
    receiving = old.receiving;
    secured = λ s h.
        let is = old.secured s h in
        record { row = is.row; found = there_still s k x is.row V.security_at new is.found; of_notice = is.of_notice; of_lot = is.of_lot };
  }

  pub sound_security : IsSound with_security
  sound_security = record {
    envelopes = λ r e h. secured_fits e (sound.envelopes r e h);
    homed = sound.homed;
    undecided = sound.undecided;
    securities = λ s w h held.
        elim (added_is s k x w V.security_at h) as (λ _. is_live (V.lot_at (w.notice, w.lot)) ≡ true) [
          | inl it ↦ subst (λ (w : SecurityRow). is_live (V.lot_at (w.notice, w.lot)) ≡ true) it.1 (live (ap (λ (x : SecurityRow). x.state) it.1 ∙ held))
          | inr old ↦ sound.securities s w old.1 held
        ];
    awards = λ a w h active.
        let old = sound.awards a w h active in
        record { tender = old.tender; found = old.found; opened = old.opened; of_notice = old.of_notice; of_lot = old.of_lot; awarded = old.awarded };
    one_award = sound.one_award;
  }

module _ (k : ℕ) (x : AwardRow) (V : View) (sound : IsSound V) (fits : AwardFits V x)
    (alone : (a : ℕ) (w : AwardRow) → V.award_at a ≡ Some w → w.state ≡ award.Active → w.notice ≡ x.notice → w.lot ≡ x.lot → ⊥) where
  abbrev with_award : View
  with_award = record V { award_at = added k x V.award_at }

  award_fits : (w : AwardRow) → AwardFits V w → AwardFits with_award w
  award_fits w old = record {
    tender =
        old.tender;
    found = old.found;
    opened = old.opened;
    of_notice = old.of_notice;
    of_lot = old.of_lot;
    awarded = old.awarded;
  }

  pub sound_award : IsSound with_award
  sound_award = record {
    envelopes = λ r e h.
        let old = sound.envelopes r e h in
        record {
          noticed = old.noticed;
          housed = old.housed;
          receiving = old.receiving;
          secured = λ s h.
              let is = old.secured s h in record { row = is.row; found = is.found; of_notice = is.of_notice; of_lot = is.of_lot };
        };
    homed = sound.homed;
    undecided = sound.undecided;
    securities = sound.securities;
    awards = λ a w h active.
        elim (added_is a k x w V.award_at h) as (λ _. AwardFits with_award w) [
          | inl it ↦ subst (AwardFits with_award) it.1 (award_fits x fits)
          | inr old ↦ award_fits w (sound.awards a w old.1 active)
        ];
    one_award = λ a b v w hv hw av aw n l.
        elim (added_is a k x v V.award_at hv) as (λ _. a ≡ b) [
          | inl p ↦
              elim (added_is b k x w V.award_at hw) as (λ _. a ≡ b) [
                | inl q ↦ p.0 ∙ sym q.0
                | inr q ↦ absurd (alone b w q.1 aw (sym n ∙ sym (ap (λ (x : AwardRow). x.notice) p.1)) (sym l ∙ sym (ap (λ (x : AwardRow). x.lot) p.1)))
              ]
          | inr p ↦
              elim (added_is b k x w V.award_at hw) as (λ _. a ≡ b) [
                | inl q ↦ absurd (alone a v p.1 av (n ∙ sym (ap (λ (x : AwardRow). x.notice) q.1)) (l ∙ sym (ap (λ (x : AwardRow). x.lot) q.1)))
                | inr q ↦ sound.one_award a b v w p.1 q.1 av aw n l
              ]
        ];
  }

-- a notice is published with its lots
module _ (n : List ℕ) (N : List ℕ → Option NoticeState) (L : List ℕ × List ℕ → Option LotState) (V : View) (sound : IsSound V)
    (new : V.notice_at n ≡ None) (here : N n ≡ Some notice.Receiving) (elsewhere : (q : List ℕ) → (q ≡ n) ⊎ (N q ≡ V.notice_at q))
    (lots_here : (k : List ℕ × List ℕ) (l : LotState) → k.0 ≡ n → L k ≡ Some l → l ≡ lot.Undecided)
    (lots_elsewhere : (k : List ℕ × List ℕ) → (k.0 ≡ n) ⊎ (L k ≡ V.lot_at k)) where
  abbrev published : View
  published = record V { lot_at = L; notice_at = N }

  apart : (q : List ℕ) → is_some (V.notice_at q) ≡ true → q ≡ n → ⊥
  apart q there e = let none : is_some (V.notice_at q) ≡ false = ap (λ q. is_some (V.notice_at q)) e ∙ ap is_some new in cc

  notice_same : (q : List ℕ) → is_some (V.notice_at q) ≡ true → N q ≡ V.notice_at q
  notice_same q there = elim (elsewhere q) as (λ _. N q ≡ V.notice_at q) [ inl e ↦ absurd (apart q there e) | inr e ↦ e ]

  lot_same : (k : List ℕ × List ℕ) → is_some (V.notice_at k.0) ≡ true → L k ≡ V.lot_at k
  lot_same k there = elim (lots_elsewhere k) as (λ _. L k ≡ V.lot_at k) [ inl e ↦ absurd (apart k.0 there e) | inr e ↦ e ]

  published_fits : (e : EnvelopeRow) → EnvelopeFits V e → EnvelopeFits published e
  published_fits e old =
      let same = notice_same e.notice old.noticed in
      let lot_is = lot_same (e.notice, e.lot) old.noticed in
      record {
        noticed = ap is_some same ∙ old.noticed;
        housed = ap is_some lot_is ∙ old.housed;
        receiving = λ h. same ∙ old.receiving h;
        secured = λ s h.
            let is = old.secured s h in
            record { row = is.row; found = is.found; of_notice = is.of_notice; of_lot = is.of_lot };
      }

  lot_there : (k : List ℕ × List ℕ) (l : LotState) → V.lot_at k ≡ Some l → L k ≡ Some l
  lot_there k l h = lot_same k (sound.homed k l h) ∙ h

  homed_by : (k : List ℕ × List ℕ) (l : LotState) → L k ≡ Some l → is_some (N k.0) ≡ true
  homed_by k l h =
      elim (lots_elsewhere k) as (λ _. is_some (N k.0) ≡ true) [
        | inl e ↦ ap (λ q. is_some (N q)) e ∙ ap is_some here
        | inr e ↦ let there = sound.homed k l (sym e ∙ h) in ap is_some (notice_same k.0 there) ∙ there
      ]

  pub sound_published : IsSound published
  sound_published = record {
    envelopes = λ r e h. published_fits e (sound.envelopes r e h);
    homed = homed_by;
    undecided = λ k l receiving h.
        elim (lots_elsewhere k) as (λ _. l ≡ lot.Undecided) [
          | inl e ↦ lots_here k l e h
          | inr e ↦ let there = sym e ∙ h in sound.undecided k l (sym (notice_same k.0 (sound.homed k l there)) ∙ receiving) there
        ];
    securities = λ s w h held.
        let l = live_lot (V.lot_at (w.notice, w.lot)) (sound.securities s w h held) in
        ap is_live (lot_there (w.notice, w.lot) l.0 l.1) ∙ sym (ap is_live l.1) ∙ sound.securities s w h held;
    awards = λ a w h active.
        let old = sound.awards a w h active in
        record {
          tender = old.tender;
          found = old.found;
          opened = old.opened;
          of_notice = old.of_notice;
          of_lot = old.of_lot;
          awarded = lot_there (w.notice, w.lot) lot.Awarded old.awarded;
        };
    one_award = sound.one_award;
  }
