-- The part of an office that the fates look at: rows by their keys, and the states of lots and notices.
use Rattle.office_machine.proofs.Names.{◌≡◌, ℕ, true, List, Option, Some, None, is_some, option_map, refl, sym, ap, ◌∙◌, subst, EnvelopeRow, SecurityRow, AwardRow, LotState, NoticeState}
use Rattle.office_machine.proofs.Rows.Counting.{is_live}
use Rattle.office_base.specs.declared.records.EnvelopeState.TheVariants as envelope
use Rattle.office_base.specs.declared.records.SecurityState.TheVariants as security
use Rattle.office_base.specs.declared.records.AwardState.TheVariants as award
use Rattle.office_base.specs.declared.records.LotState.TheVariants as lot
use Rattle.office_base.specs.declared.records.NoticeState.TheVariants as notice

pub record View : Type 0 where
  pub envelope_at : ℕ → Option EnvelopeRow
  pub security_at : ℕ → Option SecurityRow
  pub award_at : ℕ → Option AwardRow
  pub lot_at : List ℕ × List ℕ → Option LotState
  pub notice_at : List ℕ → Option NoticeState

-- the security that a tender carries exists, and is for the tender's lot
pub record IsSecured (V : View) (e : EnvelopeRow) (s : ℕ) : Type 0 where
  pub row : SecurityRow
  pub found : V.security_at s ≡ Some row
  pub of_notice : row.notice ≡ e.notice
  pub of_lot : row.lot ≡ e.lot

pub record EnvelopeFits (V : View) (e : EnvelopeRow) : Type 0 where
  pub noticed : is_some (V.notice_at e.notice) ≡ true
  pub housed : is_some (V.lot_at (e.notice, e.lot)) ≡ true
  pub receiving : e.state ≡ envelope.Sealed → V.notice_at e.notice ≡ Some notice.Receiving
  pub secured : (s : ℕ) → e.security ≡ Some s → IsSecured V e s

pub record AwardFits (V : View) (w : AwardRow) : Type 0 where
  pub tender : EnvelopeRow
  pub found : V.envelope_at w.receipt ≡ Some tender
  pub opened : tender.state ≡ envelope.Opened
  pub of_notice : tender.notice ≡ w.notice
  pub of_lot : tender.lot ≡ w.lot
  pub awarded : V.lot_at (w.notice, w.lot) ≡ Some lot.Awarded

pub record IsSound (V : View) : Type 0 where
  pub envelopes : (r : ℕ) (e : EnvelopeRow) → V.envelope_at r ≡ Some e → EnvelopeFits V e
  pub homed : (k : List ℕ × List ℕ) (l : LotState) → V.lot_at k ≡ Some l → is_some (V.notice_at k.0) ≡ true
  pub undecided : (k : List ℕ × List ℕ) (l : LotState) → V.notice_at k.0 ≡ Some notice.Receiving → V.lot_at k ≡ Some l → l ≡ lot.Undecided
  pub securities : (s : ℕ) (w : SecurityRow) → V.security_at s ≡ Some w → w.state ≡ security.Held → is_live (V.lot_at (w.notice, w.lot)) ≡ true
  pub awards : (a : ℕ) (w : AwardRow) → V.award_at a ≡ Some w → w.state ≡ award.Active → AwardFits V w
  pub one_award : (a b : ℕ) (v w : AwardRow) → V.award_at a ≡ Some v → V.award_at b ≡ Some w → v.state ≡ award.Active → w.state ≡ award.Active
      → v.notice ≡ w.notice → v.lot ≡ w.lot → a ≡ b

-- rows that change in place
pub record Change : Type 0 where
  pub envelope_to : ℕ → EnvelopeRow → EnvelopeRow
  pub security_to : ℕ → SecurityRow → SecurityRow
  pub award_to : ℕ → AwardRow → AwardRow
  pub lot_to : List ℕ × List ℕ → LotState → LotState
  pub notice_to : List ℕ → NoticeState → NoticeState

abbrev pub no_change : Change
no_change = record { envelope_to = λ r e. e; security_to = λ s w. w; award_to = λ a w. w; lot_to = λ k l. l; notice_to = λ n x. x }

abbrev pub after_change : Change → View → View
after_change c V = record {
  envelope_at = λ r. option_map (c.envelope_to r) (V.envelope_at r);
  security_at = λ s. option_map (c.security_to s) (V.security_at s);
  award_at = λ a. option_map (c.award_to a) (V.award_at a);
  lot_at = λ k. option_map (c.lot_to k) (V.lot_at k);
  notice_at = λ n. option_map (c.notice_to n) (V.notice_at n);
}

-- a changed row is still of its notice and lot
pub record Keeps (c : Change) : Type 0 where
  pub e_notice : (r : ℕ) (e : EnvelopeRow) → (c.envelope_to r e).notice ≡ e.notice
  pub e_lot : (r : ℕ) (e : EnvelopeRow) → (c.envelope_to r e).lot ≡ e.lot
  pub e_security : (r : ℕ) (e : EnvelopeRow) → (c.envelope_to r e).security ≡ e.security
  pub s_notice : (s : ℕ) (w : SecurityRow) → (c.security_to s w).notice ≡ w.notice
  pub s_lot : (s : ℕ) (w : SecurityRow) → (c.security_to s w).lot ≡ w.lot
  pub a_notice : (a : ℕ) (w : AwardRow) → (c.award_to a w).notice ≡ w.notice
  pub a_lot : (a : ℕ) (w : AwardRow) → (c.award_to a w).lot ≡ w.lot
  pub a_receipt : (a : ℕ) (w : AwardRow) → (c.award_to a w).receipt ≡ w.receipt

-- changes of rows that keep an office sound
pub record IsFair (c : Change) (V : View) : Type 0 where
  pub keeps : Keeps c
  -- a tender that is still sealed was sealed, and its notice is still receiving
  pub sealed : (r : ℕ) (e : EnvelopeRow) → V.envelope_at r ≡ Some e → (c.envelope_to r e).state ≡ envelope.Sealed → e.state ≡ envelope.Sealed
  pub sealed_notice : (r : ℕ) (e : EnvelopeRow) → V.envelope_at r ≡ Some e → (c.envelope_to r e).state ≡ envelope.Sealed
      → c.notice_to e.notice notice.Receiving ≡ notice.Receiving
  pub receive : (n : List ℕ) (x : NoticeState) → V.notice_at n ≡ Some x → c.notice_to n x ≡ notice.Receiving → x ≡ notice.Receiving
  pub undecided : (k : List ℕ × List ℕ) → V.lot_at k ≡ Some lot.Undecided → V.notice_at k.0 ≡ Some notice.Receiving
      → c.notice_to k.0 notice.Receiving ≡ notice.Receiving
      → c.lot_to k lot.Undecided ≡ lot.Undecided
  -- a security that is still held was held, and its lot is still live
  pub held : (s : ℕ) (w : SecurityRow) → V.security_at s ≡ Some w → (c.security_to s w).state ≡ security.Held → w.state ≡ security.Held
  pub held_live : (s : ℕ) (w : SecurityRow) (l : LotState) → V.security_at s ≡ Some w → (c.security_to s w).state ≡ security.Held
      → V.lot_at (w.notice, w.lot) ≡ Some l
      → is_live (Some l) ≡ true → is_live (Some (c.lot_to (w.notice, w.lot) l)) ≡ true
  pub active : (a : ℕ) (w : AwardRow) → V.award_at a ≡ Some w → (c.award_to a w).state ≡ award.Active → w.state ≡ award.Active
  pub active_tender : (a : ℕ) (w : AwardRow) (e : EnvelopeRow) → V.award_at a ≡ Some w → (c.award_to a w).state ≡ award.Active
      → V.envelope_at w.receipt ≡ Some e
      → e.state ≡ envelope.Opened → (c.envelope_to w.receipt e).state ≡ envelope.Opened
  pub active_lot : (a : ℕ) (w : AwardRow) → V.award_at a ≡ Some w → (c.award_to a w).state ≡ award.Active
      → V.lot_at (w.notice, w.lot) ≡ Some lot.Awarded
      → c.lot_to (w.notice, w.lot) lot.Awarded ≡ lot.Awarded

-- the row before its change
pub record Before {X : Type 0} (f : X → X) (o : Option X) (y : X) : Type 0 where
  pub old : X
  pub was : o ≡ Some old
  pub is : f old ≡ y

pub before : {X : Type 0} (f : X → X) (o : Option X) (y : X) → option_map f o ≡ Some y → Before f o y
before f None y e = cc
before f (Some x) y e = record { old = x; was = refl; is = let same : Some (f x) ≡ Some y = e in cc }

pub is_some-map : {X : Type 0} (f : X → X) (o : Option X) → is_some o ≡ true → is_some (option_map f o) ≡ true
is_some-map f None h = h
is_some-map f (Some x) h = refl

pub live_lot : (o : Option LotState) → is_live o ≡ true → (l : LotState) × (o ≡ Some l)
live_lot None h = cc
live_lot (Some l) h = (l, refl)

module _ (c : Change) (V : View) (sound : IsSound V) (fair : IsFair c V) where
  abbrev W : View
  W = after_change c V

  secured_of : (r : ℕ) (e : EnvelopeRow) → V.envelope_at r ≡ Some e → (s : ℕ) → e.security ≡ Some s → IsSecured V e s
      → IsSecured W (c.envelope_to r e) s
  secured_of r e found s carries old = record {
    row = c.security_to s old.row;
    found = ap (option_map (c.security_to s)) old.found;
    of_notice = fair.keeps.s_notice s old.row ∙ old.of_notice ∙ sym (fair.keeps.e_notice r e);
    of_lot = fair.keeps.s_lot s old.row ∙ old.of_lot ∙ sym (fair.keeps.e_lot r e);
  }

  envelope_fits : (r : ℕ) (e : EnvelopeRow) → V.envelope_at r ≡ Some e → EnvelopeFits V e → EnvelopeFits W (c.envelope_to r e)
  envelope_fits r e found old = record {
    noticed =
        subst (λ n. is_some (W.notice_at n) ≡ true) (sym (fair.keeps.e_notice r e)) (is_some-map (c.notice_to e.notice) (V.notice_at e.notice) old.noticed);
    housed =
        subst (λ n. is_some (W.lot_at (n, (c.envelope_to r e).lot)) ≡ true) (sym (fair.keeps.e_notice r e)) (subst (λ l. is_some (W.lot_at (e.notice, l)) ≡ true) (sym (fair.keeps.e_lot r e)) (is_some-map (c.lot_to (e.notice, e.lot)) (V.lot_at (e.notice, e.lot)) old.housed));
    receiving = λ h.
        subst (λ n. W.notice_at n ≡ Some notice.Receiving) (sym (fair.keeps.e_notice r e))
        (ap (option_map (c.notice_to e.notice)) (old.receiving (fair.sealed r e found h)) ∙ ap Some (fair.sealed_notice r e found h));
    secured = λ s h. let carries = sym (fair.keeps.e_security r e) ∙ h in secured_of r e found s carries (old.secured s carries);
  }

  award_fits : (a : ℕ) (w : AwardRow) → V.award_at a ≡ Some w → (c.award_to a w).state ≡ award.Active → AwardFits V w → AwardFits W (c.award_to a w)
  award_fits a w found active old =
      record {
        tender = c.envelope_to w.receipt old.tender;
        found = ap W.envelope_at (fair.keeps.a_receipt a w) ∙ ap (option_map (c.envelope_to w.receipt)) old.found;
        opened = fair.active_tender a w old.tender found active old.found old.opened;
        of_notice = fair.keeps.e_notice w.receipt old.tender ∙ old.of_notice ∙ sym (fair.keeps.a_notice a w);
        of_lot = fair.keeps.e_lot w.receipt old.tender ∙ old.of_lot ∙ sym (fair.keeps.a_lot a w);
        awarded =
            ap (λ n. W.lot_at (n, (c.award_to a w).lot)) (fair.keeps.a_notice a w)
            ∙ ap (λ l. W.lot_at (w.notice, l)) (fair.keeps.a_lot a w)
            ∙ ap (option_map (c.lot_to (w.notice, w.lot))) old.awarded
            ∙ ap Some (fair.active_lot a w found active old.awarded);
      }

  undecided_by : (k : List ℕ × List ℕ) (x : NoticeState) (m : LotState) → V.notice_at k.0 ≡ Some x → V.lot_at k ≡ Some m
      → c.notice_to k.0 x ≡ notice.Receiving
      → c.lot_to k m ≡ lot.Undecided
  undecided_by k x m is lot_is h =
      let was : x ≡ notice.Receiving = fair.receive k.0 x is h in
      let receiving : V.notice_at k.0 ≡ Some notice.Receiving = is ∙ ap Some was in
      let old : m ≡ lot.Undecided = sound.undecided k m receiving lot_is in
      ap (c.lot_to k) old ∙ fair.undecided k (lot_is ∙ ap Some old) receiving (sym (ap (c.notice_to k.0) was) ∙ h)

  pub sound_changed : IsSound W
  sound_changed = record {
    envelopes = λ r e h.
        let b = before (c.envelope_to r) (V.envelope_at r) e h in
        subst (EnvelopeFits W) b.is (envelope_fits r b.old b.was (sound.envelopes r b.old b.was));
    homed = λ k l h. let b = before (c.lot_to k) (V.lot_at k) l h in is_some-map (c.notice_to k.0) (V.notice_at k.0) (sound.homed k b.old b.was);
    undecided = λ k l receiving h.
        let b = before (c.lot_to k) (V.lot_at k) l h in
        let n = before (c.notice_to k.0) (V.notice_at k.0) notice.Receiving receiving in
        sym b.is ∙ undecided_by k n.old b.old n.was b.was n.is;
    securities = λ s w h held.
        let b = before (c.security_to s) (V.security_at s) w h in
        let held' : (c.security_to s b.old).state ≡ security.Held = ap (λ (x : SecurityRow). x.state) b.is ∙ held in
        let was = sound.securities s b.old b.was (fair.held s b.old b.was held') in
        let l = live_lot (V.lot_at (b.old.notice, b.old.lot)) was in
        let here : is_live (W.lot_at (b.old.notice, b.old.lot)) ≡ true = ap (λ o. is_live (option_map (c.lot_to (b.old.notice, b.old.lot)) o)) l.1 ∙ fair.held_live s b.old l.0 b.was held' l.1 (sym (ap is_live l.1) ∙ was) in
        let n : b.old.notice ≡ w.notice = sym (fair.keeps.s_notice s b.old) ∙ ap (λ (x : SecurityRow). x.notice) b.is in
        let m : b.old.lot ≡ w.lot = sym (fair.keeps.s_lot s b.old) ∙ ap (λ (x : SecurityRow). x.lot) b.is in
        subst (λ l. is_live (W.lot_at (w.notice, l)) ≡ true) m (subst (λ n. is_live (W.lot_at (n, b.old.lot)) ≡ true) n here);
    awards = λ a w h active.
        let b = before (c.award_to a) (V.award_at a) w h in
        let active' : (c.award_to a b.old).state ≡ award.Active = ap (λ (x : AwardRow). x.state) b.is ∙ active in
        subst (AwardFits W) b.is (award_fits a b.old b.was active' (sound.awards a b.old b.was (fair.active a b.old b.was active')));
    one_award = λ a b v w hv hw av aw n l.
        let x = before (c.award_to a) (V.award_at a) v hv in
        let y = before (c.award_to b) (V.award_at b) w hw in
        sound.one_award a b x.old y.old x.was y.was
        (fair.active a x.old x.was (ap (λ (x : AwardRow). x.state) x.is ∙ av))
        (fair.active b y.old y.was (ap (λ (x : AwardRow). x.state) y.is ∙ aw))
        (sym (fair.keeps.a_notice a x.old) ∙ ap (λ (x : AwardRow). x.notice) x.is ∙ n ∙ sym (ap (λ (x : AwardRow). x.notice) y.is) ∙ fair.keeps.a_notice b y.old)
        (sym (fair.keeps.a_lot a x.old) ∙ ap (λ (x : AwardRow). x.lot) x.is ∙ l ∙ sym (ap (λ (x : AwardRow). x.lot) y.is) ∙ fair.keeps.a_lot b y.old);
  }
