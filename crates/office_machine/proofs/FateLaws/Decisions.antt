-- An office remains sound after commands that decide a lot.
use Rattle.office_machine.proofs.Names.{◌≡◌, ℕ, Bool, true, false, cond, ◌&&◌, List, Option, Some, None, is_some, refl, sym, ap, ◌∙◌, subst, nat_cmp, is_eq, eq_by_cmp, id_cmp, lot_cmp, is_sealed, is_held, is_active, is_receiving, has_number, EnvelopeRow, SecurityRow, AwardRow, LotState, NoticeState, returned, settled, passed_over, failed_award, cancelled_award, returned_envelope, lots_total, same_key, lots_exact, ids_exact, equal_keys}
use Rattle.office_base.specs.declared.records.EnvelopeState.TheVariants as envelope
use Rattle.office_base.specs.declared.records.SecurityState.TheVariants as security
use Rattle.office_base.specs.declared.records.AwardState.TheVariants as award
use Rattle.office_base.specs.declared.records.LotState.TheVariants as lot
use Rattle.office_base.specs.declared.records.NoticeState.TheVariants as notice
use Rattle.office_machine.proofs.Rows.Counting.{is_live}
use Rattle.office_machine.proofs.FateLaws.Views.{View, EnvelopeFits, AwardFits, IsSound, Change, IsFair}
use Rattle.office_machine.proofs.FateLaws.Matched.{same_itself}
use Rattle.office_machine.proofs.FateLaws.Steps.{choose, cond_keeps, both_true, settled_held}

pub same_lot : (k : List ℕ × List ℕ) → eq_by_cmp lot_cmp k k ≡ true
same_lot k = ap is_eq (same_key lots_total k)

abbrev pub pair : List ℕ → List ℕ → List ℕ × List ℕ
pair a b = (a, b)

pub pair_path : (a b c d : List ℕ) → a ≡ c → b ≡ d → pair a b ≡ pair c d
pair_path a b c d p q = ap (λ x. pair x b) p ∙ ap (pair c) q

at_same_lot : (k q : List ℕ × List ℕ) → k ≡ q → eq_by_cmp lot_cmp k q ≡ true
at_same_lot k q e = subst (λ q. eq_by_cmp lot_cmp k q ≡ true) e (same_lot k)

-- a lot is closed, and its held securities are returned
module _ (V : View) (sound : IsSound V) (k0 : List ℕ × List ℕ) (closed : LotState) (is_closed : is_live (Some closed) ≡ false)
    (award_to : ℕ → AwardRow → AwardRow) (test : SecurityRow → Bool)
    (test_all : (w : SecurityRow) → w.state ≡ security.Held → w.notice ≡ k0.0 → w.lot ≡ k0.1 → test w ≡ true)
    (test_only : (w : SecurityRow) → test w ≡ true → (w.notice ≡ k0.0) × (w.lot ≡ k0.1))
    (not_receiving : V.lot_at k0 ≡ Some lot.Undecided → V.notice_at k0.0 ≡ Some notice.Receiving → ⊥)
    (a_notice : (a : ℕ) (w : AwardRow) → (award_to a w).notice ≡ w.notice) (a_lot : (a : ℕ) (w : AwardRow) → (award_to a w).lot ≡ w.lot)
    (a_receipt : (a : ℕ) (w : AwardRow) → (award_to a w).receipt ≡ w.receipt)
    (active : (a : ℕ) (w : AwardRow) → V.award_at a ≡ Some w → (award_to a w).state ≡ award.Active → w.state ≡ award.Active)
    (elsewhere : (a : ℕ) (w : AwardRow) → V.award_at a ≡ Some w → (award_to a w).state ≡ award.Active → w.notice ≡ k0.0 → w.lot ≡ k0.1 → ⊥) where
  abbrev pub closing : Change
  closing = record {
    envelope_to = λ r e. e;
    security_to = λ s w. cond (test w) (returned w) w;
    award_to = award_to;
    lot_to = λ k l. cond (eq_by_cmp lot_cmp k k0) closed l;
    notice_to = λ n x. x;
  }

  pub fair_closing : IsFair closing V
  fair_closing = record {
    keeps = record {
      e_notice = λ r e. refl;
      e_lot = λ r e. refl;
      e_security = λ r e. refl;
      s_notice = λ s w. cond_keeps (λ (w : SecurityRow). w.notice) (test w) (returned w) w refl;
      s_lot = λ s w. cond_keeps (λ (w : SecurityRow). w.lot) (test w) (returned w) w refl;
      a_notice = a_notice;
      a_lot = a_lot;
      a_receipt = a_receipt;
    };
    sealed = λ r e at h. h;
    sealed_notice = λ r e at h. refl;
    receive = λ n x at h. h;
    undecided = λ k at receiving h.
        choose (λ x. x ≡ lot.Undecided) (eq_by_cmp lot_cmp k k0) closed lot.Undecided
        (λ e. let is = equal_keys lots_exact k k0 e in absurd (not_receiving (sym (ap V.lot_at is) ∙ at) (sym (ap (λ (k : List ℕ × List ℕ). V.notice_at k.0) is) ∙ receiving)))
        (λ _. refl);
    held = λ s w at. choose (λ (x : SecurityRow). x.state ≡ security.Held → w.state ≡ security.Held) (test w) (returned w) w (λ _ h. cc) (λ _ h. h);
    held_live = λ s w l at h lot_is live.
        choose (λ x. is_live (Some x) ≡ true) (eq_by_cmp lot_cmp (w.notice, w.lot) k0) closed l
        (λ e.
        let is = equal_keys lots_exact (w.notice, w.lot) k0 e in
        let was : w.state ≡ security.Held = choose (λ (x : SecurityRow). x.state ≡ security.Held → w.state ≡ security.Held) (test w) (returned w) w (λ _ h. cc) (λ _ h. h) h in
        let tested = test_all w was (ap (λ (k : List ℕ × List ℕ). k.0) is) (ap (λ (k : List ℕ × List ℕ). k.1) is) in
        let no : security.Returned ≡ security.Held = sym (ap (λ b. let x : SecurityRow = cond b (returned w) w in x.state) tested) ∙ h in
        cc)
        (λ _. live);
    active = active;
    active_tender = λ a w e at is e_at opened. opened;
    active_lot = λ a w at is awarded.
        choose (λ x. x ≡ lot.Awarded) (eq_by_cmp lot_cmp (w.notice, w.lot) k0) closed lot.Awarded
        (λ e. let same = equal_keys lots_exact (w.notice, w.lot) k0 e in absurd (elsewhere a w at is (ap (λ (k : List ℕ × List ℕ). k.0) same) (ap (λ (k : List ℕ × List ℕ). k.1) same)))
        (λ _. refl);
  }

-- a lot is awarded
module _ (V : View) (sound : IsSound V) (k0 : List ℕ × List ℕ) (undecided : V.lot_at k0 ≡ Some lot.Undecided)
    (not_receiving : V.notice_at k0.0 ≡ Some notice.Receiving → ⊥) where
  abbrev pub awarding : Change
  awarding = record {
    envelope_to = λ r e. e;
    security_to = λ s w. w;
    award_to = λ a w. w;
    lot_to = λ k l. cond (eq_by_cmp lot_cmp k k0) lot.Awarded l;
    notice_to = λ n x. x;
  }

  was_undecided : (k : List ℕ × List ℕ) (l : LotState) → eq_by_cmp lot_cmp k k0 ≡ true → V.lot_at k ≡ Some l → l ≡ lot.Undecided
  was_undecided k l e at = let same : Some l ≡ Some lot.Undecided = sym at ∙ ap V.lot_at (equal_keys lots_exact k k0 e) ∙ undecided in cc

  pub fair_awarding : IsFair awarding V
  fair_awarding = record {
    keeps = record {
      e_notice =
          λ r e. refl;
      e_lot = λ r e. refl;
      e_security = λ r e. refl;
      s_notice = λ s w. refl;
      s_lot = λ s w. refl;
      a_notice = λ a w. refl;
      a_lot = λ a w. refl;
      a_receipt = λ a w. refl;
    };
    sealed = λ r e at h. h;
    sealed_notice = λ r e at h. refl;
    receive = λ n x at h. h;
    undecided = λ k at receiving h.
        choose (λ x. x ≡ lot.Undecided) (eq_by_cmp lot_cmp k k0) lot.Awarded lot.Undecided
        (λ e. absurd (not_receiving (sym (ap (λ (k : List ℕ × List ℕ). V.notice_at k.0) (equal_keys lots_exact k k0 e)) ∙ receiving)))
        (λ _. refl);
    held = λ s w at h. h;
    held_live = λ s w l at h lot_is live.
        choose (λ x. is_live (Some x) ≡ true) (eq_by_cmp lot_cmp (w.notice, w.lot) k0) lot.Awarded l (λ _. refl) (λ _. live);
    active = λ a w at h. h;
    active_tender = λ a w e at is e_at opened. opened;
    active_lot = λ a w at is awarded.
        choose (λ x. x ≡ lot.Awarded) (eq_by_cmp lot_cmp (w.notice, w.lot) k0) lot.Awarded lot.Awarded (λ _. refl) (λ _. refl);
  }

-- an award fails
module _ (V : View) (sound : IsSound V) (a0 : ℕ) (w0 : AwardRow) (found : V.award_at a0 ≡ Some w0) (active : w0.state ≡ award.Active)
    (fits : AwardFits V w0) where
  abbrev k0 : List ℕ × List ℕ
  k0 = (w0.notice, w0.lot)

  abbrev pub failing : Change
  failing = record {
    envelope_to = λ r e. cond (eq_by_cmp nat_cmp r w0.receipt) (passed_over e) e;
    security_to = λ s w. cond (has_number s fits.tender.security) (settled security.Forfeited w) w;
    award_to = λ a w. cond (eq_by_cmp nat_cmp a a0) (failed_award w) w;
    lot_to = λ k l. cond (eq_by_cmp lot_cmp k k0) lot.Undecided l;
    notice_to = λ n x. x;
  }

  abbrev forfeited : SecurityRow → SecurityRow
  forfeited w = settled security.Forfeited w

  -- an award that is active afterwards is another one
  other_award : (a : ℕ) (w : AwardRow) → V.award_at a ≡ Some w → (failing.award_to a w).state ≡ award.Active
      → (w.state ≡ award.Active) × (eq_by_cmp nat_cmp a a0 ≡ false)
  other_award a w at =
      choose (λ (x : AwardRow). x.state ≡ award.Active → (w.state ≡ award.Active) × (eq_by_cmp nat_cmp a a0 ≡ false)) (eq_by_cmp nat_cmp a a0) (failed_award w) w
      (λ _ h. cc) (λ e h. (h, e))

  apart : (a : ℕ) (w : AwardRow) → V.award_at a ≡ Some w → (failing.award_to a w).state ≡ award.Active → w.notice ≡ w0.notice → w.lot ≡ w0.lot → ⊥
  apart a w at is n l =
      let other = other_award a w at is in
      let one : a ≡ a0 = sound.one_award a a0 w w0 at found other.0 active n l in
      let no : eq_by_cmp nat_cmp a a0 ≡ true = ap (λ a. eq_by_cmp nat_cmp a a0) one ∙ same_itself a0 in
      cc

  pub fair_failing : IsFair failing V
  fair_failing = record {
    keeps = record {
      e_notice = λ r e. cond_keeps (λ (e : EnvelopeRow). e.notice) (eq_by_cmp nat_cmp r w0.receipt) (passed_over e) e refl;
      e_lot = λ r e. cond_keeps (λ (e : EnvelopeRow). e.lot) (eq_by_cmp nat_cmp r w0.receipt) (passed_over e) e refl;
      e_security = λ r e. cond_keeps (λ (e : EnvelopeRow). e.security) (eq_by_cmp nat_cmp r w0.receipt) (passed_over e) e refl;
      s_notice = λ s w. cond_keeps (λ (w : SecurityRow). w.notice) (has_number s fits.tender.security) (forfeited w) w refl;
      s_lot = λ s w. cond_keeps (λ (w : SecurityRow). w.lot) (has_number s fits.tender.security) (forfeited w) w refl;
      a_notice = λ a w. cond_keeps (λ (w : AwardRow). w.notice) (eq_by_cmp nat_cmp a a0) (failed_award w) w refl;
      a_lot = λ a w. cond_keeps (λ (w : AwardRow). w.lot) (eq_by_cmp nat_cmp a a0) (failed_award w) w refl;
      a_receipt = λ a w. cond_keeps (λ (w : AwardRow). w.receipt) (eq_by_cmp nat_cmp a a0) (failed_award w) w refl;
    };
    sealed = λ r e at h. sym (cond_keeps (λ (e : EnvelopeRow). e.state) (eq_by_cmp nat_cmp r w0.receipt) (passed_over e) e refl) ∙ h;
    sealed_notice = λ r e at h. refl;
    receive = λ n x at h. h;
    undecided = λ k at receiving h. choose (λ x. x ≡ lot.Undecided) (eq_by_cmp lot_cmp k k0) lot.Undecided lot.Undecided (λ _. refl) (λ _. refl);
    held = λ s w at.
        choose (λ (x : SecurityRow). x.state ≡ security.Held → w.state ≡ security.Held) (has_number s fits.tender.security) (forfeited w) w
        (λ _ h. settled_held security.Forfeited w.state h) (λ _ h. h);
    held_live = λ s w l at h lot_is live.
        choose (λ x. is_live (Some x) ≡ true) (eq_by_cmp lot_cmp (w.notice, w.lot) k0) lot.Undecided l (λ _. refl) (λ _. live);
    active = λ a w at h. (other_award a w at h).0;
    active_tender = λ a w e at is e_at opened. cond_keeps (λ (x : EnvelopeRow). x.state) (eq_by_cmp nat_cmp w.receipt w0.receipt) (passed_over e) e refl ∙ opened;
    active_lot = λ a w at is awarded.
        choose (λ x. x ≡ lot.Awarded) (eq_by_cmp lot_cmp (w.notice, w.lot) k0) lot.Undecided lot.Awarded
        (λ e. let same = equal_keys lots_exact (w.notice, w.lot) k0 e in absurd (apart a w at is (ap (λ (k : List ℕ × List ℕ). k.0) same) (ap (λ (k : List ℕ × List ℕ). k.1) same)))
        (λ _. refl);
  }

still_receiving : (x : NoticeState) → cond (is_receiving x) notice.Cancelled x ≡ notice.Receiving → x ≡ notice.Receiving
still_receiving notice.Receiving h = refl
still_receiving notice.Opened h = cc
still_receiving notice.Cancelled h = cc

-- lots of a notice end
module _ (V : View) (sound : IsSound V) (n : List ℕ) (ends : List ℕ → List ℕ → Bool)
    (ends_only : (m l : List ℕ) → ends m l ≡ true → m ≡ n)
    (ends_all : (m l : List ℕ) → m ≡ n → is_live (V.lot_at (m, l)) ≡ true → ends m l ≡ true) where
  abbrev pub cancelling : Change
  cancelling = record {
    envelope_to = λ r e. cond (is_sealed e.state && ends e.notice e.lot) (returned_envelope e) e;
    security_to = λ s w. cond (is_held w.state && ends w.notice w.lot) (returned w) w;
    award_to = λ a w. cond (is_active w.state && ends w.notice w.lot) (cancelled_award w) w;
    lot_to = λ k l. cond (ends k.0 k.1) lot.Cancelled l;
    notice_to = λ m x. cond (eq_by_cmp id_cmp m n) (cond (is_receiving x) notice.Cancelled x) x;
  }

  -- tenders that are still sealed are for lots that don't end
  sealed_apart : (e : EnvelopeRow) → (cancelling.envelope_to 0 e).state ≡ envelope.Sealed
      → (e.state ≡ envelope.Sealed) × (ends e.notice e.lot ≡ false)
  sealed_apart e =
      choose (λ (x : EnvelopeRow). x.state ≡ envelope.Sealed → (e.state ≡ envelope.Sealed) × (ends e.notice e.lot ≡ false)) (is_sealed e.state && ends e.notice e.lot) (returned_envelope e) e
      (λ _ h. cc)
      (λ f h. (h, sym (ap (λ s. is_sealed s && ends e.notice e.lot) h) ∙ f))

  held_apart : (w : SecurityRow) → (cancelling.security_to 0 w).state ≡ security.Held → (w.state ≡ security.Held) × (ends w.notice w.lot ≡ false)
  held_apart w =
      choose (λ (x : SecurityRow). x.state ≡ security.Held → (w.state ≡ security.Held) × (ends w.notice w.lot ≡ false)) (is_held w.state && ends w.notice w.lot) (returned w) w
      (λ _ h. cc)
      (λ f h. (h, sym (ap (λ s. is_held s && ends w.notice w.lot) h) ∙ f))

  active_apart : (w : AwardRow) → (cancelling.award_to 0 w).state ≡ award.Active → (w.state ≡ award.Active) × (ends w.notice w.lot ≡ false)
  active_apart w =
      choose (λ (x : AwardRow). x.state ≡ award.Active → (w.state ≡ award.Active) × (ends w.notice w.lot ≡ false)) (is_active w.state && ends w.notice w.lot) (cancelled_award w) w
      (λ _ h. cc)
      (λ f h. (h, sym (ap (λ s. is_active s && ends w.notice w.lot) h) ∙ f))

  live_by : (e : EnvelopeRow) → EnvelopeFits V e → e.state ≡ envelope.Sealed → (o : Option LotState) → V.lot_at (e.notice, e.lot) ≡ o
      → is_live o ≡ true
  live_by e fits sealed None at = let no : false ≡ true = sym (ap is_some at) ∙ fits.housed in cc
  live_by e fits sealed (Some l) at = ap (λ x. is_live (Some x)) (sound.undecided (e.notice, e.lot) l (fits.receiving sealed) at)

  pub sealed_live : (e : EnvelopeRow) → EnvelopeFits V e → e.state ≡ envelope.Sealed → is_live (V.lot_at (e.notice, e.lot)) ≡ true
  sealed_live e fits sealed = live_by e fits sealed (V.lot_at (e.notice, e.lot)) refl

  pub fair_cancelling : IsFair cancelling V
  fair_cancelling = record {
    keeps = record {
      e_notice = λ r e. cond_keeps (λ (e : EnvelopeRow). e.notice) (is_sealed e.state && ends e.notice e.lot) (returned_envelope e) e refl;
      e_lot = λ r e. cond_keeps (λ (e : EnvelopeRow). e.lot) (is_sealed e.state && ends e.notice e.lot) (returned_envelope e) e refl;
      e_security = λ r e. cond_keeps (λ (e : EnvelopeRow). e.security) (is_sealed e.state && ends e.notice e.lot) (returned_envelope e) e refl;
      s_notice = λ s w. cond_keeps (λ (w : SecurityRow). w.notice) (is_held w.state && ends w.notice w.lot) (returned w) w refl;
      s_lot = λ s w. cond_keeps (λ (w : SecurityRow). w.lot) (is_held w.state && ends w.notice w.lot) (returned w) w refl;
      a_notice = λ a w. cond_keeps (λ (w : AwardRow). w.notice) (is_active w.state && ends w.notice w.lot) (cancelled_award w) w refl;
      a_lot = λ a w. cond_keeps (λ (w : AwardRow). w.lot) (is_active w.state && ends w.notice w.lot) (cancelled_award w) w refl;
      a_receipt = λ a w. cond_keeps (λ (w : AwardRow). w.receipt) (is_active w.state && ends w.notice w.lot) (cancelled_award w) w refl;
    };
    sealed = λ r e at h. (sealed_apart e h).0;
    sealed_notice = λ r e at h.
        choose (λ x. x ≡ notice.Receiving) (eq_by_cmp id_cmp e.notice n) notice.Cancelled notice.Receiving
        (λ same.
        let sealed = sealed_apart e h in
        let no : true ≡ false = sym (ends_all e.notice e.lot (equal_keys ids_exact e.notice n same) (sealed_live e (sound.envelopes r e at) sealed.0)) ∙ sealed.1 in
        cc)
        (λ _. refl);
    receive = λ m x at.
        choose (λ y. y ≡ notice.Receiving → x ≡ notice.Receiving) (eq_by_cmp id_cmp m n) (cond (is_receiving x) notice.Cancelled x) x
        (λ _ h. still_receiving x h) (λ _ h. h);
    undecided = λ k at receiving h.
        choose (λ x. x ≡ lot.Undecided) (ends k.0 k.1) lot.Cancelled lot.Undecided
        (λ e.
        let same : eq_by_cmp id_cmp k.0 n ≡ true = subst (λ m. eq_by_cmp id_cmp k.0 m ≡ true) (ends_only k.0 k.1 e) (ap is_eq (same_key Rattle.std.specs.Cmp.Lexicographic.nat_list_cmp_total k.0)) in
        let no : notice.Cancelled ≡ notice.Receiving = sym (ap (λ b. cond b notice.Cancelled notice.Receiving) same) ∙ h in
        cc)
        (λ _. refl);
    held = λ s w at h. (held_apart w h).0;
    held_live = λ s w l at h lot_is live. subst (λ b. is_live (Some (cond b lot.Cancelled l)) ≡ true) (sym (held_apart w h).1) live;
    active = λ a w at h. (active_apart w h).0;
    active_tender = λ a w e at is e_at opened.
        choose (λ (x : EnvelopeRow). x.state ≡ envelope.Opened) (is_sealed e.state && ends e.notice e.lot) (returned_envelope e) e
        (λ t. let no : false ≡ true = sym (ap is_sealed opened) ∙ (both_true (is_sealed e.state) (ends e.notice e.lot) t).0 in cc)
        (λ _. opened);
    active_lot = λ a w at is awarded. ap (λ b. cond b lot.Cancelled lot.Awarded) (active_apart w is).1;
  }
