-- An office remains sound after commands that change rows in place.
use Rattle.office_machine.proofs.Names.{◌≡◌, ℕ, Bool, true, false, cond, ◌&&◌, List, Option, Some, None, refl, sym, ap, ◌∙◌, nat_cmp, eq_by_cmp, SecurityState, is_held, settled, withdrawn, has_number, EnvelopeRow, SecurityRow, NoticeState}
use Rattle.office_base.specs.declared.records.EnvelopeState.TheVariants as envelope
use Rattle.office_base.specs.declared.records.SecurityState.TheVariants as security
use Rattle.office_base.specs.declared.records.NoticeState.TheVariants as notice
use Rattle.office_machine.proofs.FateLaws.Views.{View, Change, IsFair}
use Rattle.office_machine.proofs.FateLaws.Added.{equal_numbers}
use Rattle.office_machine.proofs.FateLaws.Matched.{SecurityKeeps}
use Rattle.office_machine.proofs.FateLaws.FatesHold.{still_held}

pub choose : {X : Type 0} (P : X → Type 0) (b : Bool) (y x : X) → (b ≡ true → P y) → (b ≡ false → P x) → P (cond b y x)
choose P true y x yes_is no_is = yes_is refl
choose P false y x yes_is no_is = no_is refl

pub cond_keeps : {X Y : Type 0} (F : X → Y) (b : Bool) (y x : X) → F y ≡ F x → F (cond b y x) ≡ F x
cond_keeps F true y x e = e
cond_keeps F false y x e = refl

pub both_true : (a b : Bool) → (a && b) ≡ true → (a ≡ true) × (b ≡ true)
both_true true b e = (refl, e)
both_true false b e = cc

pub has_number_it : (s : ℕ) (o : Option ℕ) → has_number s o ≡ true → o ≡ Some s
has_number_it s None e = cc
has_number_it s (Some k) e = ap Some (sym (equal_numbers s k e))

-- a security that is held after it is settled was held before
pub settled_held : (state was : SecurityState) → cond (is_held was) state was ≡ security.Held → was ≡ security.Held
settled_held state security.Held h = refl
settled_held state security.Returned h = h
settled_held state security.Forfeited h = h

pub settled_keep : (o : Option ℕ) (state : SecurityState) → SecurityKeeps (λ s w. cond (has_number s o) (settled state w) w)
settled_keep o state = record {
  number = λ s w. cond_keeps (λ (w : SecurityRow). w.security) (has_number s o) (settled state w) w refl;
  notice = λ s w. cond_keeps (λ (w : SecurityRow). w.notice) (has_number s o) (settled state w) w refl;
  lot = λ s w. cond_keeps (λ (w : SecurityRow). w.lot) (has_number s o) (settled state w) w refl;
  tenderer = λ s w. cond_keeps (λ (w : SecurityRow). w.tenderer) (has_number s o) (settled state w) w refl;
  reference = λ s w. cond_keeps (λ (w : SecurityRow). w.reference) (has_number s o) (settled state w) w refl;
  amount = λ s w. cond_keeps (λ (w : SecurityRow). w.amount) (has_number s o) (settled state w) w refl;
}

-- a settled security has the state that a command decides for held ones
pub settled_goes : (state : SecurityState) (w : SecurityRow) (b : Bool)
    → (let w' : SecurityRow = cond b (settled state w) w in w'.state) ≡ cond (is_held w.state) (cond b state security.Held) w.state
settled_goes state w true = refl
settled_goes state w false = still_held w.state

-- one tender is changed, and a security, if there is one, is settled
module _ (V : View) (r0 : ℕ) (change : EnvelopeRow → EnvelopeRow) (state : SecurityState) (o : Option ℕ) where
  abbrev pub taking_back : Change
  taking_back = record {
    envelope_to = λ r e. cond (eq_by_cmp nat_cmp r r0) (change e) e;
    security_to = λ s w. cond (has_number s o) (settled state w) w;
    award_to = λ a w. w;
    lot_to = λ k l. l;
    notice_to = λ n x. x;
  }

  -- the changes are fair if no tender becomes sealed and every opened tender remains opened
  pub fair_taking_back : ((e : EnvelopeRow) → (change e).notice ≡ e.notice) → ((e : EnvelopeRow) → (change e).lot ≡ e.lot)
      → ((e : EnvelopeRow) → (change e).security ≡ e.security)
      → ((e : EnvelopeRow) → (change e).state ≡ envelope.Sealed → e.state ≡ envelope.Sealed)
      → ((e : EnvelopeRow) → V.envelope_at r0 ≡ Some e → e.state ≡ envelope.Opened → (change e).state ≡ envelope.Opened)
      → IsFair taking_back V
  fair_taking_back of_notice of_lot carried was_sealed stays_opened = record {
    keeps = record {
      e_notice = λ r e. cond_keeps (λ (e : EnvelopeRow). e.notice) (eq_by_cmp nat_cmp r r0) (change e) e (of_notice e);
      e_lot = λ r e. cond_keeps (λ (e : EnvelopeRow). e.lot) (eq_by_cmp nat_cmp r r0) (change e) e (of_lot e);
      e_security = λ r e. cond_keeps (λ (e : EnvelopeRow). e.security) (eq_by_cmp nat_cmp r r0) (change e) e (carried e);
      s_notice = λ s w. cond_keeps (λ (w : SecurityRow). w.notice) (has_number s o) (settled state w) w refl;
      s_lot = λ s w. cond_keeps (λ (w : SecurityRow). w.lot) (has_number s o) (settled state w) w refl;
      a_notice = λ a w. refl;
      a_lot = λ a w. refl;
      a_receipt = λ a w. refl;
    };
    sealed = λ r e at.
        choose (λ (x : EnvelopeRow). x.state ≡ envelope.Sealed → e.state ≡ envelope.Sealed) (eq_by_cmp nat_cmp r r0) (change e) e
        (λ _. was_sealed e) (λ _ h. h);
    sealed_notice = λ r e at h. refl;
    receive = λ n x at h. h;
    undecided = λ k at receiving h. refl;
    held = λ s w at.
        choose (λ (x : SecurityRow). x.state ≡ security.Held → w.state ≡ security.Held) (has_number s o) (settled state w) w
        (λ _ h. settled_held state w.state h) (λ _ h. h);
    held_live = λ s w l at h lot_is live. live;
    active = λ a w at h. h;
    active_tender = λ a w e at active e_at opened.
        choose (λ (x : EnvelopeRow). x.state ≡ envelope.Opened) (eq_by_cmp nat_cmp w.receipt r0) (change e) e
        (λ same. stays_opened e (sym (ap V.envelope_at (equal_numbers w.receipt r0 same)) ∙ e_at) opened)
        (λ _. opened);
    active_lot = λ a w at active awarded. refl;
  }

-- a sealed tender can be withdrawn
pub fair_withdrawal : (V : View) (r0 : ℕ) (e0 : EnvelopeRow) → V.envelope_at r0 ≡ Some e0 → e0.state ≡ envelope.Sealed → (state : SecurityState) (o : Option ℕ)
    → IsFair (taking_back V r0 withdrawn state o) V
fair_withdrawal V r0 e0 found sealed state o =
    fair_taking_back V r0 withdrawn state o (λ e. refl) (λ e. refl) (λ e. refl) (λ e h. let no : envelope.Withdrawn ≡ envelope.Sealed = h in cc)
    (λ e at opened.
    let both : Some e ≡ Some e0 = sym at ∙ found in
    let it : e ≡ e0 = cc in
    let no : envelope.Opened ≡ envelope.Sealed = sym opened ∙ ap (λ (x : EnvelopeRow). x.state) it ∙ sealed in cc)

-- sealed tenders of a notice are opened
module _ (V : View) (n : List ℕ) (test : EnvelopeRow → Bool) (open_row : ℕ → EnvelopeRow → EnvelopeRow)
    (notice_to : List ℕ → NoticeState → NoticeState)
    (sealed_test : (e : EnvelopeRow) → test e ≡ true → e.state ≡ envelope.Sealed)
    (all_test : (e : EnvelopeRow) → e.state ≡ envelope.Sealed → test e ≡ false → notice_to e.notice notice.Receiving ≡ notice.Receiving)
    (row_opened : (r : ℕ) (e : EnvelopeRow) → (open_row r e).state ≡ envelope.Opened)
    (row_notice : (r : ℕ) (e : EnvelopeRow) → (open_row r e).notice ≡ e.notice) (row_lot : (r : ℕ) (e : EnvelopeRow) → (open_row r e).lot ≡ e.lot)
    (row_security : (r : ℕ) (e : EnvelopeRow) → (open_row r e).security ≡ e.security)
    (receive : (n : List ℕ) (x : NoticeState) → notice_to n x ≡ notice.Receiving → x ≡ notice.Receiving) where
  abbrev pub opening : Change
  opening = record {
    envelope_to = λ r e. cond (test e) (open_row r e) e;
    security_to = λ s w. w;
    award_to = λ a w. w;
    lot_to = λ k l. l;
    notice_to = notice_to;
  }

  pub fair_opening : IsFair opening V
  fair_opening = record {
    keeps = record {
      e_notice = λ r e. cond_keeps (λ (e : EnvelopeRow). e.notice) (test e) (open_row r e) e (row_notice r e);
      e_lot = λ r e. cond_keeps (λ (e : EnvelopeRow). e.lot) (test e) (open_row r e) e (row_lot r e);
      e_security = λ r e. cond_keeps (λ (e : EnvelopeRow). e.security) (test e) (open_row r e) e (row_security r e);
      s_notice = λ s w. refl;
      s_lot = λ s w. refl;
      a_notice = λ a w. refl;
      a_lot = λ a w. refl;
      a_receipt = λ a w. refl;
    };
    sealed = λ r e at.
        choose (λ (x : EnvelopeRow). x.state ≡ envelope.Sealed → e.state ≡ envelope.Sealed) (test e) (open_row r e) e (λ t h. sealed_test e t)
        (λ _ h. h);
    sealed_notice = λ r e at.
        choose (λ (x : EnvelopeRow). x.state ≡ envelope.Sealed → notice_to e.notice notice.Receiving ≡ notice.Receiving) (test e) (open_row r e) e
        (λ t h. let no : envelope.Opened ≡ envelope.Sealed = sym (row_opened r e) ∙ h in cc)
        (λ f h. all_test e h f);
    receive = λ n x at h. receive n x h;
    undecided = λ k at receiving h. refl;
    held = λ s w at h. h;
    held_live = λ s w l at h lot_is live. live;
    active = λ a w at h. h;
    active_tender = λ a w e at active e_at opened.
        choose (λ (x : EnvelopeRow). x.state ≡ envelope.Opened) (test e) (open_row w.receipt e) e
        (λ t. row_opened w.receipt e)
        (λ _. opened);
    active_lot = λ a w at active awarded. refl;
  }

-- a tender is examined
module _ (V : View) (r0 : ℕ) (examine : EnvelopeRow → EnvelopeRow) (row_state : (e : EnvelopeRow) → (examine e).state ≡ e.state)
    (row_notice : (e : EnvelopeRow) → (examine e).notice ≡ e.notice)
    (row_lot : (e : EnvelopeRow) → (examine e).lot ≡ e.lot) (row_security : (e : EnvelopeRow) → (examine e).security ≡ e.security) where
  abbrev pub examination : Change
  examination = record {
    envelope_to = λ r e. cond (eq_by_cmp nat_cmp r r0) (examine e) e;
    security_to = λ s w. w;
    award_to = λ a w. w;
    lot_to = λ k l. l;
    notice_to = λ n x. x;
  }

  state_same : (r : ℕ) (e : EnvelopeRow) → (examination.envelope_to r e).state ≡ e.state
  state_same r e = cond_keeps (λ (e : EnvelopeRow). e.state) (eq_by_cmp nat_cmp r r0) (examine e) e (row_state e)

  pub fair_examination : IsFair examination V
  fair_examination = record {
    keeps = record {
      e_notice = λ r e. cond_keeps (λ (e : EnvelopeRow). e.notice) (eq_by_cmp nat_cmp r r0) (examine e) e (row_notice e);
      e_lot = λ r e. cond_keeps (λ (e : EnvelopeRow). e.lot) (eq_by_cmp nat_cmp r r0) (examine e) e (row_lot e);
      e_security = λ r e. cond_keeps (λ (e : EnvelopeRow). e.security) (eq_by_cmp nat_cmp r r0) (examine e) e (row_security e);
      s_notice = λ s w. refl;
      s_lot = λ s w. refl;
      a_notice = λ a w. refl;
      a_lot = λ a w. refl;
      a_receipt = λ a w. refl;
    };
    sealed = λ r e at h. sym (state_same r e) ∙ h;
    sealed_notice = λ r e at h. refl;
    receive = λ n x at h. h;
    undecided = λ k at receiving h. refl;
    held = λ s w at h. h;
    held_live = λ s w l at h lot_is live. live;
    active = λ a w at h. h;
    active_tender = λ a w e at active e_at opened. state_same w.receipt e ∙ opened;
    active_lot = λ a w at active awarded. refl;
  }
