-- A command that changes rows in place and takes no tender in.
use Rattle.office_machine.proofs.Names.{◌≡◌, ℕ, true, false, cond, not, List, ◌∷◌, Option, Some, None, option_map, is_some, refl, sym, ap, ◌∙◌, subst, arith, nat_tests, nat_cmp_total, nat_cmp-IsAntisymmetric, NamedSecurity, holds_of, NoticeRow, EnvelopeRow, SecurityRow, EnvelopeState, LotState, is_sealed, is_held, is_past_deadline, Tables, security_key, envelope_at, seal_at, security_at, notice_at, find_security, put_security, Given, Readings, Reception, received_by, received_at, tender_decided, fate_of_tender, security_decided, fate_of_security, is_kept, has_number, is_before_deadline, is_effective, EnvelopeIs, SecurityIs, found_key}
use Rattle.office_base.specs.declared.records.EnvelopeState.TheVariants as envelope
use Rattle.office_machine.proofs.Rows.RowsChanged.{row_at-changed_put}
use Rattle.office_machine.proofs.Rows.Counting.{is_live}
use Rattle.office_machine.proofs.FateLaws.Views.{View, IsSound, EnvelopeFits, Change, IsFair, after_change, sound_changed}
use Rattle.office_machine.proofs.FateLaws.Matched.{EnvelopeKeeps, SecurityKeeps, EnvelopesMatch}
use Rattle.office_machine.proofs.FateLaws.Seen.{seen}
use Rattle.office_machine.proofs.FateLaws.FatesHold.{FatesStand, HaveFates, tenders_changed, named_changed}
use Rattle.office_machine.proofs.Rows.Keyed as keyed

-- the command changes tenders, seals and securities as it decides about them
pub record Decides (digest : List ℕ → List ℕ) (xs : List Given) (x : Given) (t u : Tables) (c : Change) : Type 0 where
  pub none : received_by x.command x (λ q. received_at xs q) ≡ None
  pub seen_is : seen u ≡ after_change c (seen t)
  pub receipts_are : u.clock.receipts ≡ t.clock.receipts
  pub e_keeps : EnvelopeKeeps digest c.envelope_to
  pub s_keeps : SecurityKeeps c.security_to
  pub tender_goes : (r : ℕ) (e : EnvelopeRow) (a : Reception) → envelope_at r t ≡ Some e → received_at xs r ≡ Some a
      → EnvelopeIs digest r a (fate_of_tender xs r) e (seal_at r t)
      → (c.envelope_to r e).state ≡ cond (is_sealed e.state) (tender_decided x.command x (received_at xs) r) e.state
  pub seal_goes : (r : ℕ) (e : EnvelopeRow) (a : Reception) → envelope_at r t ≡ Some e → EnvelopeIs digest r a (fate_of_tender xs r) e (seal_at r t)
      → seal_at r u ≡ cond (is_kept (c.envelope_to r e).state) (Some (record { receipt = r; bytes = a.bytes })) None
  pub no_seal : (r : ℕ) → envelope_at r t ≡ None → seal_at r t ≡ None → seal_at r u ≡ None
  pub security_goes : (s : ℕ) (w : SecurityRow) (a : Reception) (named : NamedSecurity) → security_at s t ≡ Some w → received_at xs s ≡ Some a
      → SecurityIs s a named (fate_of_security xs s) w
      → (c.security_to s w).state ≡ cond (is_held w.state) (security_decided x.command x (received_at xs) s) w.state

pub kept_by_change : (readings : Readings) (xs : List Given) (x : Given) (t u : Tables) (c : Change) → FatesStand readings xs t → IsFair c (seen t)
    → Decides readings.digest xs x t u c → HaveFates readings (x ∷ xs) u
kept_by_change readings xs x t u c kept fair d = record {
  sound = subst IsSound (sym d.seen_is) (sound_changed c (seen t) kept.sound fair);
  tenders =
      subst (λ (n : ℕ). EnvelopesMatch readings.digest (received_at (x ∷ xs)) (fate_of_tender (x ∷ xs)) (λ r. seal_at r u) n (λ r. envelope_at r u)) (sym d.receipts_are)
      (tenders_changed readings.digest xs x d.none t.clock.receipts (λ r. envelope_at r t) (λ r. envelope_at r u) (λ r. seal_at r t) (λ r. seal_at r u) kept.tenders
      c.envelope_to d.e_keeps (λ r. ap (λ (V : View). V.envelope_at r) d.seen_is) d.tender_goes d.seal_goes d.no_seal);
  named =
      named_changed readings.digest xs x d.none (λ s. security_at s t) (λ s. security_at s u) kept.named c.security_to d.s_keeps (λ s. ap (λ (V : View). V.security_at s) d.seen_is) d.security_goes;
}

pub is_sealed_state : (s : EnvelopeState) → not (is_sealed s) ≡ false → s ≡ envelope.Sealed
is_sealed_state envelope.Sealed h = refl
is_sealed_state envelope.Withdrawn h = cc
is_sealed_state envelope.Returned h = cc
is_sealed_state envelope.Opened h = cc

live_by : (V : View) → IsSound V → (e : EnvelopeRow) → EnvelopeFits V e → e.state ≡ envelope.Sealed → (o : Option LotState)
    → V.lot_at (e.notice, e.lot) ≡ o → is_live o ≡ true
live_by V sound e fits sealed None at = let no : false ≡ true = sym (ap is_some at) ∙ fits.housed in cc
live_by V sound e fits sealed (Some l) at = ap (λ x. is_live (Some x)) (sound.undecided (e.notice, e.lot) l (fits.receiving sealed) at)

-- the lot of a sealed tender is live
pub sealed_live : (V : View) → IsSound V → (e : EnvelopeRow) → EnvelopeFits V e → e.state ≡ envelope.Sealed
    → is_live (V.lot_at (e.notice, e.lot)) ≡ true
sealed_live V sound e fits sealed = live_by V sound e fits sealed (V.lot_at (e.notice, e.lot)) refl

map_same : {X : Type 0} (o : Option X) → o ≡ option_map (λ x. x) o
map_same None = refl
map_same (Some x) = refl

pub securities_put : (make : SecurityRow → SecurityRow) (rows : List SecurityRow) (n : ℕ) (w : SecurityRow) → find_security rows n ≡ Some w
    → (make w).security ≡ w.security
    → (s : ℕ) → find_security (put_security rows (make w)) s ≡ option_map (λ w. cond (has_number s (Some n)) (make w) w) (find_security rows s)
securities_put make rows n w found keeps s =
    row_at-changed_put nat_cmp_total nat_cmp-IsAntisymmetric security_key make rows n s w found (keeps ∙ found_key keyed.securities rows n w found)

pub securities_left : (make : SecurityRow → SecurityRow) (rows : List SecurityRow) (s : ℕ)
    → find_security rows s ≡ option_map (λ w. cond (has_number s None) (make w) w) (find_security rows s)
securities_left make rows s = map_same (find_security rows s)

past : (t : ℕ) (o : Option NoticeRow) → holds_of (is_past_deadline t) o ≡ true → holds_of (is_before_deadline t) o ≡ false
past t None late = cc
past t (Some n) late = grind (arith, nat_tests)

-- if the deadline of its notice is over, the withdrawal of a tender is too late
pub not_effective : (xs : List Given) (x : Given) (r : ℕ) (e : EnvelopeRow) (a : Reception) → received_at xs r ≡ Some a → e.notice ≡ a.notice
    → holds_of (is_past_deadline (Rattle.office_machine.specs.Machine.time_of x)) (notice_at e.notice x.before) ≡ true → is_effective x (received_at xs r) ≡ false
not_effective xs x r e a came_is same late =
    ap (is_effective x) came_is
    ∙ ap (λ n. holds_of (is_before_deadline (Rattle.office_machine.specs.Machine.time_of x)) (notice_at n x.before)) (sym same)
    ∙ past (Rattle.office_machine.specs.Machine.time_of x) (notice_at e.notice x.before) late

not_past : (t : ℕ) (o : Option NoticeRow) → is_some o ≡ true → holds_of (is_past_deadline t) o ≡ false → holds_of (is_before_deadline t) o ≡ true
not_past t None there h = there
not_past t (Some n) there h = grind (arith, nat_tests)

-- if the deadline of its notice isn't over, the withdrawal of a tender is in time
pub effective : (digest : List ℕ → List ℕ) (xs : List Given) (x : Given) (r : ℕ) (e : EnvelopeRow) (a : Reception) → EnvelopeFits (seen x.before) e
    → received_at xs r ≡ Some a → e.notice ≡ a.notice
    → holds_of (is_past_deadline (Rattle.office_machine.specs.Machine.time_of x)) (notice_at e.notice x.before) ≡ false → is_effective x (received_at xs r) ≡ true
effective digest xs x r e a fits came_is same not_late =
    ap (is_effective x) came_is
    ∙ ap (λ n. holds_of (is_before_deadline (Rattle.office_machine.specs.Machine.time_of x)) (notice_at n x.before)) (sym same)
    ∙ not_past (Rattle.office_machine.specs.Machine.time_of x) (notice_at e.notice x.before) (there (notice_at e.notice x.before) fits.noticed) not_late
  where
    there : (o : Option NoticeRow) → is_some (option_map (λ (n : NoticeRow). n.state) o) ≡ true → is_some o ≡ true
    there None h = h
    there (Some n) h = refl
