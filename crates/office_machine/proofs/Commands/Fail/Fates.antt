-- A failure of an award keeps the fates.
use Rattle.office_machine.proofs.Names.{◌≡◌, ℕ, Bool, true, false, cond, List, ◌∷◌, Option, Some, None, option_map, option_and_then, is_some, max, refl, sym, ap, ◌∙◌, subst, AllByRecursion, nat_cmp_total, nat_cmp-IsAntisymmetric, nat_cmp, eq_by_cmp, NamedSecurity, Caller, Fail, Refusal, NoticeRow, LotRow, EnvelopeRow, SecurityRow, AwardRow, Put, is_held, first_of, with_next_release, passed_over, settled, failed_award, undecided_again, fail_tests, fail_puts, Tables, envelope_key, award_key, envelope_at, seal_at, security_at, award_at, lot_at, notice_at, after_puts, notice_of_award, lot_of_award, envelope_of_award, security_of_envelope, Given, Readings, Reception, received_at, fate_of_tender, security_decided, fate_of_security, is_kept, has_number, carries, is_award_security, SecurityIs, found_key}
use Rattle.office_base.specs.declared.records.SecurityState.TheVariants as security
use Rattle.office_base.specs.declared.records.AwardState.TheVariants as award
use Rattle.office_base.specs.declared.records.LotState.TheVariants as lot
use Rattle.office_machine.proofs.Passed.{none_holds}
use Rattle.office_machine.proofs.Rows.RowsChanged.{row_at-changed_put}
use Rattle.office_machine.proofs.FateLaws.Views.{AwardFits, Change, after_change}
use Rattle.office_machine.proofs.FateLaws.Matched.{EnvelopeStands}
use Rattle.office_machine.proofs.FateLaws.Steps.{cond_keeps, settled_keep, settled_goes}
use Rattle.office_machine.proofs.FateLaws.Decisions.{failing, fair_failing}
use Rattle.office_machine.proofs.FateLaws.Seen.{seen, alike, lot_state, notice_state, notices-same}
use Rattle.office_machine.proofs.FateLaws.FatesHold.{FatesStand, HaveFates, Keeps, given, still_sealed}
use Rattle.office_machine.proofs.FateLaws.QuietFates.{notice_stands}
use Rattle.office_machine.proofs.FateLaws.FatesChanged.{kept_by_change, securities_put, securities_left}
use Rattle.office_machine.proofs.FateLaws.States.{map_same, lots_put, active_state}
use Rattle.office_machine.proofs.Rows.Keyed as keyed

-- the row that has this state
pub row_of : {X S : Type 0} (f : X → S) (o : Option X) (s : S) → option_map f o ≡ Some s → (x : X) × (o ≡ Some x) × (f x ≡ s)
row_of f None s h = let no : None ≡ Some s = h in absurd cc
row_of f (Some x) s h = (x, refl, let is : Some (f x) ≡ Some s = h in cc)

pub row_there : {X S : Type 0} (f : X → S) (o : Option X) → is_some (option_map f o) ≡ true → (x : X) × (o ≡ Some x)
row_there f None h = absurd (let no : false ≡ true = h in cc)
row_there f (Some x) h = (x, refl)

module _ (readings : Readings) (number : ℕ) (xs : List Given) (t : Tables) (m : ℕ) (caller : Caller) (kept : FatesStand readings xs t)
    (w : AwardRow) (found : award_at number t ≡ Some w) (active : w.state ≡ award.Active) where
  abbrev T : ℕ
  T = max m t.clock.moment

  abbrev x : Given
  x = given t m caller (Fail number)

  abbrev fits : AwardFits (seen t) w
  fits = kept.sound.awards number w found active

  abbrev e : EnvelopeRow
  e = fits.tender

  abbrev stands : EnvelopeStands readings.digest w.receipt (received_at xs w.receipt) (fate_of_tender xs w.receipt) e (seal_at w.receipt t)
  stands = kept.tenders.received w.receipt e fits.found

  abbrev c : Change
  c = failing (seen t) kept.sound number w found active fits

  abbrev forfeited : SecurityRow → SecurityRow
  forfeited s = settled security.Forfeited s

  module _ (n : NoticeRow) (notice_found : notice_at w.notice t ≡ Some n) (l : LotRow) (lot_found : lot_at (w.notice, w.lot) t ≡ Some l) where
    abbrev ps : Option SecurityRow → List Put
    ps so = fail_puts (record { award = Some w; notice = Some n; lot = Some l; envelope = Some e; security = so; clock = t.clock }) T

    abbrev after : Option SecurityRow → Tables
    after so = after_puts (ps so) t

    security_goes : (s : ℕ) (v : SecurityRow) (a : Reception) (named : NamedSecurity) → security_at s t ≡ Some v → received_at xs s ≡ Some a
        → SecurityIs s a named (fate_of_security xs s) v
        → (c.security_to s v).state ≡ cond (is_held v.state) (security_decided (Fail number) x (received_at xs) s) v.state
    security_goes s v a named at came_is is =
        settled_goes security.Forfeited v (has_number s e.security) ∙ sym (ap (λ b. cond (is_held v.state) (cond b security.Forfeited security.Held) v.state) carried)
      where
        carried : is_award_security s (received_at xs) (award_at number t) ≡ has_number s e.security
        carried = ap (is_award_security s (received_at xs)) found ∙ ap (carries s) stands.came_is ∙ ap (has_number s) (sym stands.stands.security_is)

    failed_state : (r : ℕ) (d : EnvelopeRow) → (c.envelope_to r d).state ≡ d.state
    failed_state r d = cond_keeps (λ (e : EnvelopeRow). e.state) (eq_by_cmp nat_cmp r w.receipt) (passed_over d) d refl

    module _ (so : Option SecurityRow) (envelopes_are : (r : ℕ) → envelope_at r (after so) ≡ envelope_at r (after None))
        (back : (s : ℕ) → security_at s (after so) ≡ option_map (λ v. cond (has_number s e.security) (forfeited v) v) (security_at s t))
        (rest : seen (after so) ≡ record (seen (after None)) { envelope_at = λ r. envelope_at r (after so); security_at = λ s. security_at s (after so) })
        (seals_are : (after so).seals ≡ t.seals) (receipts_are : (after so).clock.receipts ≡ t.clock.receipts) where
      seen_is : seen (after so) ≡ after_change c (seen t)
      seen_is =
          rest
          ∙ alike (record (seen (after None)) { envelope_at = λ r. envelope_at r (after so); security_at = λ s. security_at s (after so) }) (after_change c (seen t))
          (λ r. envelopes_are r ∙ row_at-changed_put nat_cmp_total nat_cmp-IsAntisymmetric envelope_key passed_over t.envelopes w.receipt r e fits.found (found_key keyed.envelopes t.envelopes w.receipt e fits.found))
          back
          (λ a. row_at-changed_put nat_cmp_total nat_cmp-IsAntisymmetric award_key failed_award t.awards number a w found (found_key keyed.awards t.awards number w found))
          (λ k. lots_put t.lots (w.notice, w.lot) k l undecided_again (λ s. lot.Undecided) (λ l. refl) (λ l. refl) lot_found)
          (λ q. notices-same t.notices (with_next_release n) (notice_stands t w.notice n notice_found) q ∙ map_same ((seen t).notice_at q))

      failed_kept : HaveFates readings (x ∷ xs) (after so)
      failed_kept =
          kept_by_change readings xs x t (after so) c kept (fair_failing (seen t) kept.sound number w found active fits)
          (record {
            none = refl;
            seen_is = seen_is;
            receipts_are = receipts_are;
            e_keeps = record {
              notice = λ r d. cond_keeps (λ (e : EnvelopeRow). e.notice) (eq_by_cmp nat_cmp r w.receipt) (passed_over d) d refl;
              lot = λ r d. cond_keeps (λ (e : EnvelopeRow). e.lot) (eq_by_cmp nat_cmp r w.receipt) (passed_over d) d refl;
              tenderer = λ r d. cond_keeps (λ (e : EnvelopeRow). e.tenderer) (eq_by_cmp nat_cmp r w.receipt) (passed_over d) d refl;
              security = λ r d. cond_keeps (λ (e : EnvelopeRow). e.security) (eq_by_cmp nat_cmp r w.receipt) (passed_over d) d refl;
              moment = λ r d. cond_keeps (λ (e : EnvelopeRow). e.moment) (eq_by_cmp nat_cmp r w.receipt) (passed_over d) d refl;
              len = λ r d. cond_keeps (λ (e : EnvelopeRow). e.length) (eq_by_cmp nat_cmp r w.receipt) (passed_over d) d refl;
              digest = λ r d. cond_keeps (λ (e : EnvelopeRow). e.digest) (eq_by_cmp nat_cmp r w.receipt) (passed_over d) d refl;
            };
            s_keeps = settled_keep e.security security.Forfeited;
            tender_goes = λ r d a at came_is is. failed_state r d ∙ still_sealed d.state;
            seal_goes = λ r d a at is.
                ap (λ rows. Rattle.office_base.specs.Tables.find_seal rows r) seals_are ∙ is.seal_is
                ∙ ap (λ st. cond (is_kept st) (Some (record { receipt = r; bytes = a.bytes })) None) (sym (failed_state r d));
            no_seal = λ r at none. ap (λ rows. Rattle.office_base.specs.Tables.find_seal rows r) seals_are ∙ none;
            security_goes = security_goes;
          })

    by_security : (sec : Option ℕ) → e.security ≡ sec → HaveFates readings (x ∷ xs) (after (option_and_then (λ n. security_at n t) sec))
    by_security None none =
        failed_kept None (λ r. refl) (λ s. securities_left forfeited t.securities s ∙ ap (λ o. option_map (λ v. cond (has_number s o) (forfeited v) v) (security_at s t)) (sym none)) refl refl refl
    by_security (Some k) carried =
        let is = (kept.sound.envelopes w.receipt e fits.found).secured k carried in
        subst (λ so. HaveFates readings (x ∷ xs) (after so)) (sym is.found)
        (failed_kept (Some is.row) (λ r. refl)
        (λ s. securities_put forfeited t.securities k is.row is.found refl s ∙ ap (λ o. option_map (λ v. cond (has_number s o) (forfeited v) v) (security_at s t)) (sym carried))
        refl refl refl)

  -- the rows that the command needs exist
  pub rows_there : (P : Option NoticeRow → Option LotRow → Option EnvelopeRow → Type 0)
      → ((n : NoticeRow) → notice_at w.notice t ≡ Some n → (l : LotRow) → lot_at (w.notice, w.lot) t ≡ Some l → P (Some n) (Some l) (Some e))
      → P (notice_at w.notice t) (lot_at (w.notice, w.lot) t) (envelope_at w.receipt t)
  rows_there P f =
      let tender_fits = kept.sound.envelopes w.receipt e fits.found in
      let n = row_there notice_state (notice_at w.notice t) (subst (λ k. is_some ((seen t).notice_at k) ≡ true) fits.of_notice tender_fits.noticed) in
      let l = row_of lot_state (lot_at (w.notice, w.lot) t) lot.Awarded fits.awarded in
      subst (λ o. P o (lot_at (w.notice, w.lot) t) (envelope_at w.receipt t)) (sym n.1)
      (subst (λ o. P (Some n.0) o (envelope_at w.receipt t)) (sym l.1)
      (subst (λ o. P (Some n.0) (Some l.0) o) (sym fits.found) (f n.0 n.1 l.0 l.1)))

  fail_kept : HaveFates readings (x ∷ xs) (after_puts (fail_puts (record { award = Some w; notice = notice_at w.notice t; lot = (lot_at (w.notice, w.lot) t); envelope = envelope_at w.receipt t; security = (security_of_envelope (envelope_at w.receipt t) t); clock = t.clock }) T) t)
  fail_kept =
      rows_there (λ n l o. HaveFates readings (x ∷ xs) (after_puts (fail_puts (record { award = Some w; notice = n; lot = l; envelope = o; security = security_of_envelope o t; clock = t.clock }) T) t))
      (λ n n_is l l_is. by_security n n_is l l_is e.security refl)

fail_by : (readings : Readings) (number : ℕ) (xs : List Given) (t : Tables) (m : ℕ) (caller : Caller) (kept : FatesStand readings xs t) (o : Option AwardRow)
    → award_at number t ≡ o
    → first_of (fail_tests (record { award = o; notice = notice_of_award o t; lot = None; envelope = None; security = None; clock = t.clock }) (max m t.clock.moment)) ≡ None
    → HaveFates readings (given t m caller (Fail number) ∷ xs)
    (after_puts (fail_puts (record { award = o; notice = notice_of_award o t; lot = lot_of_award o t; envelope = envelope_of_award o t; security = (security_of_envelope (envelope_of_award o t) t); clock = t.clock }) (max m t.clock.moment)) t)
fail_by readings number xs t m caller kept None found allowed =
    let passes : AllByRecursion (λ (test : Bool × Refusal). test.0 ≡ false) (fail_tests (record { award = None; notice = None; lot = None; envelope = None; security = None; clock = t.clock }) (max m t.clock.moment)) = none_holds (fail_tests (record { award = None; notice = None; lot = None; envelope = None; security = None; clock = t.clock }) (max m t.clock.moment)) allowed in
    let no : true ≡ false = passes.0 in absurd cc
fail_by readings number xs t m caller kept (Some w) found allowed =
    let tests = fail_tests (record { award = Some w; notice = notice_at w.notice t; lot = None; envelope = None; security = None; clock = t.clock }) (max m t.clock.moment) in
    let passes : AllByRecursion (λ (test : Bool × Refusal). test.0 ≡ false) tests = none_holds tests allowed in
    fail_kept readings number xs t m caller kept w found (active_state w.state passes.1.0)

pub fail_keeps : (readings : Readings) (award : ℕ) → Keeps readings (Fail award)
fail_keeps readings number xs t m caller kept _ allowed = fail_by readings number xs t m caller kept (award_at number t) refl allowed
