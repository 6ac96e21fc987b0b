-- A withdrawal keeps the fates.
use Rattle.office_machine.proofs.Names.{◌≡◌, ℕ, Bool, true, false, cond, not, ◌&&◌, List, ◌∷◌, Option, Some, None, option_map, option_and_then, is_some, max, refl, sym, ap, ◌∙◌, subst, AllByRecursion, nat_cmp_total, nat_cmp-IsAntisymmetric, nat_cmp, eq_by_cmp, Caller, Withdraw, Refusal, holds_of, EnvelopeRow, SealRow, SecurityRow, SecurityState, LateRow, is_sealed, is_held, first_of, is_past_deadline, passed_over, settled, withdrawn, taken_back_puts, cant_be_taken_back, withdraw_tests, withdraw_puts, Tables, envelope_key, envelope_at, seal_at, security_at, notice_at, find_envelope, find_security, find_seal, put_envelope, put_security, after_puts, notice_of_envelope, lot_of_envelope, security_of_envelope, late_of_envelope, Given, Readings, Reception, received_at, tender_decided, fate_of_tender, security_decided, is_kept, has_number, carries, is_effective, withdrawn_security, EnvelopeIs, row_at-row_drop, found_key}
use Rattle.office_base.specs.declared.records.EnvelopeState.TheVariants as envelope
use Rattle.office_base.specs.declared.records.SecurityState.TheVariants as security
use Rattle.office_machine.proofs.Passed.{none_holds}
use Rattle.office_machine.proofs.Rows.RowsChanged.{row_at-changed_put}
use Rattle.office_machine.proofs.FateLaws.Views.{EnvelopeFits, Change, IsFair, after_change}
use Rattle.office_machine.proofs.FateLaws.Added.{equal_numbers}
use Rattle.office_machine.proofs.FateLaws.Matched.{EnvelopeStands, EnvelopeKeeps}
use Rattle.office_machine.proofs.FateLaws.Steps.{cond_keeps, settled_keep, settled_goes, taking_back, fair_taking_back, fair_withdrawal}
use Rattle.office_machine.proofs.FateLaws.Seen.{seen, alike}
use Rattle.office_machine.proofs.FateLaws.FatesHold.{FatesStand, HaveFates, Keeps, given, still_sealed}
use Rattle.office_machine.proofs.FateLaws.FatesChanged.{kept_by_change, is_sealed_state, securities_put, securities_left, effective, not_effective}
use Rattle.office_machine.proofs.Rows.Keyed as keyed

-- the columns of rows that a withdrawal doesn't change
module _ (digest : List ℕ → List ℕ) (receipt : ℕ) (change : EnvelopeRow → EnvelopeRow)
    (notice : (e : EnvelopeRow) → (change e).notice ≡ e.notice) (lot : (e : EnvelopeRow) → (change e).lot ≡ e.lot)
    (tenderer : (e : EnvelopeRow) → (change e).tenderer ≡ e.tenderer) (carried : (e : EnvelopeRow) → (change e).security ≡ e.security)
    (at : (e : EnvelopeRow) → (change e).moment ≡ e.moment) (len : (e : EnvelopeRow) → (change e).length ≡ e.length) (hash : (e : EnvelopeRow) → (change e).digest ≡ e.digest) where
  tenders_keep : EnvelopeKeeps digest (λ r e. cond (eq_by_cmp nat_cmp r receipt) (change e) e)
  tenders_keep = record {
    notice = λ r d. cond_keeps (λ (e : EnvelopeRow). e.notice) (eq_by_cmp nat_cmp r receipt) (change d) d (notice d);
    lot = λ r d. cond_keeps (λ (e : EnvelopeRow). e.lot) (eq_by_cmp nat_cmp r receipt) (change d) d (lot d);
    tenderer = λ r d. cond_keeps (λ (e : EnvelopeRow). e.tenderer) (eq_by_cmp nat_cmp r receipt) (change d) d (tenderer d);
    security = λ r d. cond_keeps (λ (e : EnvelopeRow). e.security) (eq_by_cmp nat_cmp r receipt) (change d) d (carried d);
    moment = λ r d. cond_keeps (λ (e : EnvelopeRow). e.moment) (eq_by_cmp nat_cmp r receipt) (change d) d (at d);
    len = λ r d. cond_keeps (λ (e : EnvelopeRow). e.length) (eq_by_cmp nat_cmp r receipt) (change d) d (len d);
    digest = λ r d. cond_keeps (λ (e : EnvelopeRow). e.digest) (eq_by_cmp nat_cmp r receipt) (change d) d (hash d);
  }

map_same : {X : Type 0} (o : Option X) → o ≡ option_map (λ x. x) o
map_same None = refl
map_same (Some x) = refl

module _ (readings : Readings) (receipt : ℕ) (xs : List Given) (t : Tables) (m : ℕ) (caller : Caller) (kept : FatesStand readings xs t) where
  abbrev T : ℕ
  T = max m t.clock.moment

  abbrev x : Given
  x = given t m caller (Withdraw receipt)

  module _ (e : EnvelopeRow) (found : envelope_at receipt t ≡ Some e) where
    abbrev fits : EnvelopeFits (seen t) e
    fits = kept.sound.envelopes receipt e found

    abbrev stands : EnvelopeStands readings.digest receipt (received_at xs receipt) (fate_of_tender xs receipt) e (seal_at receipt t)
    stands = kept.tenders.received receipt e found

    own : e.receipt ≡ receipt
    own = found_key keyed.envelopes t.envelopes receipt e found

    -- the security gets the state that the command decides
    security_goes : (state : SecurityState) → withdrawn_security x (received_at xs receipt) ≡ state → (s : ℕ) (w : SecurityRow)
        → (let w' : SecurityRow = cond (has_number s e.security) (settled state w) w in w'.state) ≡ cond (is_held w.state) (security_decided (Withdraw receipt) x (received_at xs) s) w.state
    security_goes state decided s w =
        settled_goes state w (has_number s e.security)
        ∙ sym (ap (λ b. cond (is_held w.state) (cond b (withdrawn_security x (received_at xs receipt)) security.Held) w.state) carried
        ∙ ap (λ d. cond (is_held w.state) (cond (has_number s e.security) d security.Held) w.state) decided)
      where
        carried : carries s (received_at xs receipt) ≡ has_number s e.security
        carried = ap (carries s) stands.came_is ∙ ap (has_number s) (sym stands.stands.security_is)

    -- the tender is changed and the security settled, as the command decides
    module _ (late : Bool) (change : EnvelopeRow → EnvelopeRow) (state : SecurityState) where
      abbrev c : Change
      c = taking_back (seen t) receipt change state e.security

      -- the tables after the command, with the put row of the security
      abbrev after : Option SecurityRow → Tables
      after so = after_puts (taken_back_puts t.clock T e so late) t

      abbrev settled_in : Option SecurityRow → List SecurityRow
      settled_in None = t.securities
      settled_in (Some w) = put_security t.securities (settled state w)

      -- the facts about these tables, with any security
      record Puts (so : Option SecurityRow) : Type 0 where
        envelopes_are : (after so).envelopes ≡ put_envelope t.envelopes (change e)
        securities_are : (after so).securities ≡ settled_in so
        seals_are : (after so).seals ≡ (after None).seals
        rest : seen (after so) ≡ record (seen t) { envelope_at = λ r. envelope_at r (after so); security_at = λ s. security_at s (after so) }
        receipts_are : (after so).clock.receipts ≡ t.clock.receipts

      module _ (own_still : (change e).receipt ≡ e.receipt)
          (keep : EnvelopeKeeps readings.digest c.envelope_to)
          (fair : IsFair c (seen t))
          (decided : withdrawn_security x (received_at xs receipt) ≡ state)
          (tender_goes : (r : ℕ) (d : EnvelopeRow) → envelope_at r t ≡ Some d → (c.envelope_to r d).state ≡ cond (is_sealed d.state) (tender_decided (Withdraw receipt) x (received_at xs) r) d.state)
          (seal_goes : (r : ℕ) (d : EnvelopeRow) (a : Reception) → envelope_at r t ≡ Some d → EnvelopeIs readings.digest r a (fate_of_tender xs r) d (seal_at r t)
          → seal_at r (after None) ≡ cond (is_kept (c.envelope_to r d).state) (Some (record { receipt = r; bytes = a.bytes })) None)
          (no_seal : (r : ℕ) → seal_at r t ≡ None → seal_at r (after None) ≡ None) where
        taken_kept : (so : Option SecurityRow) → Puts so
            → ((s : ℕ) → find_security (settled_in so) s ≡ option_map (λ w. cond (has_number s e.security) (settled state w) w) (security_at s t))
            → HaveFates readings (x ∷ xs) (after so)
        taken_kept so puts settles =
            kept_by_change readings xs x t (after so) c kept fair
            (record {
              none = refl;
              seen_is =
                  puts.rest
                  ∙ alike (record (seen t) { envelope_at = λ r. envelope_at r (after so); security_at = λ s. security_at s (after so) }) (after_change c (seen t))
                  (λ r. ap (λ rows. find_envelope rows r) puts.envelopes_are ∙ row_at-changed_put nat_cmp_total nat_cmp-IsAntisymmetric envelope_key change t.envelopes receipt r e found (own_still ∙ own))
                  (λ s. ap (λ rows. find_security rows s) puts.securities_are ∙ settles s)
                  (λ a. map_same ((seen t).award_at a))
                  (λ k. map_same ((seen t).lot_at k))
                  (λ n. map_same ((seen t).notice_at n));
              receipts_are = puts.receipts_are;
              e_keeps = keep;
              s_keeps = settled_keep e.security state;
              tender_goes = λ r d a at came_is is. tender_goes r d at;
              seal_goes = λ r d a at is. ap (λ rows. find_seal rows r) puts.seals_are ∙ seal_goes r d a at is;
              no_seal = λ r at none. ap (λ rows. find_seal rows r) puts.seals_are ∙ no_seal r none;
              security_goes = λ s w a named at came_is is. security_goes state decided s w;
            })

        by_security : ((so : Option SecurityRow) → Puts so) → (sec : Option ℕ) → e.security ≡ sec → HaveFates readings (x ∷ xs) (after (option_and_then (λ n. security_at n t) sec))
        by_security puts None none =
            taken_kept None (puts None)
            (λ s. securities_left (settled state) t.securities s ∙ ap (λ o. option_map (λ w. cond (has_number s o) (settled state w) w) (security_at s t)) (sym none))
        by_security puts (Some n) carried =
            let is = fits.secured n carried in
            subst (λ so. HaveFates readings (x ∷ xs) (after so)) (sym is.found)
            (taken_kept (Some is.row) (puts (Some is.row))
            (λ s. securities_put (settled state) t.securities n is.row is.found refl s ∙ ap (λ o. option_map (λ w. cond (has_number s o) (settled state w) w) (security_at s t)) (sym carried)))

    -- a withdrawal before the deadline
    module _ (not_late : holds_of (is_past_deadline T) (notice_at e.notice t) ≡ false) (sealed : e.state ≡ envelope.Sealed) where
      in_time : is_effective x (received_at xs receipt) ≡ true
      in_time = effective readings.digest xs x receipt e stands.came fits stands.came_is stands.stands.of_notice not_late

      tender_goes : (r : ℕ) (d : EnvelopeRow) → envelope_at r t ≡ Some d
          → (let d' : EnvelopeRow = cond (eq_by_cmp nat_cmp r receipt) (withdrawn d) d in d'.state) ≡ cond (is_sealed d.state) (tender_decided (Withdraw receipt) x (received_at xs) r) d.state
      tender_goes r d at =
          by (eq_by_cmp nat_cmp r receipt) refl
        where
          by : (b : Bool) → eq_by_cmp nat_cmp r receipt ≡ b
              → (let d' : EnvelopeRow = cond b (withdrawn d) d in d'.state) ≡ cond (is_sealed d.state) (cond (b && is_effective x (received_at xs r)) envelope.Withdrawn envelope.Sealed) d.state
          by true same =
              let one : r ≡ receipt = equal_numbers r receipt same in
              let it : Some d ≡ Some e = sym at ∙ ap (λ r. envelope_at r t) one ∙ found in
              let is_e : d ≡ e = cc in
              let was : d.state ≡ envelope.Sealed = ap (λ (d : EnvelopeRow). d.state) is_e ∙ sealed in
              let now : is_effective x (received_at xs r) ≡ true = ap (λ r. is_effective x (received_at xs r)) one ∙ in_time in
              sym (ap (λ s. cond (is_sealed s) (cond (is_effective x (received_at xs r)) envelope.Withdrawn envelope.Sealed) s) was ∙ ap (λ b. cond b envelope.Withdrawn envelope.Sealed) now)
          by false other = still_sealed d.state

      seal_is : (r : ℕ) → seal_at r (after false withdrawn security.Returned None) ≡ cond (eq_by_cmp nat_cmp r receipt) None (seal_at r t)
      seal_is r =
          row_at-row_drop keyed.seals t.seals e.receipt r kept.order.seals
          ∙ ap (λ k. cond (eq_by_cmp nat_cmp r k) None (seal_at r t)) own

      dropped : (b : Bool) (d : EnvelopeRow) (a : Reception) (r : ℕ) → EnvelopeIs readings.digest r a (fate_of_tender xs r) d (seal_at r t)
          → cond b None (seal_at r t) ≡ cond (is_kept (let d' : EnvelopeRow = cond b (withdrawn d) d in d'.state)) (Some (record { receipt = r; bytes = a.bytes })) None
      dropped true d a r is = refl
      dropped false d a r is = is.seal_is

      never : (b : Bool) (o : Option SealRow) → o ≡ None → cond b None o ≡ None
      never true o none = refl
      never false o none = none

      early_kept : HaveFates readings (x ∷ xs) (after false withdrawn security.Returned (option_and_then (λ n. security_at n t) e.security))
      early_kept =
          by_security false withdrawn security.Returned refl
          (tenders_keep readings.digest receipt withdrawn (λ e. refl) (λ e. refl) (λ e. refl) (λ e. refl) (λ e. refl) (λ e. refl) (λ e. refl))
          (fair_withdrawal (seen t) receipt e found sealed security.Returned e.security)
          (ap (λ b. cond b security.Returned security.Forfeited) in_time)
          tender_goes
          (λ r d a at is. seal_is r ∙ dropped (eq_by_cmp nat_cmp r receipt) d a r is)
          (λ r none. seal_is r ∙ never (eq_by_cmp nat_cmp r receipt) (seal_at r t) none)
          puts e.security refl
        where
          puts : (so : Option SecurityRow) → Puts false withdrawn security.Returned so
          puts None = record { envelopes_are = refl; securities_are = refl; seals_are = refl; rest = refl; receipts_are = refl }
          puts (Some w) = record { envelopes_are = refl; securities_are = refl; seals_are = refl; rest = refl; receipts_are = refl }

    -- a withdrawal from the deadline on leaves the tender's state and its seal
    module _ (is_past : holds_of (is_past_deadline T) (notice_at e.notice t) ≡ true) where
      too_late : is_effective x (received_at xs receipt) ≡ false
      too_late = not_effective xs x receipt e stands.came stands.came_is stands.stands.of_notice is_past

      same_state : (r : ℕ) (d : EnvelopeRow) → (let d' : EnvelopeRow = cond (eq_by_cmp nat_cmp r receipt) (passed_over d) d in d'.state) ≡ d.state
      same_state r d = cond_keeps (λ (e : EnvelopeRow). e.state) (eq_by_cmp nat_cmp r receipt) (passed_over d) d refl

      stays : (r : ℕ) (d : EnvelopeRow) → d.state ≡ cond (is_sealed d.state) (tender_decided (Withdraw receipt) x (received_at xs) r) d.state
      stays r d = by (eq_by_cmp nat_cmp r receipt) refl
        where
          by : (b : Bool) → eq_by_cmp nat_cmp r receipt ≡ b → d.state ≡ cond (is_sealed d.state) (cond (b && is_effective x (received_at xs r)) envelope.Withdrawn envelope.Sealed) d.state
          by true same =
              let no : is_effective x (received_at xs r) ≡ false = ap (λ r. is_effective x (received_at xs r)) (equal_numbers r receipt same) ∙ too_late in
              still_sealed d.state ∙ sym (ap (λ b. cond (is_sealed d.state) (cond b envelope.Withdrawn envelope.Sealed) d.state) no)
          by false other = still_sealed d.state

      late_kept : HaveFates readings (x ∷ xs) (after true passed_over security.Forfeited (option_and_then (λ n. security_at n t) e.security))
      late_kept =
          by_security true passed_over security.Forfeited refl
          (tenders_keep readings.digest receipt passed_over (λ e. refl) (λ e. refl) (λ e. refl) (λ e. refl) (λ e. refl) (λ e. refl) (λ e. refl))
          (fair_taking_back (seen t) receipt passed_over security.Forfeited e.security (λ e. refl) (λ e. refl) (λ e. refl) (λ e h. h) (λ e at h. h))
          (ap (λ b. cond b security.Returned security.Forfeited) too_late)
          (λ r d at. same_state r d ∙ stays r d)
          (λ r d a at is. is.seal_is ∙ ap (λ st. cond (is_kept st) (Some (record { receipt = r; bytes = a.bytes })) None) (sym (same_state r d)))
          (λ r none. none)
          puts e.security refl
        where
          puts : (so : Option SecurityRow) → Puts true passed_over security.Forfeited so
          puts None = record { envelopes_are = refl; securities_are = refl; seals_are = refl; rest = refl; receipts_are = refl }
          puts (Some w) = record { envelopes_are = refl; securities_are = refl; seals_are = refl; rest = refl; receipts_are = refl }

    -- a withdrawal is early or late as the deadline and the notice say
    taken_back_kept : (late : Option LateRow) (past : Bool) → holds_of (is_past_deadline T) (notice_at e.notice t) ≡ past → (not (is_some late) && past) ≡ false
        → ((is_some late && past) ≡ false → e.state ≡ envelope.Sealed)
        → HaveFates readings (x ∷ xs) (after_puts (taken_back_puts t.clock T e (option_and_then (λ n. security_at n t) e.security) (is_some late && past)) t)
    taken_back_kept (Some late) true is allowed sealed = late_kept is
    taken_back_kept (Some late) false is allowed sealed = early_kept is (sealed refl)
    taken_back_kept None true is allowed sealed = let no : true ≡ false = allowed in absurd cc
    taken_back_kept None false is allowed sealed = early_kept is (sealed refl)

  by_envelope : (o : Option EnvelopeRow) → envelope_at receipt t ≡ o
      → first_of (withdraw_tests (record { envelope = o; notice = notice_of_envelope o t; lot = lot_of_envelope o t; late = late_of_envelope o t; security = None; clock = t.clock }) T caller) ≡ None
      → HaveFates readings (x ∷ xs) (after_puts (withdraw_puts (record { envelope = o; notice = notice_of_envelope o t; lot = None; late = late_of_envelope o t; security = security_of_envelope o t; clock = t.clock }) T) t)
  by_envelope None found allowed =
      let tests = withdraw_tests (record { envelope = None; notice = None; lot = None; late = None; security = None; clock = t.clock }) T caller in
      let passes : AllByRecursion (λ (test : Bool × Refusal). test.0 ≡ false) tests = none_holds tests allowed in
      let no : true ≡ false = passes.0 in absurd cc
  by_envelope (Some e) found allowed =
      let tests = withdraw_tests (record { envelope = Some e; notice = notice_at e.notice t; lot = (lot_of_envelope (Some e) t); late = (late_of_envelope (Some e) t); security = None; clock = t.clock }) T caller in
      let passes : AllByRecursion (λ (test : Bool × Refusal). test.0 ≡ false) tests = none_holds tests allowed in
      taken_back_kept e found (late_of_envelope (Some e) t) (holds_of (is_past_deadline T) (notice_at e.notice t)) refl passes.1.1.0
      (λ early. is_sealed_state e.state (sym (ap (λ b. cant_be_taken_back b e) early) ∙ passes.1.1.1.0))

pub withdraw_keeps : (readings : Readings) (receipt : ℕ) → Keeps readings (Withdraw receipt)
withdraw_keeps readings receipt xs t m caller kept _ allowed = by_envelope readings receipt xs t m caller kept (envelope_at receipt t) refl allowed
