-- A replacement keeps the fates.
use Rattle.office_machine.proofs.Names.{◌≡◌, ℕ, ◌+◌, Bool, true, false, cond, List, ◌∷◌, Option, Some, None, option_map, max, refl, sym, ap, ◌∙◌, subst, AllByRecursion, nat_cmp_total, nat_cmp-IsAntisymmetric, nat_cmp, eq_by_cmp, same_number, Tables, envelope_key, seal_key, put_envelope, drop_seal, envelope_at, seal_at, security_at, notice_at, after_puts, Caller, Modify, Refusal, EnvelopeRow, SealRow, is_sealed, first_of, withdrawn, replacing, modify_tests, modify_puts, notice_of_envelope, Given, Readings, Reception, received_at, received_by, tender_decided, fate_of_tender, is_kept, EnvelopeIs, row_at-row_put, row_at-row_drop, found_key}
use Rattle.office_base.specs.declared.records.EnvelopeState.TheVariants as envelope
use Rattle.office_base.specs.declared.records.SecurityState.TheVariants as security
use Rattle.office_machine.specs.Fates as fates
use Rattle.office_machine.proofs.Passed.{none_holds}
use Rattle.office_machine.proofs.Rows.RowsChanged.{row_at-changed_put}
use Rattle.office_machine.proofs.FateLaws.Views.{View, IsSound, EnvelopeFits, Change, after_change, sound_changed}
use Rattle.office_machine.proofs.FateLaws.Added.{added, equal_numbers, sound_envelope}
use Rattle.office_machine.proofs.FateLaws.Matched.{EnvelopesMatch, EnvelopeStands, EnvelopeKeeps, named_in, same_itself, envelopes_received}
use Rattle.office_machine.proofs.FateLaws.Steps.{cond_keeps, taking_back, fair_withdrawal}
use Rattle.office_machine.proofs.FateLaws.Seen.{seen, alike}
use Rattle.office_machine.proofs.FateLaws.FatesHold.{FatesStand, HaveFates, Keeps, given, fate_goes, still_sealed}
use Rattle.office_machine.proofs.FateLaws.FatesChanged.{is_sealed_state}
use Rattle.office_machine.proofs.FateLaws.States.{map_same}
use Rattle.office_machine.proofs.FateLaws.NextReceipt.{none_fate, came_other, came_here, no_envelope_yet, nothing_yet, securities_stay}
use Rattle.office_machine.proofs.Rows.Keyed as keyed

module _ (readings : Readings) (receipt : ℕ) (bytes : List ℕ) (xs : List Given) (t : Tables) (m : ℕ) (caller : Caller) (kept : FatesStand readings xs t) where
  abbrev T : ℕ
  T = max m t.clock.moment

  abbrev x : Given
  x = given t m caller (Modify receipt bytes)

  abbrev k : ℕ
  k = t.clock.receipts + 1

  module _ (e : EnvelopeRow) (found : envelope_at receipt t ≡ Some e) (sealed : e.state ≡ envelope.Sealed) where
    abbrev fits : EnvelopeFits (seen t) e
    fits = kept.sound.envelopes receipt e found

    abbrev stands : EnvelopeStands readings.digest receipt (received_at xs receipt) (fate_of_tender xs receipt) e (seal_at receipt t)
    stands = kept.tenders.received receipt e found

    key_own : e.receipt ≡ receipt
    key_own = found_key keyed.envelopes t.envelopes receipt e found

    abbrev new : EnvelopeRow
    new = replacing readings.digest t.clock T e bytes

    abbrev after : Tables
    after = after_puts (modify_puts readings.digest (record { envelope = Some e; notice = None; clock = t.clock }) T bytes) t

    abbrev f : ℕ → EnvelopeRow → EnvelopeRow
    f r d = cond (eq_by_cmp nat_cmp r receipt) (withdrawn d) d

    -- the office after the old tender is withdrawn
    abbrev W : View
    W = record (seen t) { envelope_at = λ r. option_map (f r) (envelope_at r t) }

    abbrev c : Change
    c = taking_back (seen t) receipt withdrawn security.Returned None

    sound_W : IsSound W
    sound_W =
        subst IsSound
        (alike (after_change c (seen t)) W (λ r. refl) (λ s. sym (map_same (security_at s t))) (λ a. sym (map_same ((seen t).award_at a))) (λ k. sym (map_same ((seen t).lot_at k))) (λ n. sym (map_same ((seen t).notice_at n))))
        (sound_changed c (seen t) kept.sound (fair_withdrawal (seen t) receipt e found sealed security.Returned None))

    new_fits : EnvelopeFits W new
    new_fits = record {
      noticed = fits.noticed;
      housed = fits.housed;
      receiving = λ h. fits.receiving sealed;
      secured = λ s h.
          let is = fits.secured s h in
          record { row = is.row; found = is.found; of_notice = is.of_notice; of_lot = is.of_lot };
    }

    no_new : W.envelope_at k ≡ None
    no_new = ap (option_map (f k)) (no_envelope_yet readings xs t kept)

    envelopes_are : (r : ℕ) → envelope_at r after ≡ added k new (λ r. option_map (f r) (envelope_at r t)) r
    envelopes_are r =
        row_at-row_put nat_cmp_total envelope_key (put_envelope t.envelopes (withdrawn e)) new r
        ∙ ap (cond (eq_by_cmp nat_cmp r k) (Some new)) (row_at-changed_put nat_cmp_total nat_cmp-IsAntisymmetric envelope_key withdrawn t.envelopes receipt r e found key_own)

    sound_after : IsSound (seen after)
    sound_after =
        subst IsSound
        (alike (record W { envelope_at = added k new W.envelope_at }) (seen after) (λ r. sym (envelopes_are r)) (λ s. refl) (λ a. refl) (λ k. refl) (λ n. refl))
        (sound_envelope k new W sound_W no_new new_fits)

    abbrev new_seal : SealRow
    new_seal = record { receipt = k; bytes = bytes }

    seal_is : (r : ℕ) → seal_at r after ≡ cond (eq_by_cmp nat_cmp r k) (Some new_seal) (cond (eq_by_cmp nat_cmp r receipt) None (seal_at r t))
    seal_is r =
        row_at-row_put nat_cmp_total seal_key (drop_seal t.seals e.receipt) new_seal r
        ∙ ap (cond (eq_by_cmp nat_cmp r k) (Some new_seal))
        (row_at-row_drop keyed.seals t.seals e.receipt r kept.order.seals ∙ ap (λ q. cond (eq_by_cmp nat_cmp r q) None (seal_at r t)) key_own)

    other_seal : (r : ℕ) → eq_by_cmp nat_cmp r k ≡ false → seal_at r after ≡ cond (eq_by_cmp nat_cmp r receipt) None (seal_at r t)
    other_seal r other = seal_is r ∙ ap (λ b. cond b (Some new_seal) (cond (eq_by_cmp nat_cmp r receipt) None (seal_at r t))) other

    f_keeps : EnvelopeKeeps readings.digest f
    f_keeps = record {
      notice = λ r d. cond_keeps (λ (e : EnvelopeRow). e.notice) (eq_by_cmp nat_cmp r receipt) (withdrawn d) d refl;
      lot = λ r d. cond_keeps (λ (e : EnvelopeRow). e.lot) (eq_by_cmp nat_cmp r receipt) (withdrawn d) d refl;
      tenderer = λ r d. cond_keeps (λ (e : EnvelopeRow). e.tenderer) (eq_by_cmp nat_cmp r receipt) (withdrawn d) d refl;
      security = λ r d. cond_keeps (λ (e : EnvelopeRow). e.security) (eq_by_cmp nat_cmp r receipt) (withdrawn d) d refl;
      moment = λ r d. cond_keeps (λ (e : EnvelopeRow). e.moment) (eq_by_cmp nat_cmp r receipt) (withdrawn d) d refl;
      len = λ r d. cond_keeps (λ (e : EnvelopeRow). e.length) (eq_by_cmp nat_cmp r receipt) (withdrawn d) d refl;
      digest = λ r d. cond_keeps (λ (e : EnvelopeRow). e.digest) (eq_by_cmp nat_cmp r receipt) (withdrawn d) d refl;
    }

    state_goes : (r : ℕ) (d : EnvelopeRow) → envelope_at r t ≡ Some d
        → (f r d).state ≡ cond (is_sealed d.state) (cond (same_number r receipt) envelope.Withdrawn envelope.Sealed) d.state
    state_goes r d at = by (eq_by_cmp nat_cmp r receipt) refl
      where
        by : (b : Bool) → eq_by_cmp nat_cmp r receipt ≡ b
            → (let d' : EnvelopeRow = cond b (withdrawn d) d in d'.state) ≡ cond (is_sealed d.state) (cond b envelope.Withdrawn envelope.Sealed) d.state
        by true same =
            let it : Some d ≡ Some e = sym at ∙ ap (λ r. envelope_at r t) (equal_numbers r receipt same) ∙ found in
            let is_e : d ≡ e = cc in
            sym (ap (λ s. cond (is_sealed s) envelope.Withdrawn s) (ap (λ (d : EnvelopeRow). d.state) is_e ∙ sealed))
        by false other = still_sealed d.state

    seal_goes : (r : ℕ) (d : EnvelopeRow) (a : Reception) → EnvelopeIs readings.digest r a (fate_of_tender xs r) d (seal_at r t)
        → cond (eq_by_cmp nat_cmp r receipt) None (seal_at r t) ≡ cond (is_kept (f r d).state) (Some (record { receipt = r; bytes = a.bytes })) None
    seal_goes r d a is = by (eq_by_cmp nat_cmp r receipt)
      where
        by : (b : Bool)
            → cond b None (seal_at r t) ≡ cond (is_kept (let d' : EnvelopeRow = cond b (withdrawn d) d in d'.state)) (Some (record { receipt = r; bytes = a.bytes })) None
        by true = refl
        by false = is.seal_is

    none_cond : (b : Bool) (o : Option SealRow) → o ≡ None → cond b None o ≡ None
    none_cond true o e = refl
    none_cond false o e = e

    came_new : received_at (x ∷ xs) k ≡ Some (fates.reception_replacing x bytes stands.came)
    came_new =
        came_here (received_at xs k) (option_map (fates.reception_replacing x bytes) (received_at xs receipt)) (same_number k k) (nothing_yet readings xs t kept).no_reception (same_itself k)
        ∙ ap (option_map (fates.reception_replacing x bytes)) stands.came_is

    new_stands : EnvelopeStands readings.digest k (received_at (x ∷ xs) k) (fate_of_tender (x ∷ xs) k) new (seal_at k after)
    new_stands = record {
      came = fates.reception_replacing x bytes stands.came;
      came_is = came_new;
      stands = record {
        of_notice = stands.stands.of_notice;
        of_lot = stands.stands.of_lot;
        of_tenderer = stands.stands.of_tenderer;
        security_is = stands.stands.security_is;
        moment_is = refl;
        length_is = refl;
        digest_is = refl;
        fate_is =
            ap (λ o. fates.fate_after o (received_at (x ∷ xs) k) (tender_decided (Modify receipt bytes) x (received_at xs) k)) (nothing_yet readings xs t kept).no_fate
            ∙ ap (option_map fates.first_state) came_new;
        seal_is = seal_is k ∙ ap (λ b. cond b (Some new_seal) (cond (eq_by_cmp nat_cmp k receipt) None (seal_at k t))) (same_itself k);
      };
    }

    tenders_after : EnvelopesMatch readings.digest (received_at (x ∷ xs)) (fate_of_tender (x ∷ xs)) (λ r. seal_at r after) k (added k new (λ r. option_map (f r) (envelope_at r t)))
    tenders_after =
        envelopes_received readings.digest (received_at xs) (received_at (x ∷ xs)) (fate_of_tender xs) (fate_of_tender (x ∷ xs)) (λ r. seal_at r t) (λ r. seal_at r after) t.clock.receipts (λ r. envelope_at r t)
        kept.tenders f f_keeps new
        (λ r other. came_other (received_at xs r) (received_by (Modify receipt bytes) x (λ q. received_at xs q)) (same_number r k) other)
        (λ r d other at a came_is is. record {
          fate_is =
              fate_goes (fate_of_tender xs r) d.state (received_at (x ∷ xs) r) (tender_decided (Modify receipt bytes) x (received_at xs) r) is.fate_is
              ∙ sym (ap Some (state_goes r d at));
          seal_is = other_seal r other ∙ seal_goes r d a is;
        })
        (λ r other at was.
        let none = came_other (received_at xs r) (received_by (Modify receipt bytes) x (λ q. received_at xs q)) (same_number r k) other ∙ was.no_reception in
        record {
          no_reception = none;
          no_fate = none_fate (fate_of_tender xs r) (received_at (x ∷ xs) r) (tender_decided (Modify receipt bytes) x (received_at xs) r) was.no_fate none;
          no_seal = other_seal r other ∙ none_cond (eq_by_cmp nat_cmp r receipt) (seal_at r t) was.no_seal;
        })
        new_stands

    unnamed : (o : Option Reception) → named_in (option_map (fates.reception_replacing x bytes) o) ≡ None
    unnamed None = refl
    unnamed (Some a) = refl

    modified_kept : HaveFates readings (x ∷ xs) after
    modified_kept = record {
      sound = sound_after;
      tenders =
          subst (EnvelopesMatch readings.digest (received_at (x ∷ xs)) (fate_of_tender (x ∷ xs)) (λ r. seal_at r after) k) (sym (λ i r. envelopes_are r i)) tenders_after;
      named = securities_stay readings xs t kept x (unnamed (received_at xs receipt)) (λ s. refl);
    }

  by_envelope : (o : Option EnvelopeRow) → envelope_at receipt t ≡ o → first_of (modify_tests (record { envelope = o; notice = notice_of_envelope o t; clock = t.clock }) T caller) ≡ None
      → HaveFates readings (x ∷ xs) (after_puts (modify_puts readings.digest (record { envelope = o; notice = None; clock = t.clock }) T bytes) t)
  by_envelope None found allowed =
      let passes : AllByRecursion (λ (test : Bool × Refusal). test.0 ≡ false) (modify_tests (record { envelope = None; notice = None; clock = t.clock }) T caller) = none_holds (modify_tests (record { envelope = None; notice = None; clock = t.clock }) T caller) allowed in
      let no : true ≡ false = passes.0 in cc
  by_envelope (Some e) found allowed =
      let passes : AllByRecursion (λ (test : Bool × Refusal). test.0 ≡ false) (modify_tests (record { envelope = Some e; notice = notice_at e.notice t; clock = t.clock }) T caller) = none_holds (modify_tests (record { envelope = Some e; notice = notice_at e.notice t; clock = t.clock }) T caller) allowed in
      modified_kept e found (is_sealed_state e.state passes.1.1.1.0)

pub modify_keeps : (readings : Readings) (receipt : ℕ) (bytes : List ℕ) → Keeps readings (Modify receipt bytes)
modify_keeps readings receipt bytes xs t m caller kept _ allowed =
    by_envelope readings receipt bytes xs t m caller kept (envelope_at receipt t) refl allowed
