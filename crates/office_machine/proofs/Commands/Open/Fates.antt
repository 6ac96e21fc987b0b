-- An opening keeps the fates.
use Rattle.office_machine.proofs.Names.{◌≡◌, ℕ, Bool, true, false, cond, ◌&&◌, List, [], ◌∷◌, map, filter, Option, Some, None, option_map, max, refl, sym, ap, ◌∙◌, subst, AllByRecursion, nat_cmp_total, nat_cmp-IsAntisymmetric, nat_cmp, eq_by_cmp, same_id, id_cmp, Refusal, Caller, Open, NoticeRow, EnvelopeRow, EnvelopeState, NoticeState, is_sealed, first_of, clock_put, Tables, envelope_key, envelope_at, notice_at, envelopes_of_notice, after_puts, is_sealed_envelope, opened_envelope, opened_put, opened_notice, open_tests, open_puts, Given, Readings, sealed_tender, sealed_tenders, is_of_notice, is_kept, filter_filter}
use Rattle.office_base.specs.declared.records.EnvelopeState.TheVariants as envelope
use Rattle.office_base.specs.declared.records.NoticeState.TheVariants as notice
use Rattle.office_base.specs.declared.puts.Put.TheVariants as puts
use Rattle.office_machine.proofs.Passed.{none_holds}
use Rattle.office_machine.proofs.Rows.RowsChanged.{rows_put, changed, row_at-changed}
use Rattle.office_machine.proofs.FateLaws.Views.{Change, after_change}
use Rattle.office_machine.proofs.FateLaws.Steps.{choose, cond_keeps, both_true, opening, fair_opening}
use Rattle.office_machine.proofs.FateLaws.Seen.{seen, alike, after-append, after_envelopes}
use Rattle.office_machine.proofs.FateLaws.FatesHold.{FatesStand, HaveFates, Keeps, given, still_held, securities_keep}
use Rattle.office_machine.proofs.FateLaws.FatesChanged.{kept_by_change}
use Rattle.office_machine.proofs.FateLaws.States.{map_same, notices_put, same_id_key, sealed_state, map_map}

module _ (readings : Readings) (name : List ℕ) (xs : List Given) (t : Tables) (m : ℕ) (caller : Caller) (kept : FatesStand readings xs t) where
  abbrev T : ℕ
  T = max m t.clock.moment

  abbrev x : Given
  x = given t m caller (Open name)

  module _ (n : NoticeRow) (found : notice_at name t ≡ Some n) where
    abbrev test : EnvelopeRow → Bool
    test e = same_id e.notice name && is_sealed e.state

    abbrev open_row : EnvelopeRow → EnvelopeRow
    open_row e = opened_envelope readings.read (sealed_tender t e)

    abbrev notice_to : List ℕ → NoticeState → NoticeState
    notice_to q s = cond (eq_by_cmp id_cmp q name) notice.Opened s

    abbrev opened_rows : List EnvelopeRow
    opened_rows = map open_row (filter test t.envelopes)

    abbrev after : Tables
    after =
        after_puts (puts.Notice (opened_notice T n) ∷ clock_put t.clock T ∷ []) (record t { envelopes = rows_put nat_cmp envelope_key t.envelopes opened_rows })

    after_is : after_puts (open_puts readings.read (record { notice = Some n; clock = t.clock }) T (sealed_tenders name t)) t ≡ after
    after_is =
        after-append (map (opened_put readings.read) (sealed_tenders name t)) (puts.Notice (opened_notice T n) ∷ clock_put t.clock T ∷ []) t
        ∙ ap (after_puts (puts.Notice (opened_notice T n) ∷ clock_put t.clock T ∷ []))
        (ap (λ ps. after_puts ps t) (map_map (opened_put readings.read) (sealed_tender t) (filter is_sealed_envelope (envelopes_of_notice name t)))
        ∙ after_envelopes open_row (filter is_sealed_envelope (envelopes_of_notice name t)) t
        ∙ ap (λ es. record t { envelopes = rows_put nat_cmp envelope_key t.envelopes (map open_row es) }) (filter_filter is_sealed_envelope (λ (e : EnvelopeRow). same_id e.notice name) t.envelopes))

    sealed_test : (e : EnvelopeRow) → test e ≡ true → e.state ≡ envelope.Sealed
    sealed_test e h = sealed_state e.state (both_true (same_id e.notice name) (is_sealed e.state) h).1

    all_test : (e : EnvelopeRow) → e.state ≡ envelope.Sealed → test e ≡ false → notice_to e.notice notice.Receiving ≡ notice.Receiving
    all_test e sealed h =
        ap (λ b. cond b notice.Opened notice.Receiving)
        (sym (same_id_key e.notice name) ∙ only (same_id e.notice name) (sym (ap (λ s. same_id e.notice name && is_sealed s) sealed) ∙ h))
      where
        only : (b : Bool) → (b && true) ≡ false → b ≡ false
        only true h = h
        only false h = refl

    receive : (q : List ℕ) (s : NoticeState) → notice_to q s ≡ notice.Receiving → s ≡ notice.Receiving
    receive q s = choose (λ y. y ≡ notice.Receiving → s ≡ notice.Receiving) (eq_by_cmp id_cmp q name) notice.Opened s (λ _ h. cc) (λ _ h. h)

    abbrev c : Change
    c =
        opening (seen t) name test (λ r e. open_row e) notice_to sealed_test all_test (λ r e. refl) (λ r e. refl) (λ r e. refl)
        (λ r e. refl) receive

    envelopes_are : (r : ℕ) → envelope_at r after ≡ option_map (changed test open_row) (envelope_at r t)
    envelopes_are r = row_at-changed nat_cmp_total nat_cmp-IsAntisymmetric envelope_key open_row (λ e. refl) test t.envelopes r kept.order.envelopes

    seen_is : seen after ≡ after_change c (seen t)
    seen_is =
        alike (seen after) (after_change c (seen t)) envelopes_are (λ s. map_same ((seen t).security_at s)) (λ a. map_same ((seen t).award_at a)) (λ k. map_same ((seen t).lot_at k))
        (λ q. notices_put t.notices name q n (opened_notice T) (λ s. notice.Opened) (λ n. refl) (λ n. refl) found)

    state_by : (d : EnvelopeRow) (b : Bool) (st : EnvelopeState) → d.state ≡ st
        → (let d' : EnvelopeRow = cond (b && is_sealed st) (open_row d) d in d'.state) ≡ cond (is_sealed st) (cond b envelope.Opened envelope.Sealed) st
    state_by d true envelope.Sealed e = refl
    state_by d true envelope.Withdrawn e = e
    state_by d true envelope.Returned e = e
    state_by d true envelope.Opened e = e
    state_by d false envelope.Sealed e = e
    state_by d false envelope.Withdrawn e = e
    state_by d false envelope.Returned e = e
    state_by d false envelope.Opened e = e

    kept_by : (st : EnvelopeState) (b : Bool) → is_kept (cond (is_sealed st) (cond b envelope.Opened envelope.Sealed) st) ≡ is_kept st
    kept_by envelope.Sealed true = refl
    kept_by envelope.Sealed false = refl
    kept_by envelope.Withdrawn b = refl
    kept_by envelope.Returned b = refl
    kept_by envelope.Opened b = refl

    opened_kept : HaveFates readings (x ∷ xs) after
    opened_kept =
        kept_by_change readings xs x t after c kept
        (fair_opening (seen t) name test (λ r e. open_row e) notice_to sealed_test all_test (λ r e. refl) (λ r e. refl) (λ r e. refl) (λ r e. refl) receive)
        (record {
          none = refl;
          seen_is = seen_is;
          receipts_are = refl;
          e_keeps = record {
            notice = λ r d. cond_keeps (λ (e : EnvelopeRow). e.notice) (test d) (open_row d) d refl;
            lot = λ r d. cond_keeps (λ (e : EnvelopeRow). e.lot) (test d) (open_row d) d refl;
            tenderer = λ r d. cond_keeps (λ (e : EnvelopeRow). e.tenderer) (test d) (open_row d) d refl;
            security = λ r d. cond_keeps (λ (e : EnvelopeRow). e.security) (test d) (open_row d) d refl;
            moment = λ r d. cond_keeps (λ (e : EnvelopeRow). e.moment) (test d) (open_row d) d refl;
            len = λ r d. cond_keeps (λ (e : EnvelopeRow). e.length) (test d) (open_row d) d refl;
            digest = λ r d. cond_keeps (λ (e : EnvelopeRow). e.digest) (test d) (open_row d) d refl;
          };
          s_keeps = securities_keep;
          tender_goes = λ r d a at came_is is.
              state_by d (same_id d.notice name) d.state refl
              ∙ ap (λ b. cond (is_sealed d.state) (cond b envelope.Opened envelope.Sealed) d.state) (ap (λ m. same_id m name) is.of_notice ∙ sym (ap (is_of_notice name) came_is));
          seal_goes = λ r d a at is.
              is.seal_is
              ∙ ap (λ b. cond b (Some (record { receipt = r; bytes = a.bytes })) None) (sym (ap is_kept (state_by d (same_id d.notice name) d.state refl) ∙ kept_by d.state (same_id d.notice name)));
          no_seal = λ r at none. none;
          security_goes = λ s w a named at came_is is. still_held w.state;
        })

  by_notice : (o : Option NoticeRow) → notice_at name t ≡ o → first_of (open_tests (record { notice = o; clock = t.clock }) T) ≡ None
      → HaveFates readings (x ∷ xs) (after_puts (open_puts readings.read (record { notice = o; clock = t.clock }) T (sealed_tenders name t)) t)
  by_notice None found allowed =
      let passes : AllByRecursion (λ (test : Bool × Refusal). test.0 ≡ false) (open_tests (record { notice = None; clock = t.clock }) T) = none_holds (open_tests (record { notice = None; clock = t.clock }) T) allowed in
      let no : true ≡ false = passes.0 in cc
  by_notice (Some n) found allowed = subst (HaveFates readings (x ∷ xs)) (sym (after_is n found)) (opened_kept n found)

pub open_keeps : (readings : Readings) (notice : List ℕ) → Keeps readings (Open notice)
open_keeps readings notice xs t m caller kept _ allowed = by_notice readings notice xs t m caller kept (notice_at notice t) refl allowed
