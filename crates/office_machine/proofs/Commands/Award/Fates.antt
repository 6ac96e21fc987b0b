-- An award keeps the fates, with a winner or without one.
use Rattle.office_machine.proofs.Names.{◌≡◌, ℕ, ◌+◌, Bool, true, false, cond, not, ◌&&◌, List, [], ◌∷◌, map, filter, Option, Some, None, option_map, is_some, max, unwrap_or, refl, sym, ap, ◌∙◌, subst, AllByRecursion, nat_cmp_total, nat_cmp, eq_by_cmp, same_id, Caller, is_priced, Award, Refusal, LineRow, NoticeRow, LotRow, EnvelopeRow, SecurityRow, AwardRow, EnvelopeState, Put, is_read, first_of, clock_put, with_next_release, is_held_security, returned, is_admissible, is_responsive, lowest_price, winner, unsuccessful, awarded, award_row, decision_puts, award_tests, award_puts, Tables, lot_cmp, lot_key, award_key, security_key, award_at, lot_at, notice_at, line_at, envelope_at, seal_at, security_at, envelopes_of_lot, securities_of_lot, after_puts, line_of_lot, Given, Readings, received_at, is_received_for, equal_ids, row_at-row_put, each_found, found_key}
use Rattle.office_base.specs.declared.records.EnvelopeState.TheVariants as envelope
use Rattle.office_base.specs.declared.records.SecurityState.TheVariants as security
use Rattle.office_base.specs.declared.records.AwardState.TheVariants as award
use Rattle.office_base.specs.declared.records.LotState.TheVariants as lot
use Rattle.office_base.specs.declared.records.NoticeState.TheVariants as notice
use Rattle.office_base.specs.declared.puts.Put.TheVariants as puts
use Rattle.office_machine.proofs.Passed.{none_holds, not_false}
use Rattle.office_machine.proofs.Rows.RowsChanged.{rows_put}
use Rattle.office_machine.proofs.FateLaws.Views.{View, IsSound, AwardFits, Change, after_change, sound_changed}
use Rattle.office_machine.proofs.FateLaws.Added.{added, sound_award}
use Rattle.office_machine.proofs.FateLaws.Steps.{both_true}
use Rattle.office_machine.proofs.FateLaws.Decisions.{awarding, fair_awarding, same_lot}
use Rattle.office_machine.proofs.FateLaws.Seen.{seen, alike, lot_state, notices-same, after_securities}
use Rattle.office_machine.proofs.FateLaws.FatesHold.{FatesStand, HaveFates, Keeps, given, tenders_same, named_same}
use Rattle.office_machine.proofs.FateLaws.QuietFates.{notice_stands}
use Rattle.office_machine.proofs.FateLaws.States.{map_same, lots_put, undecided_state, opened_state}
use Rattle.office_machine.proofs.Commands.Award.Winners.{passing, best_is, best_none, best_some}
use Rattle.office_machine.proofs.FateLaws.LotClosed.{closing_kept, securities_go_back}
use Rattle.office_machine.proofs.Rows.Keyed as keyed

there : {X : Type 0} (o : Option X) → is_some o ≡ true → (x : X) × (o ≡ Some x)
there None h = absurd (let no : false ≡ true = h in cc)
there (Some x) h = (x, refl)

read_state : (s : EnvelopeState) → is_read s ≡ true → s ≡ envelope.Opened
read_state envelope.Sealed h = cc
read_state envelope.Withdrawn h = cc
read_state envelope.Returned h = cc
read_state envelope.Opened h = refl

not_true : (b : Bool) → not b ≡ true → b ≡ false
not_true true h = cc
not_true false h = refl

first_and_last : (a b c d : Bool) → (a && b && c && d) ≡ true → (a ≡ true) × (d ≡ true)
first_and_last true true true d h = (refl, h)
first_and_last false b c d h = cc
first_and_last true false c d h = cc
first_and_last true true false d h = cc

module _ (readings : Readings) (name lot_name : List ℕ) (xs : List Given) (t : Tables) (m : ℕ) (caller : Caller) (kept : FatesStand readings xs t)
    (n : NoticeRow) (notice_found : notice_at name t ≡ Some n) (l : LotRow) (lot_found : lot_at (name, lot_name) t ≡ Some l) (r : LineRow)
    (opened : n.state ≡ notice.Opened) (undecided : l.state ≡ lot.Undecided) where
  abbrev T : ℕ
  T = max m t.clock.moment

  abbrev x : Given
  x = given t m caller (Award name lot_name)

  abbrev rows : List EnvelopeRow
  rows = envelopes_of_lot name lot_name t

  abbrev lowest : ℕ
  lowest = unwrap_or (lowest_price rows) 0

  abbrev securities : List SecurityRow
  securities = securities_of_lot name lot_name t

  lot_is : (seen t).lot_at (name, lot_name) ≡ Some lot.Undecided
  lot_is = ap (option_map lot_state) lot_found ∙ ap Some undecided

  not_receiving : (seen t).notice_at name ≡ Some notice.Receiving → ⊥
  not_receiving h =
      let both : Some notice.Opened ≡ Some notice.Receiving = sym (ap (option_map Rattle.office_machine.proofs.FateLaws.Seen.notice_state) notice_found ∙ ap Some opened) ∙ h in
      let no : notice.Opened ≡ notice.Receiving = cc in
      cc

  -- no award of the lot is active
  none_active : (a : ℕ) (w : AwardRow) → award_at a t ≡ Some w → w.state ≡ award.Active → w.notice ≡ name → w.lot ≡ lot_name → ⊥
  none_active a w at active p q =
      let fits = kept.sound.awards a w at active in
      let both : Some lot.Awarded ≡ Some lot.Undecided = sym fits.awarded ∙ ap (λ k. (seen t).lot_at (k, w.lot)) p ∙ ap (λ k. (seen t).lot_at (name, k)) q ∙ lot_is in
      let no : lot.Awarded ≡ lot.Undecided = cc in
      cc

  key_is : lot_key l ≡ (name, lot_name)
  key_is = found_key keyed.lots t.lots (name, lot_name) l lot_found

  -- nobody wins

  abbrev nobody_first : Tables
  nobody_first =
      after_puts (puts.Lot (unsuccessful l) ∷ puts.Line (record r { free = r.free + l.reserved }) ∷ puts.Notice (with_next_release n) ∷ clock_put t.clock T ∷ []) t

  abbrev nobody_after : Tables
  nobody_after = record nobody_first { securities = rows_put nat_cmp security_key t.securities (map returned (filter is_held_security securities)) }

  abbrev nobody_puts : List Put
  nobody_puts = decision_puts t.clock T n l r None securities

  nobody_is : after_puts nobody_puts t ≡ nobody_after
  nobody_is = after_securities returned (filter is_held_security securities) nobody_first

  and_true : (a : Bool) → (a && true) ≡ a
  and_true true = refl
  and_true false = refl

  nobody_kept : winner (Some n) rows ≡ None → HaveFates readings (x ∷ xs) nobody_after
  nobody_kept nobody =
      closing_kept readings xs x t nobody_after kept name lot_name lot.Unsuccessful refl (λ a w. w)
      (λ h receiving. not_receiving receiving)
      (λ a w. refl)
      (λ a w. refl)
      (λ a w. refl)
      (λ a w at h. h)
      none_active
      refl
      (λ q. refl)
      (λ s. ap (λ b. cond (is_received_for name lot_name (received_at xs s) && b) security.Returned security.Held) (ap not (best_none n.weight lowest rows nobody)) ∙ ap (λ b. cond b security.Returned security.Held) (and_true (is_received_for name lot_name (received_at xs s))))
      (λ q. refl)
      (λ q. refl)
      (λ s. securities_go_back t name lot_name s kept.order)
      (λ a. map_same ((seen t).award_at a))
      (λ k. lots_put t.lots (name, lot_name) k l unsuccessful (λ s. lot.Unsuccessful) (λ l. refl) (λ l. refl) lot_found)
      (notices-same t.notices (with_next_release n) (notice_stands t name n notice_found))
      refl

  -- a tender wins
  module _ (e : EnvelopeRow) (wins : winner (Some n) rows ≡ Some e) where
    abbrev Among : EnvelopeRow → Type 0
    Among f = (envelope_at f.receipt t ≡ Some f) × ((same_id f.notice name && same_id f.lot lot_name) ≡ true)

    best : Among e × (is_admissible e ≡ true)
    best =
        best_is Among n.weight lowest rows e
        (passing (λ (f : EnvelopeRow). envelope_at f.receipt t ≡ Some f) (λ (f : EnvelopeRow). same_id f.notice name && same_id f.lot lot_name) t.envelopes
        (each_found keyed.envelopes t.envelopes kept.order.envelopes))
        wins

    admissible : (is_read e.state ≡ true) × (not e.failed ≡ true)
    admissible = first_and_last (is_read e.state) (is_priced e.reading) (is_responsive e.responsive) (not e.failed) best.1

    of_lot : (same_id e.notice name ≡ true) × (same_id e.lot lot_name ≡ true)
    of_lot = both_true (same_id e.notice name) (same_id e.lot lot_name) best.0.1

    abbrev row : AwardRow
    row = award_row t.clock T l e

    abbrev ps : List Put
    ps = decision_puts t.clock T n l r (Some e) securities

    abbrev after : Tables
    after = after_puts ps t

    -- the office after the lot is awarded
    abbrev W : View
    W = record (seen t) { lot_at = λ k. option_map (λ s. cond (eq_by_cmp lot_cmp k (name, lot_name)) lot.Awarded s) ((seen t).lot_at k) }

    abbrev c : Change
    c = awarding (seen t) kept.sound (name, lot_name) lot_is not_receiving

    sound_W : IsSound W
    sound_W =
        subst IsSound
        (alike (after_change c (seen t)) W (λ q. sym (map_same (envelope_at q t))) (λ s. sym (map_same (security_at s t))) (λ a. sym (map_same ((seen t).award_at a))) (λ k. refl) (λ q. sym (map_same ((seen t).notice_at q))))
        (sound_changed c (seen t) kept.sound (fair_awarding (seen t) kept.sound (name, lot_name) lot_is not_receiving))

    row_fits : AwardFits W row
    row_fits = record {
      tender = e;
      found = best.0.0;
      opened = read_state e.state admissible.0;
      of_notice = equal_ids e.notice name of_lot.0 ∙ sym (ap (λ (k : List ℕ × List ℕ). k.0) key_is);
      of_lot = equal_ids e.lot lot_name of_lot.1 ∙ sym (ap (λ (k : List ℕ × List ℕ). k.1) key_is);
      awarded =
          ap W.lot_at key_is
          ∙ ap (option_map (λ s. cond (eq_by_cmp lot_cmp (name, lot_name) (name, lot_name)) lot.Awarded s)) lot_is
          ∙ ap (λ b. Some (cond b lot.Awarded lot.Undecided)) (same_lot (name, lot_name));
    }

    sound_after : IsSound (seen after)
    sound_after =
        subst IsSound
        (alike (record W { award_at = added (t.clock.awards + 1) row (λ a. award_at a t) }) (seen after)
        (λ q. refl)
        (λ s. refl)
        (λ a. sym (row_at-row_put nat_cmp_total award_key t.awards row a))
        (λ k. sym (lots_put t.lots (name, lot_name) k l (awarded e) (λ s. lot.Awarded) (λ l. refl) (λ l. refl) lot_found))
        (λ q. sym (notices-same t.notices (with_next_release n) (notice_stands t name n notice_found) q)))
        (sound_award (t.clock.awards + 1) row W sound_W row_fits
        (λ a w at active p q. none_active a w at active (p ∙ ap (λ (k : List ℕ × List ℕ). k.0) key_is) (q ∙ ap (λ (k : List ℕ × List ℕ). k.1) key_is)))

    and_false : (a : Bool) → (a && false) ≡ false
    and_false true = refl
    and_false false = refl

    awarded_kept : HaveFates readings (x ∷ xs) after
    awarded_kept = record {
      sound = sound_after;
      tenders =
          tenders_same readings.digest xs x refl t.clock.receipts (λ q. envelope_at q t) (λ q. envelope_at q t) (λ q. seal_at q t)
          (λ q. seal_at q t) kept.tenders (λ q. refl) (λ q. refl) (λ q. refl);
      named =
          named_same readings.digest xs x refl (λ s. security_at s t) (λ s. security_at s t) kept.named
          (λ s.
          ap (λ b. cond (is_received_for name lot_name (received_at xs s) && b) security.Returned security.Held) (ap not (best_some n.weight lowest rows e wins))
          ∙ ap (λ b. cond b security.Returned security.Held) (and_false (is_received_for name lot_name (received_at xs s))))
          (λ s. refl);
    }

  decided_kept : (won : Option EnvelopeRow) → winner (Some n) rows ≡ won
      → HaveFates readings (x ∷ xs) (after_puts (decision_puts t.clock T n l r won securities) t)
  decided_kept None wins = subst (HaveFates readings (x ∷ xs)) (sym nobody_is) (nobody_kept wins)
  decided_kept (Some e) wins = awarded_kept e wins

award_by : (readings : Readings) (name lot_name : List ℕ) (xs : List Given) (t : Tables) (m : ℕ) (caller : Caller) (kept : FatesStand readings xs t) (n : NoticeRow) → notice_at name t ≡ Some n
    → (l : LotRow) → lot_at (name, lot_name) t ≡ Some l
    → first_of (award_tests (record { notice = Some n; lot = Some l; line = line_at l.line t; envelopes = envelopes_of_lot name lot_name t; securities = []; clock = t.clock }) (max m t.clock.moment)) ≡ None
    → HaveFates readings (given t m caller (Award name lot_name) ∷ xs)
    (after_puts (award_puts (record { notice = Some n; lot = Some l; line = line_at l.line t; envelopes = envelopes_of_lot name lot_name t; securities = securities_of_lot name lot_name t; clock = t.clock }) (max m t.clock.moment)) t)
award_by readings name lot_name xs t m caller kept n n_is l l_is allowed =
    let tests = award_tests (record { notice = Some n; lot = Some l; line = line_at l.line t; envelopes = envelopes_of_lot name lot_name t; securities = []; clock = t.clock }) (max m t.clock.moment) in
    let passes : AllByRecursion (λ (test : Bool × Refusal). test.0 ≡ false) tests = none_holds tests allowed in
    let r = there (line_at l.line t) (kept.parents.lots (name, lot_name) l l_is).line in
    subst (λ o. HaveFates readings (given t m caller (Award name lot_name) ∷ xs)
    (after_puts (award_puts (record { notice = Some n; lot = Some l; line = o; envelopes = envelopes_of_lot name lot_name t; securities = securities_of_lot name lot_name t; clock = t.clock }) (max m t.clock.moment)) t)) (sym r.1)
    (decided_kept readings name lot_name xs t m caller kept n n_is l l_is r.0 (opened_state n.state passes.1.1.0) (undecided_state l.state passes.1.1.1.0) (winner (Some n) (envelopes_of_lot name lot_name t)) refl)

pub award_keeps : (readings : Readings) (notice lot : List ℕ) → Keeps readings (Award notice lot)
award_keeps readings name lot_name xs t m caller kept _ allowed =
    let tests = award_tests (record { notice = notice_at name t; lot = (lot_at (name, lot_name) t); line = (line_of_lot (lot_at (name, lot_name) t) t); envelopes = envelopes_of_lot name lot_name t; securities = []; clock = t.clock }) (max m t.clock.moment) in
    let passes : AllByRecursion (λ (test : Bool × Refusal). test.0 ≡ false) tests = none_holds tests allowed in
    let n = there (notice_at name t) (not_false (is_some (notice_at name t)) passes.0) in
    let l = there (lot_at (name, lot_name) t) (not_false (is_some (lot_at (name, lot_name) t)) passes.1.0) in
    by_rows n.0 n.1 l.0 l.1
  where
    Goal : Option NoticeRow → Option LotRow → Type 0
    Goal o p = first_of (award_tests (record { notice = o; lot = p; line = line_of_lot p t; envelopes = envelopes_of_lot name lot_name t; securities = []; clock = t.clock }) (max m t.clock.moment)) ≡ None
        → HaveFates readings (given t m caller (Award name lot_name) ∷ xs)
        (after_puts (award_puts (record { notice = o; lot = p; line = line_of_lot p t; envelopes = envelopes_of_lot name lot_name t; securities = securities_of_lot name lot_name t; clock = t.clock }) (max m t.clock.moment)) t)

    by_rows : (n : NoticeRow) → notice_at name t ≡ Some n → (l : LotRow) → lot_at (name, lot_name) t ≡ Some l
        → HaveFates readings (given t m caller (Award name lot_name) ∷ xs)
        (after_puts (award_puts (record { notice = notice_at name t; lot = (lot_at (name, lot_name) t); line = (line_of_lot (lot_at (name, lot_name) t) t); envelopes = envelopes_of_lot name lot_name t; securities = securities_of_lot name lot_name t; clock = t.clock }) (max m t.clock.moment)) t)
    by_rows n n_is l l_is =
        let goal : Goal (notice_at name t) (lot_at (name, lot_name) t) =
        subst (λ o. Goal o (lot_at (name, lot_name) t)) (sym n_is) (subst (λ p. Goal (Some n) p) (sym l_is) (award_by readings name lot_name xs t m caller kept n n_is l l_is)) in
        goal allowed
