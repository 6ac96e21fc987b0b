-- Over any tables, an award makes no missing parent of a row, and replaces no row of another owner.
use Rattle.office_machine.proofs.Names.{max, ℕ, ◌+◌, ◌-◌, false, ◌&&◌, ◌||◌, ◌≡◌, List, Option, Some, None, is_some, refl, line_of_lot, Tables, IsSorted, award_at, line_at, lot_at, notice_at, envelopes_of_lot, securities_of_lot, with_next_release, EnvelopeRow, LineRow, LotRow, NoticeRow, winner, unsuccessful, awarded, price_of, decision_puts, award_puts, award_rows, award_lacks, award_is_taken, OfAward, is_named, is_there, Award}
use Rattle.office_machine.proofs.NoParents.Gentle.{AreGentle}
use Rattle.office_machine.proofs.Passed.{neither}
use Rattle.office_machine.proofs.NoParents.Gentle.{PutsGently}
use Rattle.office_machine.proofs.NoParents.Kept.{notice_kept, line_of, lot_kept, lot_returned}
use Rattle.office_machine.proofs.NoParents.New.{unnamed, no_row}

-- the next award has no row, no contract, no entry and no performance security, if there is a winner
decided_by : (s : Tables) (order : IsSorted s) (t : ℕ) (notice lot : List ℕ) (n : NoticeRow) (l : LotRow) (w : LineRow) → notice_at notice s ≡ Some n → lot_at (notice, lot) s ≡ Some l → line_at l.line s ≡ Some w
    → (o : Option EnvelopeRow) → (is_some o && (is_some (award_at (s.clock.awards + 1) s) || is_named (OfAward (s.clock.awards + 1)) s)) ≡ false
    → AreGentle s (decision_puts s.clock t n l w o (securities_of_lot notice lot s))
decided_by s order t notice lot n l w is lot_is line None new =
    (lot_kept s (notice, lot) l (unsuccessful l) lot_is refl refl refl, (line_of s l.line w (w.free + l.reserved) line, (notice_kept s notice n (with_next_release n) is refl, ((refl, tt), lot_returned s order notice lot))))
decided_by s order t notice lot n l w is lot_is line (Some e) new =
    let each = neither (is_some (award_at (s.clock.awards + 1) s)) (is_named (OfAward (s.clock.awards + 1)) s) new in (
      (unnamed (is_there (OfAward (s.clock.awards + 1)) s) (is_named (OfAward (s.clock.awards + 1)) s) each.1, λ a was. no_row (award_at (s.clock.awards + 1) s) a each.0 was),
      (lot_kept s (notice, lot) l (awarded e l) lot_is refl refl refl, (line_of s l.line w ((w.free + l.reserved) - price_of e) line, (notice_kept s notice n (with_next_release n) is refl, ((refl, tt), tt)))),
    )

award_by : (s : Tables) (order : IsSorted s) (t : ℕ) (notice lot : List ℕ) (n : Option NoticeRow) (l : Option LotRow) (w : Option LineRow) → notice_at notice s ≡ n → lot_at (notice, lot) s ≡ l → line_of_lot l s ≡ w
    → (is_some (winner n (envelopes_of_lot notice lot s)) && (is_some (award_at (s.clock.awards + 1) s) || is_named (OfAward (s.clock.awards + 1)) s)) ≡ false
    → AreGentle s (award_puts (record { notice = n; lot = l; line = w; envelopes = envelopes_of_lot notice lot s; securities = securities_of_lot notice lot s; clock = s.clock }) t)
award_by s order t notice lot (Some n) (Some l) (Some w) is lot_is line new = decided_by s order t notice lot n l w is lot_is line (winner (Some n) (envelopes_of_lot notice lot s)) new
award_by s order t notice lot None l w is lot_is line new = tt
award_by s order t notice lot (Some n) None w is lot_is line new = tt
award_by s order t notice lot (Some n) (Some l) None is lot_is line new = tt

pub award_gently : (notice lot : List ℕ) → PutsGently (Award notice lot)
award_gently notice lot readings s moment caller order allowed whole =
    award_by s order (max moment s.clock.moment) notice lot (notice_at notice s) (lot_at (notice, lot) s) (line_of_lot (lot_at (notice, lot) s) s) refl refl refl
    (neither (award_lacks (award_rows s notice lot)) (award_is_taken notice lot s) whole).1
