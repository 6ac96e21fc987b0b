-- Over any tables, a cancellation makes no missing parent of a row, and replaces no row of another owner.
use Rattle.office_machine.proofs.Names.{max, ℕ, false, ◌&&◌, ◌≡◌, List, [], ◌∷◌, Option, Some, None, is_some, map, filter, refl, AllByRecursion, list_any, Tables, IsSorted, notice_at, awards_of_notice, envelopes_of_notice, lots_of_notice, securities_of_notice, of_notice, security_returned, ClockRow, EnvelopeRow, LotRow, NoticeRow, freed_line, cancelled_lot, cancelled_award, returned_envelope, cancelled_notice, freed_line_put, cancelled_lot_put, is_open_lot, is_ended_award, award_put, is_ended_envelope, envelope_put, drop_put, is_ended_security, cancel_puts, lacks_line, Cancel}
use Rattle.office_machine.proofs.NoParents.Gentle.{AreGentle, IsGentle, gentle-append, gentle-map}
use Rattle.office_machine.proofs.Passed.{neither, not_false}
use Rattle.office_machine.proofs.Rows.Keyed.{all_found}
use Rattle.office_machine.proofs.Rows.Keyed as keyed
use Rattle.office_machine.proofs.NoParents.Gentle.{PutsGently}
use Rattle.office_machine.proofs.NoParents.Kept.{notice_kept, line_kept, lot_kept, envelope_kept, award_kept, all_filter, returned_gently}

lines_there : (s : Tables) (all lots : List LotRow) → list_any (lacks_line s.lines) lots ≡ false → AllByRecursion (λ l. IsGentle s (freed_line_put s.lines all l)) lots
lines_there s all [] none = tt
lines_there s all (l ∷ lots) none = let each = neither _ _ none in (line_kept s l.line (freed_line s.lines all l) (not_false _ each.0) refl, lines_there s all lots each.1)

drops_gently : (s : Tables) (rows : List EnvelopeRow) → AllByRecursion (λ e. IsGentle s (drop_put e)) rows
drops_gently s [] = tt
drops_gently s (e ∷ rows) = ((refl, tt), drops_gently s rows)

cancel_by : (s : Tables) (order : IsSorted s) (clock : ClockRow) (t : ℕ) (notice : List ℕ) (o : Option NoticeRow) → notice_at notice s ≡ o
    → (is_some o && list_any (lacks_line s.lines) (filter is_open_lot (lots_of_notice notice s))) ≡ false
    → AreGentle s (cancel_puts (record { notice = o; lines = s.lines; lots = lots_of_notice notice s; awards = awards_of_notice notice s; envelopes = envelopes_of_notice notice s; securities = securities_of_notice notice s; clock = clock }) t)
cancel_by s order clock t notice None is whole = tt
cancel_by s order clock t notice (Some n) is whole =
    let lots : List LotRow = lots_of_notice notice s in
    let ended : List LotRow = filter is_open_lot lots in
    let gone : List EnvelopeRow = filter (is_ended_envelope lots) (envelopes_of_notice notice s) in
    let lot_all = all_found keyed.lots (λ l. IsGentle s (cancelled_lot_put l)) s.lots order.lots (λ l at. lot_kept s (l.notice, l.lot) l (cancelled_lot l) at refl refl refl) in
    let award_all = all_found keyed.awards (λ a. IsGentle s (award_put a)) s.awards order.awards (λ a at. award_kept s a.award a (cancelled_award a) at refl refl refl refl) in
    let envelope_all = all_found keyed.envelopes (λ e. IsGentle s (envelope_put e)) s.envelopes order.envelopes (λ e at. envelope_kept s e.receipt e (returned_envelope e) at refl refl refl refl refl) in
    gentle-append s (map (freed_line_put s.lines ended) ended) _ (gentle-map s (freed_line_put s.lines ended) ended (lines_there s ended ended whole))
    (gentle-append s (map cancelled_lot_put ended) _ (gentle-map s cancelled_lot_put ended (all_filter _ is_open_lot lots (all_filter _ (of_notice notice) s.lots lot_all)))
    (gentle-append s (map award_put (filter (is_ended_award lots) (awards_of_notice notice s))) _
    (gentle-map s award_put (filter (is_ended_award lots) (awards_of_notice notice s)) (all_filter _ (is_ended_award lots) (awards_of_notice notice s) (all_filter _ _ s.awards award_all)))
    (gentle-append s (map envelope_put gone) _ (gentle-map s envelope_put gone (all_filter _ (is_ended_envelope lots) (envelopes_of_notice notice s) (all_filter _ _ s.envelopes envelope_all)))
    (gentle-append s (map drop_put gone) _ (gentle-map s drop_put gone (drops_gently s gone))
    (gentle-append s (map security_returned (filter (is_ended_security lots) (securities_of_notice notice s))) _
    (gentle-map s security_returned (filter (is_ended_security lots) (securities_of_notice notice s)) (all_filter _ (is_ended_security lots) (securities_of_notice notice s) (all_filter _ _ s.securities (returned_gently s order))))
    (notice_kept s notice n (cancelled_notice n) is refl, ((refl, tt), tt)))))))

pub cancel_gently : (notice rationale : List ℕ) → PutsGently (Cancel notice rationale)
cancel_gently notice rationale readings s moment caller order allowed whole =
    cancel_by s order s.clock (max moment s.clock.moment) notice (notice_at notice s) refl whole
