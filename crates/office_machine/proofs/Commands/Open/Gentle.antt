-- Over any tables, an opening makes no missing parent of a row, and replaces no row of another owner.
use Rattle.office_machine.proofs.Names.{max, ℕ, ◌≡◌, List, [], ◌∷◌, Option, Some, None, map, filter, refl, AllByRecursion, Item, Tables, IsSorted, envelope_at, notice_at, envelopes_of_notice, Reading, ClockRow, EnvelopeRow, NoticeRow, is_sealed_envelope, open_puts, opened_put, opened_envelope, opened_notice, sealed_tender, sealed_tenders, Open}
use Rattle.office_machine.proofs.NoParents.Gentle.{AreGentle, gentle-append}
use Rattle.office_machine.proofs.Rows.Keyed.{all_found}
use Rattle.office_machine.proofs.Rows.Keyed as keyed
use Rattle.office_machine.proofs.NoParents.Gentle.{PutsGently}
use Rattle.office_machine.proofs.NoParents.Kept.{notice_kept, envelope_kept, all_filter}

opened_gently : (s : Tables) (read : List ℕ → List Item → Reading) (rows : List EnvelopeRow) → AllByRecursion (λ (e : EnvelopeRow). envelope_at e.receipt s ≡ Some e) rows
    → AreGentle s (map (opened_put read) (map (sealed_tender s) rows))
opened_gently s read [] h = tt
opened_gently s read (e ∷ rows) h = (envelope_kept s e.receipt e (opened_envelope read (sealed_tender s e)) h.0 refl refl refl refl refl, opened_gently s read rows h.1)

open_by : (s : Tables) (order : IsSorted s) (read : List ℕ → List Item → Reading) (clock : ClockRow) (t : ℕ) (notice : List ℕ) (o : Option NoticeRow) → notice_at notice s ≡ o
    → AreGentle s (open_puts read (record { notice = o; clock = clock }) t (sealed_tenders notice s))
open_by s order read clock t notice None is = tt
open_by s order read clock t notice (Some n) is =
    gentle-append s (map (opened_put read) (sealed_tenders notice s)) _
    (opened_gently s read (filter is_sealed_envelope (envelopes_of_notice notice s))
    (all_filter _ is_sealed_envelope (envelopes_of_notice notice s) (all_filter _ _ s.envelopes (all_found keyed.envelopes (λ (e : EnvelopeRow). envelope_at e.receipt s ≡ Some e) s.envelopes order.envelopes (λ e at. at)))))
    (notice_kept s notice n (opened_notice t n) is refl, ((refl, tt), tt))

pub open_gently : (notice : List ℕ) → PutsGently (Open notice)
open_gently notice readings s moment caller order allowed whole =
    open_by s order readings.read s.clock (max moment s.clock.moment) notice (notice_at notice s) refl
