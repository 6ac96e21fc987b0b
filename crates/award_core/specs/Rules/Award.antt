-- The rule of an award: a lot goes to its best admissible tender (Model Law, articles 43 and 22).
use Rattle.std.specs.Prelude.{ℕ, ◌+◌, ◌-◌, ◌*◌, ◌/◌, Bool, false, not, cond, ◌&&◌, ◌||◌, List, [], ◌∷◌, Option, Some, None, is_some, unwrap_or, nat_lt, nat_eq}
use Rattle.std.specs.List.{list_any}
use Rattle.office_base.specs.Readings.{is_priced, price_in}
use Rattle.office_values.specs.declared.refusal.Thing.TheVariants as things
use Rattle.office_values.specs.declared.refusal.Refusal.{Refusal}
use Rattle.office_values.specs.declared.refusal.Refusal.TheVariants.{NoSuch, NotOpened, AlreadyDecided, NotAllExamined, Expired, InsufficientFunds, LimitReached}
use Rattle.office_base.specs.Rows.{holds_of}
use Rattle.office_base.specs.Joined.{free_in}
use Rattle.office_base.specs.Transitions.{clock_put, award_clock, with_next_release, has_all_releases, is_expired, securities_returned, puts_if}
use Rattle.office_base.specs.States.{is_opened, is_read, is_undecided}
use Rattle.office_base.specs.declared.records.LotState.TheVariants as lot_states
use Rattle.office_base.specs.declared.records.AwardState.TheVariants as award_states
use Rattle.office_base.specs.declared.records.LineRow.{LineRow}
use Rattle.office_base.specs.declared.records.NoticeRow.{NoticeRow}
use Rattle.office_base.specs.declared.records.LotRow.{LotRow}
use Rattle.office_base.specs.declared.records.EnvelopeRow.{EnvelopeRow}
use Rattle.office_base.specs.declared.records.SecurityRow.{SecurityRow}
use Rattle.office_base.specs.declared.records.AwardRow.{AwardRow}
use Rattle.office_base.specs.declared.records.ClockRow.{ClockRow}
use Rattle.office_base.specs.declared.puts.Put.TheVariants as puts
use Rattle.office_base.specs.declared.puts.Put.{Put}
use Rattle.office_base.specs.Tables.{Tables, notice_at, lot_at, envelopes_of_lot, securities_of_lot}
use Rattle.office_base.specs.Parents.{line_of_lot}
use Rattle.award_core.specs.declared.award.AwardRows.{AwardRows}

-- whether an examination found a tender responsive; false if there was none
abbrev pub is_responsive : Option Bool → Bool
is_responsive None = false
is_responsive (Some b) = b

-- the corrected price of a tender; 0 if it has none
abbrev pub price_of : EnvelopeRow → ℕ
price_of e = price_in e.reading

-- whether a tender can win: it was opened, has a price, was found responsive, and its tenderer neither failed to sign nor withdrew it late
abbrev pub is_admissible : EnvelopeRow → Bool
is_admissible e = is_read e.state && is_priced e.reading && is_responsive e.responsive && not e.failed

-- the lesser of a price and one that may be absent
abbrev pub lesser : ℕ → Option ℕ → ℕ
lesser n None = n
lesser n (Some m) = cond (nat_lt m n) m n

-- the lowest price of an admissible tender
abbrev pub lowest_price : List EnvelopeRow → Option ℕ
lowest_price [] = None
lowest_price (e ∷ es) = cond (is_admissible e) (Some (lesser (price_of e) (lowest_price es))) (lowest_price es)

-- the points for a price in thousandths: its share of the weight, by the lowest price and rounded down, and the whole weight for the price 0
abbrev pub price_points : ℕ → ℕ → ℕ → ℕ
price_points weight lowest price = cond (nat_eq price 0) (weight * 1000) (weight * 1000 * lowest / price)

-- the points of a tender in thousandths: those for its price, and those for its quality
abbrev pub points : ℕ → ℕ → EnvelopeRow → ℕ
points weight lowest e = price_points weight lowest (price_of e) + 1000 * unwrap_or e.quality 0

-- whether the first tender is cheaper, or as cheap and received before the second
abbrev pub is_cheaper : EnvelopeRow → EnvelopeRow → Bool
is_cheaper x y = nat_lt (price_of x) (price_of y) || (nat_eq (price_of x) (price_of y) && nat_lt x.receipt y.receipt)

-- whether the first tender is better: it has more points, or as many and is cheaper or earlier. If the weight is 0, the price alone decides.
abbrev pub is_better : ℕ → ℕ → EnvelopeRow → EnvelopeRow → Bool
is_better weight lowest x y =
    cond (nat_eq weight 0) (is_cheaper x y)
    (nat_lt (points weight lowest y) (points weight lowest x) || (nat_eq (points weight lowest x) (points weight lowest y) && is_cheaper x y))

-- the better of two tenders, of which one may be absent
abbrev pub better : ℕ → ℕ → EnvelopeRow → Option EnvelopeRow → EnvelopeRow
better weight lowest e None = e
better weight lowest e (Some f) = cond (is_better weight lowest f e) f e

-- the best of the admissible tenders, if price points are measured by this lowest price
abbrev pub best_with : ℕ → ℕ → List EnvelopeRow → Option EnvelopeRow
best_with weight lowest [] = None
best_with weight lowest (e ∷ es) =
    cond (is_admissible e) (Some (better weight lowest e (best_with weight lowest es))) (best_with weight lowest es)

-- the best of the tenders of a lot; the weight is the points that the price can give, and 0 if the price alone decides
abbrev pub best_of : ℕ → List EnvelopeRow → Option EnvelopeRow
best_of weight rows = best_with weight (unwrap_or (lowest_price rows) 0) rows

-- the points that the price can give; 0 if the notice doesn't exist
abbrev pub weight_in : Option NoticeRow → ℕ
weight_in None = 0
weight_in (Some n) = n.weight

-- the best tender of a lot by the criteria of the notice
abbrev pub winner : Option NoticeRow → List EnvelopeRow → Option EnvelopeRow
winner notice envelopes = best_of (weight_in notice) envelopes

-- whether a tender that has a price and can still win waits for its examination
abbrev pub isnt_examined : EnvelopeRow → Bool
isnt_examined e = is_priced e.reading && not (is_some e.responsive) && not e.failed

-- the amount that a lot has reserved; 0 if the lot doesn't exist
abbrev pub reserved_in : Option LotRow → ℕ
reserved_in None = 0
reserved_in (Some l) = l.reserved

-- whether the price of a tender is above the funds: the money that its lot has reserved, and that is free on its budget line
abbrev pub is_above : ℕ → EnvelopeRow → Bool
is_above funds e = nat_lt funds (price_of e)

-- the lot without a winner, which reserves nothing
abbrev pub unsuccessful : LotRow → LotRow
unsuccessful l = record l { state = lot_states.Unsuccessful; reserved = 0 }

-- the lot with a winner, which reserves the winner's price
abbrev pub awarded : EnvelopeRow → LotRow → LotRow
awarded e l = record l { state = lot_states.Awarded; reserved = price_of e }

-- the award of a lot to a tender
abbrev pub award_row : ClockRow → ℕ → LotRow → EnvelopeRow → AwardRow
award_row clock t l e = record {
  award = clock.awards + 1;
  notice = l.notice;
  lot = l.lot;
  receipt = e.receipt;
  price = price_of e;
  moment = t;
  state = award_states.Active;
}

-- The changes of the decision. Without an admissible tender the lot is unsuccessful and the securities are returned. Otherwise the best tender has the award,
-- and the lot reserves its corrected price.
abbrev pub decision_puts : ClockRow → ℕ → NoticeRow → LotRow → LineRow → Option EnvelopeRow → List SecurityRow → List Put
decision_puts clock t n l r None securities =
    puts.Lot (unsuccessful l)
    ∷ puts.Line (record r { free = r.free + l.reserved })
    ∷ puts.Notice (with_next_release n)
    ∷ clock_put clock t
    ∷ securities_returned securities
decision_puts clock t n l r (Some e) securities =
    puts.Award (award_row clock t l e)
    ∷ puts.Lot (awarded e l)
    ∷ puts.Line (record r { free = (r.free + l.reserved) - price_of e })
    ∷ puts.Notice (with_next_release n)
    ∷ award_clock clock t
    ∷ []

-- the rows that an award reads
abbrev pub award_rows : Tables → List ℕ → List ℕ → AwardRows
award_rows s notice lot = record {
  notice = notice_at notice s;
  lot = lot_at (notice, lot) s;
  line = line_of_lot (lot_at (notice, lot) s) s;
  envelopes = envelopes_of_lot notice lot s;
  securities = securities_of_lot notice lot s;
  clock = s.clock;
}

-- whether the lot exists, but its budget line is missing
abbrev pub award_lacks : AwardRows → Bool
award_lacks rows = is_some rows.lot && not (is_some rows.line)

-- the conditions of its refusals, in order
abbrev pub award_tests : AwardRows → ℕ → List (Bool × Refusal)
award_tests rows t =
    (not (is_some rows.notice), NoSuch things.Notice)
    ∷ (not (is_some rows.lot), NoSuch things.Lot)
    ∷ (holds_of (λ (n : NoticeRow). not (is_opened n.state)) rows.notice, NotOpened)
    ∷ (holds_of (λ (l : LotRow). not (is_undecided l.state)) rows.lot, AlreadyDecided)
    ∷ (list_any isnt_examined rows.envelopes, NotAllExamined)
    ∷ (list_any is_admissible rows.envelopes && holds_of (is_expired t) rows.notice, Expired)
    ∷ (holds_of (is_above (reserved_in rows.lot + free_in rows.line)) (winner rows.notice rows.envelopes), InsufficientFunds)
    ∷ (has_all_releases rows.notice, LimitReached)
    ∷ []

-- its changes: those of the decision, if the notice, the lot and its budget line exist
abbrev pub award_puts : AwardRows → ℕ → List Put
award_puts rows t =
    puts_if (λ (n : NoticeRow). puts_if (λ (l : LotRow). puts_if (λ (r : LineRow).
    decision_puts rows.clock t n l r (winner (Some n) rows.envelopes) rows.securities
    ) rows.line) rows.lot) rows.notice
