-- The changes of an award depend on the securities of its lot only if nobody wins.
use Rattle.office_plans.proofs.Names.{◌≡◌, ℕ, List, Option, Some, None, refl, award_puts, award_rows, decision_puts, winner, AwardRows, Tables, envelopes_of_lot, notice_at, lot_at, securities_of_lot, EnvelopeRow, LineRow, LotRow, NoticeRow, SecurityRow, awarded_rows, securities_unless_won}
use Rattle.office_base.specs.Parents.{line_of_lot}

module _ (notice lot : List ℕ) (s : Tables) (t : ℕ) where
  -- A decision makes the same changes by all securities of the lot as by `securities_unless_won`, with a winner and without one.
  decided : (n : NoticeRow) (l : LotRow) (r : LineRow) (w : Option EnvelopeRow)
      → decision_puts s.clock t n l r w (securities_of_lot notice lot s) ≡ decision_puts s.clock t n l r w (securities_unless_won w notice lot s)
  decided n l r None = refl
  decided n l r (Some e) = refl

  -- The rows of an award as a record.
  abbrev rows_of : Option NoticeRow → Option LotRow → Option LineRow → List EnvelopeRow → List SecurityRow → AwardRows
  rows_of n l r es ss = record { notice = n; lot = l; line = r; envelopes = es; securities = ss; clock = s.clock }

  put : (n : Option NoticeRow) (l : Option LotRow) (r : Option LineRow) (es : List EnvelopeRow)
      → award_puts (rows_of n l r es (securities_of_lot notice lot s)) t
      ≡ award_puts (rows_of n l r es (securities_unless_won (winner n es) notice lot s)) t
  put None l r es = refl
  put (Some n) None r es = refl
  put (Some n) (Some l) None es = refl
  put (Some n) (Some l) (Some r) es = decided n l r (winner (Some n) es)

-- An award makes the same changes by all rows of the rule as by the rows that the program looks up.
pub same_puts : (notice lot : List ℕ) (s : Tables) (t : ℕ) → award_puts (award_rows s notice lot) t ≡ award_puts (awarded_rows s notice lot) t
same_puts notice lot s t =
    put notice lot s t (notice_at notice s) (lot_at (notice, lot) s) (line_of_lot (lot_at (notice, lot) s) s) (envelopes_of_lot notice lot s)
