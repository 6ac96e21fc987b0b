-- The lines of a lot in an evaluation.
use Rattle.office_desk.proofs.Names.{◌≡◌, ℕ, Bool, true, false, cond, ◌||◌, List, [], ◌++◌, map, flat_map, sym, ap, ◌∙◌, is_clerk, Caller, Tables, envelopes_of_lot, AwardRow, EnvelopeRow, LotRow, award_line, finding_line, lot_state_line, awards_of_lot, evaluated_lot, evaluated_tenders, has_outcome, lot_told, evaluated_lines, finding_of}
use Rattle.office_desk.proofs.Listed.{with_both, with_none}

-- The lines of tenders, and those of a lot's awards.
abbrev pub tender_lines : ℕ → List EnvelopeRow → List ℕ
tender_lines weight rows = flat_map finding_line (map finding_of (evaluated_tenders weight rows))

abbrev pub award_lines : List ℕ → List AwardRow → List ℕ
award_lines lot awards = flat_map award_line (awards_of_lot lot awards)

-- The lines of a lot, with or without its tenders and awards.
abbrev lines_told : Bool → ℕ → List AwardRow → Tables → LotRow → List ℕ
lines_told shown weight awards s l =
    evaluated_lines (cond shown (lot_told (evaluated_tenders weight (envelopes_of_lot l.notice l.lot s)) (awards_of_lot l.lot awards) l) (lot_told [] [] l))

-- A lot whose tenders are shown has its own line, one for each of its tenders, and one for each of its awards.
pub shown_lot : (caller : Caller) (weight : ℕ) (awards : List AwardRow) (s : Tables) (l : LotRow) (rows : List EnvelopeRow) (front one two three : List ℕ)
    → (is_clerk caller || has_outcome awards l) ≡ true → rows ≡ envelopes_of_lot l.notice l.lot s → one ≡ front ++ lot_state_line l.lot l.state
    → two ≡ one ++ tender_lines weight rows → three ≡ two ++ award_lines l.lot awards → three ≡ front ++ evaluated_lines (evaluated_lot caller weight awards s l)
shown_lot caller weight awards s l rows front one two three shown are first second third =
    let head = lot_state_line l.lot l.state in
    third
    ∙ ap (λ t. t ++ award_lines l.lot awards)
    (second ∙ ap (λ t. t ++ tender_lines weight rows) first ∙ ap (λ (r : List EnvelopeRow). (front ++ head) ++ tender_lines weight r) are)
    ∙ with_both front head (tender_lines weight (envelopes_of_lot l.notice l.lot s)) (award_lines l.lot awards)
    ∙ ap (λ b. front ++ lines_told b weight awards s l) (sym shown)

-- A lot whose tenders aren't shown has its own line alone.
pub hidden_lot : (caller : Caller) (weight : ℕ) (awards : List AwardRow) (s : Tables) (l : LotRow) (front one : List ℕ)
    → (is_clerk caller || has_outcome awards l) ≡ false → one ≡ front ++ lot_state_line l.lot l.state → one ≡ front ++ evaluated_lines (evaluated_lot caller weight awards s l)
hidden_lot caller weight awards s l front one hidden first =
    first ∙ with_none front (lot_state_line l.lot l.state) ∙ ap (λ b. front ++ lines_told b weight awards s l) (sym hidden)
