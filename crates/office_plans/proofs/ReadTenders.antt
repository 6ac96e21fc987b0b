-- The tenders that an opening reads.
use Rattle.office_plans.proofs.Names.{◌≡◌, ℕ, Bool, false, ◌||◌, List, [], ◌∷◌, ◌++◌, map, list_any, refl, sym, ap, ◌∙◌, append_assoc, Tables, EnvelopeRow, with_reading, OpenedTender, sealed_of_notice, sealed_tender, sealed_tenders, office_readings, tender_read, tenders_read}

each_read : (s : Tables) (es : List EnvelopeRow) → map (tender_read s) es ≡ map (with_reading office_readings.read) (map (sealed_tender s) es)
each_read s [] = refl
each_read s (e ∷ es) = ap (λ (rest : List OpenedTender). tender_read s e ∷ rest) (each_read s es)

-- They are the notice's sealed tenders, each with its reading.
pub tenders_are : (notice : List ℕ) (s : Tables) → tenders_read notice s ≡ map (with_reading office_readings.read) (sealed_tenders notice s)
tenders_are notice s = each_read s (sealed_of_notice notice s)

-- One more tender is read.
pub next_read : (read : EnvelopeRow → OpenedTender) (old new : List OpenedTender) (tender : OpenedTender) (e : EnvelopeRow) (left rest : List EnvelopeRow) (all : List OpenedTender)
    → new ≡ old ++ tender ∷ [] → tender ≡ read e → left ≡ e ∷ rest → old ++ map read left ≡ all → new ++ map read rest ≡ all
next_read read old new tender e left rest all pushed is taken before =
    ap (λ (ts : List OpenedTender). ts ++ map read rest) pushed
    ∙ append_assoc old (tender ∷ []) (map read rest)
    ∙ ap (λ (t : OpenedTender). old ++ t ∷ map read rest) is
    ∙ ap (λ (es : List EnvelopeRow). old ++ map read es) (sym taken)
    ∙ before

-- If the first tender is whole, the rest misses something if and only if all do.
pub rest_whole : (lost : EnvelopeRow → Bool) (e : EnvelopeRow) (left rest : List EnvelopeRow) (b : Bool) → lost e ≡ false → left ≡ e ∷ rest → list_any lost left ≡ b → list_any lost rest ≡ b
rest_whole lost e left rest b whole taken before = sym (ap (λ (c : Bool). c || list_any lost rest) whole) ∙ sym (ap (list_any lost) taken) ∙ before
