-- The tenders in the minutes, one after another.
use Rattle.office_desk.proofs.Names.{◌≡◌, ℕ, ◌+◌, ◌<◌, List, [], ◌∷◌, ◌++◌, get_or, length, map, take, sym, ap, ◌∙◌, map-append, take_more, EnvelopeRow, TendererRow, minuted, minuted_tender, OpenedTender}

-- These tenders as the minutes show them.
abbrev pub opened_tenders : List TendererRow → List EnvelopeRow → List OpenedTender
opened_tenders tenderers rows = map minuted_tender (map (minuted tenderers) rows)

-- One more tender.
pub next_opened : (tenderers : List TendererRow) (rows : List EnvelopeRow) (i : ℕ) (row : EnvelopeRow) (old new : List OpenedTender) (tender : OpenedTender)
    → i < length rows → row ≡ get_or rows i row → old ≡ opened_tenders tenderers (take i rows) → tender ≡ minuted_tender (minuted tenderers row)
    → new ≡ old ++ tender ∷ [] → new ≡ opened_tenders tenderers (take (i + 1) rows)
next_opened tenderers rows i row old new tender within is so_far this more =
    more ∙ ap (λ xs. xs ++ tender ∷ []) so_far ∙ ap (λ x. opened_tenders tenderers (take i rows) ++ x ∷ []) this
    ∙ sym (ap (opened_tenders tenderers) (take_more rows i row within ∙ ap (λ r. take i rows ++ r ∷ []) (sym is))
    ∙ ap (map minuted_tender) (map-append (minuted tenderers) (take i rows) (row ∷ []))
    ∙ map-append minuted_tender (map (minuted tenderers) (take i rows)) (minuted tenderers row ∷ []))
