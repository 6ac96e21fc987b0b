-- The register's text is the same from the registered tenders as from their rows.
use Rattle.office_desk.proofs.Names.{◌≡◌, ℕ, List, [], ◌∷◌, ◌++◌, codes, map, ap, flat_map-map, EnvelopeRow, line, register_text, registered, registered_line, registry_text}

-- The line of a registered tender is the line of its row.
pub same_register : (notice : List ℕ) (rows : List EnvelopeRow) → registry_text notice (map registered rows) ≡ register_text notice rows
same_register notice rows = ap (λ lines. line (codes "REGISTER" ∷ notice ∷ []) ++ lines) (flat_map-map registered_line registered rows)
