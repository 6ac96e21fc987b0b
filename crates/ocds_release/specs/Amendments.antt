-- Amendments of notices and of contracts (OCDS 1.1, Amendment).
use Rattle.std.specs.Prelude.{ℕ, List, [], ◌∷◌, codes}
use Rattle.serde_json.specs.Data.{Data}
use Rattle.office_values.specs.Moments.{moment_text}
use Rattle.ocds_release.specs.Objects.{text, object_of}

-- an amendment: its id, its date, its rationale, and a description of the change
abbrev pub amendment : Data → ℕ → List ℕ → Data → Data
amendment id t rationale description = object_of (
    (codes "date", text (moment_text t))
    ∷ (codes "rationale", text rationale)
    ∷ (codes "id", id)
    ∷ (codes "description", description)
    ∷ [])
