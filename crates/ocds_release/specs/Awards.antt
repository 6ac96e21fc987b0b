-- Awards that end (OCDS 1.1, Award, codelist awardStatus).
use Rattle.std.specs.Prelude.{ℕ, [], ◌∷◌, codes}
use Rattle.serde_json.specs.Data.{Data}
use Rattle.ocds_release.specs.Objects.{text, decimal_id, object_of}

-- an award that ended without a contract; its status is `cancelled`
abbrev pub ended_award : ℕ → Data
ended_award award = object_of ((codes "id", decimal_id award) ∷ (codes "status", text (codes "cancelled")) ∷ [])
