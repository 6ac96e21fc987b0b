-- The places of the items of a list, by id. No public clause uses this file.
use Rattle.std.specs.Prelude.{◌≡◌, ◌<◌, ℕ, suc, List, [], ◌∷◌, take, length, get_or, true, if◌then◌else◌, Option, Some, None, option_map, MatchOption, String, bytes_eq}
use Rattle.std.specs.declared.alloc.Global.{Global}
use Rattle.std.specs.BTreeMap.{BTreeMap, get_by_text}
use Rattle.serde_json.specs.Data.{Data, null}
use Rattle.ocds_merge.specs.Identified.{id_of}
use Rattle.ocds_merge.specs.Inside.Step.{Lacks}

-- the place of the first item with this id, or `None` if no item has it
abbrev pub IsPlaceOf : Option ℕ → List ℕ → List Data → Type 0
IsPlaceOf result i ds = MatchOption result (Lacks i ds) (λ p. (p < length ds) × Lacks i (take p ds) × (bytes_eq (id_of (get_or ds p null)) i ≡ true))

-- the place of the first item with this id, as a computation
abbrev pub place_in : List ℕ → List Data → Option ℕ
place_in i [] = None
place_in i (d ∷ ds) = if bytes_eq (id_of d) i then Some 0 else option_map suc (place_in i ds)

-- the index has for each id the place of the first item with it
abbrev pub IsIndexOf : BTreeMap (String Global) ℕ → List Data → Type 0
IsIndexOf by_id ds = (i : List ℕ) → get_by_text by_id i ≡ place_in i ds

-- an index of these items, or no index
abbrev pub IndexServes : Option (BTreeMap (String Global) ℕ) → List Data → Type 0
IndexServes None ds = Unit {0}
IndexServes (Some by_id) ds = IsIndexOf by_id ds
