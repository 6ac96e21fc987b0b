-- The caller's name and key, by the fields of a request.
use Rattle.std.specs.Prelude.{ℕ, List, [], ◌∷◌, codes, Option, Some, None, Result, Ok, Err}
use Rattle.office_values.specs.declared.refusal.Refusal.{Refusal}
use Rattle.office_values.specs.declared.refusal.Refusal.TheVariants.{BadKey}
use Rattle.office_wire.specs.Fields.{values_of}

-- The value of a field, or none if there is no such field. A field that comes twice is refused.
abbrev pub one_value : List (List ℕ) → Result (Option (List ℕ)) Refusal
one_value [] = Ok None
one_value (value ∷ []) = Ok (Some value)
one_value (value ∷ other ∷ more) = Err BadKey

-- A name and a key, if neither is refused.
abbrev pub both_values : Result (Option (List ℕ)) Refusal → Result (Option (List ℕ)) Refusal → Result (Option (List ℕ) × Option (List ℕ)) Refusal
both_values (Ok name) (Ok key) = Ok (name, key)
both_values (Ok name) (Err why) = Err why
both_values (Err why) key = Err why

-- The values of `Office-Caller` and `Office-Key`, each of which may be absent.
abbrev pub credentials_of : List (List ℕ × List ℕ) → Result (Option (List ℕ) × Option (List ℕ)) Refusal
credentials_of fields = both_values (one_value (values_of (codes "office-caller") fields)) (one_value (values_of (codes "office-key") fields))
