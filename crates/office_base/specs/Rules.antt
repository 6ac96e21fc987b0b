-- The conditions on which a command is refused.
use Rattle.std.specs.Prelude.{Bool, cond, List, [], ◌∷◌, Option, Some, None}
use Rattle.office_values.specs.declared.refusal.Refusal.{Refusal}

-- the refusal of the first condition that holds
abbrev pub first_of : List (Bool × Refusal) → Option Refusal
first_of [] = None
first_of (test ∷ tests) = cond test.0 (Some test.1) (first_of tests)
