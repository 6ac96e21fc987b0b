-- The refusals of a command are in the order of their numbers, so the first whose condition holds has the least number.
use Rattle.std.specs.Prelude.{◌≡◌, ℕ, ◌≤◌, Bool, true, List, [], ◌∷◌, Some}
use Rattle.std.specs.List.{AllByRecursion}
use Rattle.office_values.specs.declared.refusal.Refusal.{Refusal}
use Rattle.office_values.specs.Refusals.{number_of_refusal}
use Rattle.office_machine.specs.Machine.{Given, tests, refusal_of}

-- The first refusal has at least the number `n`, and none has a lower number than the one before it.
abbrev pub NeverFall : ℕ → List (Bool × Refusal) → Type 0
NeverFall n [] = Unit {0}
NeverFall n (test ∷ tests) = (n ≤ number_of_refusal test.1) × NeverFall (number_of_refusal test.1) tests

-- No refusal whose condition holds has a lower number than this one.
abbrev pub IsLeast : List (Bool × Refusal) → Refusal → Type 0
IsLeast tests why = AllByRecursion (λ (test : Bool × Refusal). test.0 ≡ true → number_of_refusal why ≤ number_of_refusal test.1) tests

-- The law: a refused command is answered by the refusal with the least number among those whose conditions hold.
abbrev pub LeastIsAnswered : Type 0
LeastIsAnswered = (x : Given) (why : Refusal) → refusal_of x ≡ Some why → IsLeast (tests x) why

-- The law: the refusals of every command are in the order of their numbers.
abbrev pub NumbersNeverFall : Type 0
NumbersNeverFall = (x : Given) → NeverFall 0 (tests x)
