-- The refusals of each command are in the order of their numbers.
use Rattle.office_machine.proofs.Names.{◌≡◌, ℕ, ◌≤◌, Bool, true, false, cond, ◌&&◌, List, [], ◌∷◌, Some, nat_le, refl, ap, arith, nat_tests, Caller, Command, Import, Tables, AllByRecursion, IsLeast, LeastIsAnswered, NumbersNeverFall, NeverFall, Refusal, number_of_refusal, first_of, tests, tests_for, command_tests}

-- no refusal has a lower number than n, or than the one before it
abbrev pub rises : ℕ → List (Bool × Refusal) → Bool
rises n [] = true
rises n (test ∷ tests) = nat_le n (number_of_refusal test.1) && rises (number_of_refusal test.1) tests

both : (a b : Bool) → (a && b) ≡ true → (a ≡ true) × (b ≡ true)
both true b e = (refl, e)
both false b e = cc

pub risen : (n : ℕ) (tests : List (Bool × Refusal)) → rises n tests ≡ true → NeverFall n tests
risen n [] e = tt
risen n (test ∷ tests) e =
    let rise = both (nat_le n (number_of_refusal test.1)) (rises (number_of_refusal test.1) tests) e in
    let first : nat_le n (number_of_refusal test.1) ≡ true = rise.0 in
    (grind (arith, nat_tests), risen (number_of_refusal test.1) tests rise.1)

in_order : (s : Tables) (t : ℕ) (caller : Caller) (command : Command) → rises 7 (tests_for s t caller command) ≡ true
in_order s t caller (Import batch rows) = refl
in_order s t caller _ = refl

pub never_fall : NumbersNeverFall
never_fall x = (omega arith, risen 7 (command_tests x) (in_order x.before _ x.caller x.command))

-- numbers that never fall are at least the first one
above : (m n : ℕ) (tests : List (Bool × Refusal)) → m ≤ n → NeverFall n tests → AllByRecursion (λ (test : Bool × Refusal). test.0 ≡ true → m ≤ number_of_refusal test.1) tests
above m n [] le h = tt
above m n (test ∷ tests) le h = (λ e. omega (arith, h.0), above m (number_of_refusal test.1) tests (omega (arith, h.0)) h.1)

least_by : (n : ℕ) (test : Bool × Refusal) (tests : List (Bool × Refusal)) (why : Refusal) → NeverFall n (test ∷ tests) → (first_of tests ≡ Some why → IsLeast tests why)
    → (b : Bool) → test.0 ≡ b → cond b (Some test.1) (first_of tests) ≡ Some why → IsLeast (test ∷ tests) why
least_by n test tests why h rest true is found =
    let same : test.1 ≡ why = cc in
    let number : number_of_refusal test.1 ≡ number_of_refusal why = ap number_of_refusal same in
    (λ e. omega (arith, number), above (number_of_refusal why) (number_of_refusal test.1) tests (omega (arith, number)) h.1)
least_by n test tests why h rest false is found = (λ e. let f = is in absurd cc, rest found)

pub least : (n : ℕ) (tests : List (Bool × Refusal)) (why : Refusal) → NeverFall n tests → first_of tests ≡ Some why → IsLeast tests why
least n [] why h e = cc
least n (test ∷ tests) why h e = least_by n test tests why h (λ found. least (number_of_refusal test.1) tests why h.1 found) test.0 refl e

pub least_answered : LeastIsAnswered
least_answered x why e = least 0 (tests x) why (never_fall x) e
