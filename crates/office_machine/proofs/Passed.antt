-- Facts about a command that isn't refused.
use Rattle.office_machine.proofs.Names.{◌≡◌, ℕ, ◌+◌, ◌≤◌, Bool, true, false, cond, not, ◌||◌, ◌&&◌, List, [], ◌∷◌, Option, Some, None, is_some, nat_lt, refl, sym, ap, ◌∙◌, arith, nat_tests, AllByRecursion, Refusal, Forbidden, may_give, Given, command_tests, refusal_of, holds_of, first_of}

pub passed : (b : Bool) (why : Refusal) (rest : Option Refusal) → cond b (Some why) rest ≡ None → (b ≡ false) × (rest ≡ None)
passed true why rest e = cc
passed false why rest e = (refl, e)

-- no condition of its refusals holds
pub none_holds : (tests : List (Bool × Refusal)) → first_of tests ≡ None → AllByRecursion (λ test. test.0 ≡ false) tests
none_holds [] e = tt
none_holds (test ∷ tests) e = let p = passed test.0 test.1 (first_of tests) e in (p.0, none_holds tests p.1)

pub neither : (a b : Bool) → (a || b) ≡ false → (a ≡ false) × (b ≡ false)
neither true b e = cc
neither false b e = (refl, e)

pub not_false : (b : Bool) → not b ≡ false → b ≡ true
not_false true e = cc
not_false false e = cc

pub at_least : (a b : ℕ) → nat_lt a b ≡ false → b ≤ a
at_least a b e = grind (arith, nat_tests)

pub not_both : (b d : Bool) → (not b && d) ≡ false → b ≡ false → d ≡ false
not_both true d e f = cc
not_both false d e f = e

pub not_and : (b d : Bool) → (b && d) ≡ false → b ≡ true → d ≡ false
not_and true d e f = e
not_and false d e f = cc

-- an optional value that exists, as a value
pub witness : {X : Type 0} (o : Option X) → is_some o ≡ true → (x : X) × (o ≡ Some x)
witness None e = cc
witness (Some x) e = (x, refl)

-- the test of a row that exists
pub test_of : {X : Type 0} (p : X → Bool) (o : Option X) (x : X) → o ≡ Some x → (b : Bool) → holds_of p o ≡ b → p x ≡ b
test_of p o x is b e = sym (ap (holds_of p) is) ∙ e

pub is_there : {X : Type 0} (o : Option X) (x : X) → o ≡ Some x → is_some o ≡ true
is_there o x e = ap is_some e

-- an amount under two tests is the amount under both
pub both : (b d : Bool) (n : ℕ) → cond (b && d) n 0 ≡ cond d (cond b n 0) 0
both true true n = refl
both true false n = refl
both false true n = refl
both false false n = refl

pub split : (b : Bool) (m n k : ℕ) → k ≡ m + n → cond b k 0 ≡ cond b m 0 + cond b n 0
split true m n k e = e
split false m n k e = refl

pub no_zero : (b : Bool) → let zero : ℕ = 0 in cond b zero zero ≡ zero
no_zero true = refl
no_zero false = refl

pub not_all : (a b c : Bool) → (a && b && c) ≡ false → a ≡ true → b ≡ true → c ≡ false
not_all true true c e f g = e
not_all true false c e f g = cc
not_all false b c e f g = cc

-- the conditions of the command's own refusals don't hold
pub allowed_by : (x : Given) → refusal_of x ≡ None → first_of (command_tests x) ≡ None
allowed_by x e = (passed (not (may_give x.caller x.command)) Forbidden (first_of (command_tests x)) e).1

-- the caller may give the command
pub may_by : (x : Given) → refusal_of x ≡ None → may_give x.caller x.command ≡ true
may_by x e = not_false (may_give x.caller x.command) (passed (not (may_give x.caller x.command)) Forbidden (first_of (command_tests x)) e).0
