-- Numbers that are tested one after another are those from 1 on.
use Rattle.office_plans.proofs.Names.{◌≡◌, ℕ, zero, suc, ◌+◌, ◌&&◌, Bool, true, nat_eq, List, [], ◌∷◌, length, refl, ap, ap₂, arith, and_parts, nat_tests, numbers}

-- each number is one more than the one before it, from this one on
abbrev pub are_from : ℕ → List ℕ → Bool
are_from n [] = true
are_from n (x ∷ xs) = nat_eq x n && are_from (n + 1) xs

pub as_many : (k n : ℕ) → length (numbers n k) ≡ k
as_many zero n = refl
as_many (suc k) n = ap suc (as_many k (n + 1))

pub are_numbers : (n : ℕ) (xs : List ℕ) → are_from n xs ≡ true → xs ≡ numbers n (length xs)
are_numbers n [] are = refl
are_numbers n (x ∷ xs) are =
    let both = and_parts (nat_eq x n) (are_from (n + 1) xs) are in
    let first : x ≡ n = grind (arith, nat_tests, both.0) in
    ap₂ (λ (y : ℕ) (ys : List ℕ). y ∷ ys) first (are_numbers (n + 1) xs both.1)

pub numbers_are : (k n : ℕ) → are_from n (numbers n k) ≡ true
numbers_are zero n = refl
numbers_are (suc k) n = ap₂ (λ (b c : Bool). b && c) same (numbers_are k (n + 1))
  where
    same : nat_eq n n ≡ true
    same = grind (arith, nat_tests)

-- the first of these numbers is the one that is asked for
pub first_is : (n x : ℕ) (xs : List ℕ) → are_from n (x ∷ xs) ≡ true → x ≡ n
first_is n x xs are = let both = and_parts (nat_eq x n) (are_from (n + 1) xs) are in grind (arith, nat_tests, both.0)
