-- Every identifier is between the least and the greatest one.
use Rattle.office_memory.proofs.Names.{◌≡◌, ℕ, zero, suc, ◌≤◌, true, false, IsTrue, List, [], ◌∷◌, length, All, replicate, refl, arith, lit≤, nat_cmp, ordering_then, is_le, is_lt, slice_cmp, Ordering, Less, nat_tests, All-head, All-tail, All-replicate, is_id_byte, IsId, id_cmp, least, greatest}

least_byte : (b : ℕ) → is_id_byte b ≡ true → 45 ≤ b
least_byte b h = grind (arith, nat_tests)

greatest_byte : (b : ℕ) → is_id_byte b ≡ true → b ≤ 122
greatest_byte b h = grind (arith, nat_tests)

not_above : (a b : ℕ) → a ≤ b → (rest : Ordering) → is_le rest ≡ true → is_le (ordering_then (nat_cmp a b) rest) ≡ true
not_above a b h rest e = grind (arith, nat_tests)

not_below : (a b : ℕ) → b ≤ a → (rest : Ordering) → is_lt rest ≡ false → is_lt (ordering_then (nat_cmp a b) rest) ≡ false
not_below a b h rest e = grind (arith, nat_tests)

nothing_first : (xs : List ℕ) → is_le (slice_cmp nat_cmp [] xs) ≡ true
nothing_first [] = refl
nothing_first (x ∷ xs) = refl

pub is_le-least : (x : List ℕ) → IsId x → is_le (id_cmp least x) ≡ true
is_le-least [] h = absurd (omega (arith, h.not_empty))
is_le-least (b ∷ bs) h = not_above 45 b (least_byte b (All-head (λ x. IsTrue (is_id_byte x)) b bs h.plain)) (slice_cmp nat_cmp [] bs) (nothing_first bs)

lt-all_greatest : (n : ℕ) (x : List ℕ) → length x ≤ n → All (λ b. IsTrue (is_id_byte b)) x → is_lt (id_cmp (replicate n 122) x) ≡ false
lt-all_greatest zero [] h plain = refl
lt-all_greatest zero (b ∷ bs) h plain = absurd (omega (arith, h))
lt-all_greatest (suc n) [] h plain = refl
lt-all_greatest (suc n) (b ∷ bs) h plain =
    not_below 122 b (greatest_byte b (All-head (λ x. IsTrue (is_id_byte x)) b bs plain)) (id_cmp (replicate n 122) bs) (lt-all_greatest n bs (omega (arith, h)) (All-tail (λ x. IsTrue (is_id_byte x)) b bs plain))

pub is_lt-greatest : (x : List ℕ) → IsId x → is_lt (id_cmp greatest x) ≡ false
unfolding greatest
is_lt-greatest x h = lt-all_greatest 32 x h.short h.plain

pub least-greatest : id_cmp least greatest ≡ Less
unfolding greatest
least-greatest = refl

pub greatest_is_id : IsId greatest
unfolding greatest
greatest_is_id = record { not_empty = lit≤ tt; short = lit≤ tt; plain = All-replicate (λ b. IsTrue (is_id_byte b)) 32 122 refl }
