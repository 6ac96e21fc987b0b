use Rattle.office_wire.proofs.Names.{zero, suc, zero-add, ◌≡◌, ℕ, ◌+◌, ◌≤◌, List, [], ◌∷◌, ◌++◌, length, take, drop, Option, Some, None, sym, ap, arith, ◌∙◌, append_assoc, append-nil, take-append-drop, Appends, Keeps, AppendsPart, IsPrefix}

pub appends_more : (a b c : Option (List ℕ)) (x y : List ℕ) → Appends a b x → Appends b c y → Appends a c (x ++ y)
appends_more None b c x y p q = tt
appends_more (Some s) None c x y p q = absurd p
appends_more (Some s) (Some t) None x y p q = absurd q
appends_more (Some s) (Some t) (Some u) x y p q = q ∙ (ap (λ (v : List ℕ). v ++ y) p ∙ append_assoc s x y)

pub appends_keep : (a b c : Option (List ℕ)) (x : List ℕ) → Appends a b x → Keeps b c → Appends a c x
appends_keep None b c x p q = tt
appends_keep (Some s) None c x p q = absurd p
appends_keep (Some s) (Some t) None x p q = absurd q
appends_keep (Some s) (Some t) (Some u) x p q = q ∙ p

pub appends_none : (a : Option (List ℕ)) → Appends a a []
appends_none None = tt
appends_none (Some s) = sym (append-nil s)

-- a text begins with all of itself
pub whole_part : (a b : Option (List ℕ)) (x : List ℕ) → Appends a b x → AppendsPart a b x
whole_part a b x p = record { part = x; front = ([], sym (append-nil x)); more = p }

pub front : (n : ℕ) (xs : List ℕ) → IsPrefix (take n xs) xs
front n xs = (drop n xs, sym (take-append-drop n xs))

-- the first `at` bytes followed by the next `n`
pub take_on : (xs : List ℕ) (at n : ℕ) → at ≤ length xs → take (at + n) xs ≡ take at xs ++ take n (drop at xs)
take_on xs zero n h = ap (λ k. take k xs) (zero-add n)
take_on [] (suc at) n h = absurd (no h)
  where
    no : suc at ≤ 0 → ⊥
    no l = omega arith
take_on (x ∷ xs) (suc at) n h = let e : suc at + n ≡ suc (at + n) = omega arith in ap (λ k. take k (x ∷ xs)) e ∙ ap (λ t. x ∷ t) (take_on xs at n (omega arith))
