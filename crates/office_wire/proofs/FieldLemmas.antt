use Rattle.office_wire.proofs.Names.{◌≡◌, ℕ, ◌<◌, zero, suc, List, [], ◌∷◌, length, map, take, get_or, arith, Bool, true, false, cond, filter, str_eq_ignore_ascii_case, values_of}

-- a field with that name after the first i makes one value more
pub values_more : {X : Type 0} (name : List ℕ) (f : X → List ℕ × List ℕ) (xs : List X) (i : ℕ) (d : X) → i < length xs → str_eq_ignore_ascii_case (f (get_or xs i d)).0 name ≡ true
    → length (values_of name (map f (take i xs))) < length (values_of name (map f xs))
values_more name f [] i d h same = absurd (no h)
  where
    no : i < 0 → ⊥
    no l = omega arith
values_more name f (x ∷ xs) zero d h same = by (str_eq_ignore_ascii_case (f x).0 name) same
  where
    by : (t : Bool) → t ≡ true → 0 < length (map (λ (v : List ℕ × List ℕ). v.1) (cond t (f x ∷ filter (λ v. str_eq_ignore_ascii_case v.0 name) (map f xs)) (filter (λ v. str_eq_ignore_ascii_case v.0 name) (map f xs))))
    by true e = omega arith
    by false e = cc e
values_more name f (x ∷ xs) (suc i) d h same = by (str_eq_ignore_ascii_case (f x).0 name) (values_more name f xs i d (omega arith) same)
  where
    by : (t : Bool) → length (values_of name (map f (take i xs))) < length (values_of name (map f xs))
        → length (map (λ (v : List ℕ × List ℕ). v.1) (cond t (f x ∷ filter (λ v. str_eq_ignore_ascii_case v.0 name) (map f (take i xs))) (filter (λ v. str_eq_ignore_ascii_case v.0 name) (map f (take i xs)))))
        < length (map (λ (v : List ℕ × List ℕ). v.1) (cond t (f x ∷ filter (λ v. str_eq_ignore_ascii_case v.0 name) (map f xs)) (filter (λ v. str_eq_ignore_ascii_case v.0 name) (map f xs))))
    by true less = omega arith
    by false less = less
