-- From the number that clap's typed getter returns to the number in its bounds.
use Rattle.procure_config.proofs.Names.{◌≡◌, ◌<◌, ◌≤◌, ◌^◌, ℕ, Bool, true, false, Option, Some, None, Result, Ok, Err, refl, sym, ap, arith, ◌∙◌, ◌&&◌, leb-true, le-leb, if◌then◌else◌, nat_le, ParsesUnsigned, digits_value, without_leading_plus, is_unsigned_in, ReadsOne, one_text, Text, one_of, rows_of, Unsigned, Found, accepts-Accepts, Accepts-accepts, both, one_text-rows, number_in}

-- A number that was read, if it is in the bounds.
abbrev pub within : ℕ → Option ℕ → Option ℕ
within most None = None
within most (Some n) = if nat_le 1 n && nat_le n most then Some n else None

third : (a b c : Bool) → a ≡ true → b ≡ true → (a && (b && c)) ≡ c
third true true c e f = refl
third true false c e f = cc
third false b c e f = cc

kept : (most n : ℕ) → 1 ≤ n → n ≤ most → within most (Some n) ≡ Some n
kept most n low high = rw (le-leb 1 n low, le-leb n most high) refl

left_out : (most n : ℕ) → ¬ ((1 ≤ n) × (n ≤ most)) → within most (Some n) ≡ None
left_out most n out = by (nat_le 1 n && nat_le n most) refl
  where
    by : (b : Bool) → (nat_le 1 n && nat_le n most) ≡ b → within most (Some n) ≡ None
    by true e =
        let p = both _ _ e in
        absurd (out (leb-true _ _ p.0, leb-true _ _ p.1))
    by false e = ap (λ (b : Bool). if b then Some n else None) e

is_none : {P : Type 0} (n : ℕ) → Some n ≡ None → P
is_none n e = cc

module _ {E : Type 0} (gives : Text → Result ℕ E → Type 0) (k most : ℕ) (reads : (t : Text) (x : Result ℕ E) → gives t x → ParsesUnsigned k 10 t x)
    (below : most < 2 ^ k) (fits : 2 ^ k ≤ 2 ^ 64) where
  read_text : (t : Text) (r : Option ℕ) → ReadsOne gives t r → number_in most (Some t) ≡ within most r
  read_text t (Some v) given =
      let p : ParsesUnsigned {E = E} k 10 t (Ok v) = reads t (Ok v) given in
      let n = digits_value 10 (without_leading_plus t) in
      let small : n < 2 ^ 64 = omega (arith, p.0.1, fits) in
      let parts = both _ _ (Accepts-accepts false (Unsigned 0 n) t (p.0.0, small, omega arith, omega arith)) in
      ap (λ (b : Bool). if b then Some n else None) (third _ _ (nat_le 1 n && nat_le n most) parts.0 (both _ _ parts.1).0) ∙ ap (λ (m : ℕ). within most (Some m)) (sym p.1)
  read_text t None given = by (is_unsigned_in 1 most t) refl
    where
      by : (b : Bool) → is_unsigned_in 1 most t ≡ b → number_in most (Some t) ≡ None
      by true e =
          let a = accepts-Accepts false (Unsigned 1 most) t e in
          absurd (reads t (Err given.0) given.1 (a.0, omega (arith, a.3, below)))
      by false e = ap (λ (b : Bool). if b then Some (digits_value 10 (without_leading_plus t)) else None) e

  pub number_read : (found : Found) (id : Text) (r : Option ℕ) → (one_text found id ≡ None → r ≡ None) → ((t : Text) → one_text found id ≡ Some t → ReadsOne gives t r)
      → number_in most (one_of id (rows_of found)) ≡ within most r
  number_read found id r none value = ap (number_in most) (sym (one_text-rows found id)) ∙ by (one_text found id) refl
    where
      by : (o : Option Text) → one_text found id ≡ o → number_in most o ≡ within most r
      by None e = ap (within most) (sym (none e))
      by (Some t) e = read_text t r (value t e)

  -- The number that was read fits its type.
  pub read_fits : (found : Found) (id : Text) (n : ℕ) → (one_text found id ≡ None → Some n ≡ None) → ((t : Text) → one_text found id ≡ Some t → ReadsOne gives t (Some n)) → n < 2 ^ k
  read_fits found id n none value = by (one_text found id) refl
    where
      by : (o : Option Text) → one_text found id ≡ o → n < 2 ^ k
      by None e = is_none n (none e)
      by (Some t) e =
          let p : ParsesUnsigned {E = E} k 10 t (Ok n) = reads t (Ok n) (value t e) in
          rw p.1 p.0.1

  -- A number in the bounds, one outside, and none.
  pub read_inside : (found : Found) (id : Text) (n : ℕ) → (one_text found id ≡ None → Some n ≡ None) → ((t : Text) → one_text found id ≡ Some t → ReadsOne gives t (Some n))
      → 1 ≤ n → n ≤ most → Some n ≡ number_in most (one_of id (rows_of found))
  read_inside found id n none value low high = sym (number_read found id (Some n) none value ∙ kept most n low high)

  pub read_outside : (found : Found) (id : Text) (n : ℕ) → (one_text found id ≡ None → Some n ≡ None) → ((t : Text) → one_text found id ≡ Some t → ReadsOne gives t (Some n))
      → ¬ ((1 ≤ n) × (n ≤ most)) → None ≡ number_in most (one_of id (rows_of found))
  read_outside found id n none value out = sym (number_read found id (Some n) none value ∙ left_out most n out)

  pub read_nothing : (found : Found) (id : Text) → ((t : Text) → one_text found id ≡ Some t → ReadsOne gives t None)
      → None ≡ number_in most (one_of id (rows_of found))
  read_nothing found id value = sym (number_read found id None (λ e. refl) value)
