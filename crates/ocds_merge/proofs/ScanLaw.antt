-- A scan passes over the compact text of a value.
use Rattle.ocds_merge.proofs.Names.{◌≡◌, ◌≢◌, ℕ, zero, suc, ◌<◌, ◌≤◌, List, [], ◌∷◌, ◌++◌, refl, sym, ap, ◌∙◌, ◌⊎◌, inl, inr, subst, arith, append_assoc, cases_eq, cases_lt, ne_eqb, escape_byte, escape, escape_byte_plain, in_string, scan}
use Rattle.ocds_merge.specs.Inside.Scan.{between}

-- ---- strings

Passes : ℕ → Type 0
Passes x = (n : ℕ) (r : List ℕ) → scan n in_string (escape_byte x ++ r) ≡ scan n in_string r

abbrev pub Each : (ℕ → Type 0) → ℕ → Type 0
Each P zero = Unit {0}
Each P (suc n) = P n × Each P n

pub each_sound : (P : ℕ → Type 0) (n : ℕ) → Each P n → (x : ℕ) → x < n → P x
each_sound P zero h x lt = absurd (omega arith)
each_sound P (suc n) h x lt = go (each_sound P n h.1 x) (cases_eq x n)
  where
    go : (x < n → P x) → (x ≡ n) ⊎ (x ≡ n → ⊥) → P x
    go below (inl e) = subst P (sym e) h.0
    go below (inr ne) = below (omega arith)

controls : Each Passes 32
unfolding escape_byte Passes
controls = (λ n r. refl, (λ n r. refl, (λ n r. refl, (λ n r. refl, (λ n r. refl, (λ n r. refl, (λ n r. refl, (λ n r. refl, (λ n r. refl, (λ n r. refl, (λ n r. refl, (λ n r. refl, (λ n r. refl, (λ n r. refl, (λ n r. refl, (λ n r. refl, (λ n r. refl, (λ n r. refl, (λ n r. refl, (λ n r. refl, (λ n r. refl, (λ n r. refl, (λ n r. refl, (λ n r. refl, (λ n r. refl, (λ n r. refl, (λ n r. refl, (λ n r. refl, (λ n r. refl, (λ n r. refl, (λ n r. refl, (λ n r. refl, tt))))))))))))))))))))))))))))))))

quote_passes : Passes 34
unfolding escape_byte Passes
quote_passes n r = refl

backslash_passes : Passes 92
unfolding escape_byte Passes
backslash_passes n r = refl

plain_passes : (x : ℕ) → x ≢ 34 → x ≢ 92 → 32 ≤ x → Passes x
unfolding Passes
plain_passes x q b l n r = rw (escape_byte_plain x q b l, ne_eqb x 34 q, ne_eqb x 92 b) refl

passes : (x : ℕ) → Passes x
passes x = go (cases_eq x 34) (cases_eq x 92) (cases_lt x 32)
  where
    go : (x ≡ 34) ⊎ (x ≡ 34 → ⊥) → (x ≡ 92) ⊎ (x ≡ 92 → ⊥) → (x < 32) ⊎ (32 ≤ x) → Passes x
    go (inl e) b c = subst Passes (sym e) quote_passes
    go (inr q) (inl e) c = subst Passes (sym e) backslash_passes
    go (inr q) (inr b) (inl c) = each_sound Passes 32 controls x c
    go (inr q) (inr b) (inr l) = plain_passes x q b l

pub scan-escape : (n : ℕ) (s r : List ℕ) → scan n in_string (escape s ++ 34 ∷ r) ≡ scan n between r
unfolding Passes
scan-escape n [] r = refl
scan-escape n (x ∷ s) r = ap (scan n in_string) (append_assoc (escape_byte x) (escape s) (34 ∷ r)) ∙ passes x n _ ∙ scan-escape n s r
