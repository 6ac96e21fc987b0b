-- Each table's key and its order, look-ups after a put, and sums over rows.
use Rattle.office_machine.proofs.Names.{◌≡◌, ℕ, ◌+◌, ◌≤◌, Bool, true, false, cond, List, [], ◌∷◌, Some, None, is_some, refl, sym, ◌∙◌, ap, ◌⊎◌, inl, inr, arith, AllByRecursion, nat_cmp-IsAntisymmetric, nat_cmp_total, nat_list_cmp_total, nat_cmp, eq_by_cmp, Ordering, id_cmp, row_at, row_put, IsInOrder, sum_over, lot_cmp, entry_cmp, release_cmp, line_key, batch_key, tenderer_key, notice_key, lot_key, envelope_key, seal_key, security_key, award_key, contract_key, entry_key, release_key, compiled_key, late_key, performance_key, lots_total, entries_total, releases_total, ids_exact, lots_exact, entries_exact, releases_exact, equal_keys, row_at-row_put, IsKeyed, own_key, of_found, each_found, sum_over-ext, sum_over-plus, weight, sum_over-put, sum_over-one}

pub lines : IsKeyed id_cmp line_key
lines = record { total = nat_list_cmp_total; exact = ids_exact }

pub batches : IsKeyed id_cmp batch_key
batches = record { total = nat_list_cmp_total; exact = ids_exact }

pub tenderers : IsKeyed id_cmp tenderer_key
tenderers = record { total = nat_list_cmp_total; exact = ids_exact }

pub notices : IsKeyed id_cmp notice_key
notices = record { total = nat_list_cmp_total; exact = ids_exact }

pub compiled : IsKeyed id_cmp compiled_key
compiled = record { total = nat_list_cmp_total; exact = ids_exact }

pub late_rules : IsKeyed id_cmp late_key
late_rules = record { total = nat_list_cmp_total; exact = ids_exact }

pub performances : IsKeyed nat_cmp performance_key
performances = record { total = nat_cmp_total; exact = nat_cmp-IsAntisymmetric }

pub envelopes : IsKeyed nat_cmp envelope_key
envelopes = record { total = nat_cmp_total; exact = nat_cmp-IsAntisymmetric }

pub seals : IsKeyed nat_cmp seal_key
seals = record { total = nat_cmp_total; exact = nat_cmp-IsAntisymmetric }

pub securities : IsKeyed nat_cmp security_key
securities = record { total = nat_cmp_total; exact = nat_cmp-IsAntisymmetric }

pub awards : IsKeyed nat_cmp award_key
awards = record { total = nat_cmp_total; exact = nat_cmp-IsAntisymmetric }

pub contracts : IsKeyed nat_cmp contract_key
contracts = record { total = nat_cmp_total; exact = nat_cmp-IsAntisymmetric }

pub lots : IsKeyed lot_cmp lot_key
lots = record { total = lots_total; exact = lots_exact }

pub entries : IsKeyed entry_cmp entry_key
entries = record { total = entries_total; exact = entries_exact }

pub releases : IsKeyed release_cmp release_key
releases = record { total = releases_total; exact = releases_exact }

module _ {K X : Type 0} {R : K → K → Ordering} {key : X → K} (t : IsKeyed R key) where
  pub found_put : (xs : List X) (r : X) → row_at R key (row_put R key xs r) (key r) ≡ Some r
  found_put xs r = row_at-row_put t.total key xs r (key r) ∙ ap (λ b. cond b (Some r) (row_at R key xs (key r))) (own_key t.total (key r))

  pub elsewhere : (xs : List X) (r : X) (q : K) → eq_by_cmp R q (key r) ≡ false → row_at R key (row_put R key xs r) q ≡ row_at R key xs q
  elsewhere xs r q e = row_at-row_put t.total key xs r q ∙ ap (λ b. cond b (Some r) (row_at R key xs q)) e

  -- a row that is found after a put is the new row at its key, or an earlier row
  pub found : (xs : List X) (r : X) (q : K) (w : X) → row_at R key (row_put R key xs r) q ≡ Some w → ((q ≡ key r) × (w ≡ r)) ⊎ ((eq_by_cmp R q (key r) ≡ false) × (row_at R key xs q ≡ Some w))
  found xs r q w h = by (eq_by_cmp R q (key r)) refl
    where
      by : (b : Bool) → eq_by_cmp R q (key r) ≡ b → ((q ≡ key r) × (w ≡ r)) ⊎ ((eq_by_cmp R q (key r) ≡ false) × (row_at R key xs q ≡ Some w))
      by true e = inl (equal_keys t.exact q (key r) e, let i = sym h ∙ (row_at-row_put t.total key xs r q ∙ ap (λ b. cond b (Some r) (row_at R key xs q)) e) in cc)
      by false e = inr (e, sym (elsewhere xs r q e) ∙ h)

  pub still_there : (xs : List X) (r : X) (q : K) → is_some (row_at R key xs q) ≡ true → is_some (row_at R key (row_put R key xs r) q) ≡ true
  still_there xs r q h = by (eq_by_cmp R q (key r)) refl
    where
      by : (b : Bool) → eq_by_cmp R q (key r) ≡ b → is_some (row_at R key (row_put R key xs r) q) ≡ true
      by true e = ap is_some (row_at-row_put t.total key xs r q ∙ ap (λ b. cond b (Some r) (row_at R key xs q)) e)
      by false e = ap is_some (elsewhere xs r q e) ∙ h

  pub none_before : (xs : List X) (r : X) (q : K) → row_at R key (row_put R key xs r) q ≡ None → (eq_by_cmp R q (key r) ≡ false) × (row_at R key xs q ≡ None)
  none_before xs r q h = by (eq_by_cmp R q (key r)) refl
    where
      by : (b : Bool) → eq_by_cmp R q (key r) ≡ b → (eq_by_cmp R q (key r) ≡ false) × (row_at R key xs q ≡ None)
      by true e = let i = sym h ∙ (row_at-row_put t.total key xs r q ∙ ap (λ b. cond b (Some r) (row_at R key xs q)) e) in cc
      by false e = (e, sym (elsewhere xs r q e) ∙ h)

-- for rows in any order
module _ {K X : Type 0} (R : K → K → Ordering) (key : X → K) where
  pub sum-replaced : (f : X → ℕ) (xs : List X) (r w : X) → row_at R key xs (key r) ≡ Some w → sum_over f (row_put R key xs r) + f w ≡ sum_over f xs + f r
  sum-replaced f xs r w h = omega (arith, sum_over-put R key f xs r, ap (weight f) h)

  pub weight_le : (f : X → ℕ) (xs : List X) (k : K) (v : X) → row_at R key xs k ≡ Some v → f v ≤ sum_over f xs
  weight_le f xs k v is = of_found R key (λ x. f x ≤ sum_over f xs) xs k v (each xs) is
    where
      grown : (m n : ℕ) (zs : List X) → m ≤ n → AllByRecursion (λ x. f x ≤ m) zs → AllByRecursion (λ x. f x ≤ n) zs
      grown m n [] le h = tt
      grown m n (z ∷ zs) le h = (omega (arith, h.0), grown m n zs le h.1)

      each : (ys : List X) → AllByRecursion (λ x. f x ≤ sum_over f ys) ys
      each [] = tt
      each (y ∷ ys) = (omega arith, grown (sum_over f ys) (f y + sum_over f ys) ys (omega arith) (each ys))

-- for rows in the order of their keys
module _ {K X : Type 0} {R : K → K → Ordering} {key : X → K} (t : IsKeyed R key) where
  -- a property of each row that a look-up finds is a property of each row
  pub all_found : (P : X → Type 0) (xs : List X) → IsInOrder R key xs → ((x : X) → row_at R key xs (key x) ≡ Some x → P x) → AllByRecursion P xs
  all_found P xs o h = by xs (each_found t xs o)
    where
      by : (ys : List X) → AllByRecursion (λ x. row_at R key xs (key x) ≡ Some x) ys → AllByRecursion P ys
      by [] f = tt
      by (y ∷ ys) f = (h y f.0, by ys f.1)

sum-agree : {X : Type 0} (f g : X → ℕ) (xs : List X) → AllByRecursion (λ x. f x ≡ g x) xs → sum_over f xs ≡ sum_over g xs
sum-agree f g [] h = refl
sum-agree f g (x ∷ xs) h = omega (arith, h.0, sum-agree f g xs h.1)

sum-le : {X : Type 0} (f g : X → ℕ) (xs : List X) → AllByRecursion (λ x. f x ≤ g x) xs → sum_over f xs ≤ sum_over g xs
sum-le f g [] h = omega arith
sum-le f g (x ∷ xs) h = omega (arith, h.0, sum-le f g xs h.1)

module _ {K X : Type 0} {R : K → K → Ordering} {key : X → K} (t : IsKeyed R key) where
  pub sum-found_agree : (f g : X → ℕ) (xs : List X) → IsInOrder R key xs → ((x : X) → row_at R key xs (key x) ≡ Some x → f x ≡ g x) → sum_over f xs ≡ sum_over g xs
  sum-found_agree f g xs o h = sum-agree f g xs (all_found t (λ x. f x ≡ g x) xs o h)

  pub sum-found_le : (f g : X → ℕ) (xs : List X) → IsInOrder R key xs → ((x : X) → row_at R key xs (key x) ≡ Some x → f x ≤ g x) → sum_over f xs ≤ sum_over g xs
  sum-found_le f g xs o h = sum-le f g xs (all_found t (λ x. f x ≤ g x) xs o h)

  -- a sum that gains d, only at one key
  pub sum-gains : (f g d : X → ℕ) (xs : List X) (k : K) (v : X) → IsInOrder R key xs → row_at R key xs k ≡ Some v → ((w : X) → g w ≡ f w + cond (eq_by_cmp R k (key w)) (d w) 0) → sum_over g xs ≡ sum_over f xs + d v
  sum-gains f g d xs k v o is h =
      let one : X → ℕ = λ x. cond (eq_by_cmp R k (key x)) (d x) 0 in
      omega (arith, sum_over-ext g (λ x. f x + one x) xs h, sum_over-plus f one xs, sum_over-one t.total key d k xs o, ap (weight d) is)
