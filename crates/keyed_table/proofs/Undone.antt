-- A put is undone by restoring the row that it replaced.
use Rattle.keyed_table.proofs.Names.{◌≡◌, List, [], ◌∷◌, Option, Some, None, refl, sym, ap, ◌∙◌, IsTotalOrder, Ordering, Less, Equal, Greater, row_at, row_put, row_drop, RowsAreKept, with_old, IsThere, same_key, equal_back}

module _ {K X : Type 0} {R : K → K → Ordering} (o : IsTotalOrder R) (key : X → K) (laws : RowsAreKept R key) where
  new_step : (r x : X) (xs : List X) → (row_at R key xs (key r) ≡ None → row_drop R key (row_put R key xs r) (key r) ≡ xs)
      → (c : Ordering) → R (key r) (key x) ≡ c → row_at R key (x ∷ xs) (key r) ≡ None → row_drop R key (row_put R key (x ∷ xs) r) (key r) ≡ x ∷ xs
  unfolding row_at row_put row_drop
  new_step r x xs ih Less h none = rw (h, same_key o (key r)) refl
  new_step r x xs ih Equal h none = let found : Some x ≡ None = sym (rw h refl) ∙ none in cc
  new_step r x xs ih Greater h none = rw (h, h) (ap (λ rows. x ∷ rows) (ih (sym (rw h refl) ∙ none)))

  -- dropping a row that a put added restores the table
  pub dropped_again : (r : X) (xs : List X) → row_at R key xs (key r) ≡ None → row_drop R key (row_put R key xs r) (key r) ≡ xs
  unfolding row_at row_put row_drop
  dropped_again r [] none = rw (same_key o (key r)) refl
  dropped_again r (x ∷ xs) none = new_step r x xs (dropped_again r xs) (R (key r) (key x)) refl none

  old_step : (r old x : X) (xs : List X) → R (key r) (key old) ≡ Equal → (row_at R key xs (key r) ≡ Some old → row_put R key (row_put R key xs r) old ≡ xs)
      → (c : Ordering) → R (key r) (key x) ≡ c → row_at R key (x ∷ xs) (key r) ≡ Some old → row_put R key (row_put R key (x ∷ xs) r) old ≡ x ∷ xs
  unfolding row_at row_put
  old_step r old x xs same ih Less h found = let none : None ≡ Some old = sym (rw h refl) ∙ found in cc
  old_step r old x xs same ih Equal h found =
      let one : Some x ≡ Some old = sym (rw h refl) ∙ found in
      let is : old ≡ x = cc in
      let back : R (key old) (key r) ≡ Equal = equal_back o (key r) (key old) same in
      rw (h, back) (ap (λ w. w ∷ xs) is)
  old_step r old x xs same ih Greater h found =
      let past : R (key old) (key x) ≡ Greater = sym (o.congr (key r) (key old) (key x) same) ∙ h in
      rw (h, past) (ap (λ rows. x ∷ rows) (ih (sym (rw h refl) ∙ found)))

  -- putting back a row that a put replaced restores the table
  pub replaced_again : (r old : X) (xs : List X) → row_at R key xs (key r) ≡ Some old → row_put R key (row_put R key xs r) old ≡ xs
  unfolding row_at row_put
  replaced_again r old [] found = cc
  replaced_again r old (x ∷ xs) found =
      old_step r old x xs (laws.found_key (x ∷ xs) (key r) old found) (replaced_again r old xs) (R (key r) (key x)) refl found

  -- keys that compare as equal find the same row
  pub alike_found : (k q : K) (xs : List X) → R k q ≡ Equal → row_at R key xs k ≡ row_at R key xs q
  unfolding row_at
  alike_found k q [] e = refl
  alike_found k q (x ∷ xs) e = rw (o.congr k q (key x) e, alike_found k q xs e) refl

  -- restoring the old row, if there was one, undoes the put
  pub back : (r : X) (xs : List X) (old : Option X) → old ≡ row_at R key xs (key r) → with_old R key (key r) old (row_put R key xs r) ≡ xs
  back r xs None found = dropped_again r xs (sym found)
  back r xs (Some v) found = replaced_again r v xs (sym found)

  pub there : (r : X) (xs : List X) (old : Option X) → old ≡ row_at R key xs (key r) → IsThere R key old (row_put R key xs r)
  there r xs None found = tt
  there r xs (Some v) found =
      let same : R (key r) (key v) ≡ Equal = laws.found_key xs (key r) v (sym found) in
      rw (sym (alike_found (key r) (key v) (row_put R key xs r) same) ∙ laws.own_found xs r) refl
