-- A tree of rows by their keys behaves as a table.
use Rattle.keyed_table.proofs.Names.{◌≡◌, List, [], ◌∷◌, Bool, true, false, ◌&&◌, None, IsSome, refl, sym, ap, ◌∙◌, subst, IsTotalOrder, list_all, AllByRecursion, IsStrictlySortedBy, keys_of, values_of, lookup, set_value, remove_entry, is_at, insert_entry, Ordering, Less, Equal, Greater, NonePasses, lookup-none, keys-set_value, none_below_head, sorted_tail, row_at, row_put, row_drop, stands_at_its_key, IsKeyed, same_key, equal_back, alike_right, equal_from_test, all-put}
use Rattle.keyed_table.proofs.RowDropped.{all-drop}

both_left : (a b : Bool) → a && b ≡ true → a ≡ true
both_left true b e = refl
both_left false b e = e

both_right : (a b : Bool) → a && b ≡ true → b ≡ true
both_right true b e = e
both_right false b e = cc

both : (a b : Bool) → a ≡ true → b ≡ true → a && b ≡ true
both a b e h = rw e h

module _ {K X : Type 0} {R : K → K → Ordering} (o : IsTotalOrder R) (key : X → K) where
  -- a key compares with an entry's key as with the key of its row
  at_own : (q : K) (e : K × X) (es : List (K × X)) → list_all (stands_at_its_key R key) (e ∷ es) ≡ true → R q e.0 ≡ R q (key e.1)
  at_own q e es own = alike_right o q e.0 (key e.1) (equal_from_test _ (both_left _ _ own))

  found_step : (q : K) (e : K × X) (es : List (K × X)) → IsStrictlySortedBy R (keys_of (e ∷ es)) → R q e.0 ≡ R q (key e.1)
      → lookup (is_at (R q)) es ≡ row_at R key (values_of es) q
      → (r : Ordering) → R q e.0 ≡ r → lookup (is_at (R q)) (e ∷ es) ≡ row_at R key (values_of (e ∷ es)) q
  unfolding row_at
  found_step q e es rising own ih Less h = lookup-none (is_at (R q)) (e ∷ es) (none_below_head o q e es rising h) ∙ rw (sym own ∙ h) refl
  found_step q e es rising own ih Equal h = rw (h, sym own ∙ h) refl
  found_step q e es rising own ih Greater h = rw (h, sym own ∙ h) ih

  -- a look-up in the tree finds the row of the table
  pub lookup-row_at : (q : K) (es : List (K × X)) → IsStrictlySortedBy R (keys_of es) → list_all (stands_at_its_key R key) es ≡ true
      → lookup (is_at (R q)) es ≡ row_at R key (values_of es) q
  unfolding row_at
  lookup-row_at q [] rising own = refl
  lookup-row_at q (e ∷ es) rising own =
      found_step q e es rising (at_own q e es own) (lookup-row_at q es (sorted_tail R e.0 (keys_of es) rising) (both_right _ _ own)) (R q e.0) refl

  put_step : (v : X) (e : K × X) (es : List (K × X)) → R (key v) e.0 ≡ R (key v) (key e.1)
      → values_of (insert_entry R es (key v) v) ≡ row_put R key (values_of es) v
      → (r : Ordering) → R (key v) e.0 ≡ r → values_of (insert_entry R (e ∷ es) (key v) v) ≡ row_put R key (values_of (e ∷ es)) v
  unfolding row_put
  put_step v e es own ih Less h = rw (h, sym own ∙ h) refl
  put_step v e es own ih Equal h = rw (h, sym own ∙ h) refl
  put_step v e es own ih Greater h = rw (h, sym own ∙ h) (ap (λ rows. e.1 ∷ rows) ih)

  -- inserting an entry at its row's key puts the row into the table
  pub values-insert_entry : (v : X) (es : List (K × X)) → list_all (stands_at_its_key R key) es ≡ true
      → values_of (insert_entry R es (key v) v) ≡ row_put R key (values_of es) v
  unfolding row_put
  values-insert_entry v [] own = refl
  values-insert_entry v (e ∷ es) own =
      put_step v e es (at_own (key v) e es own) (values-insert_entry v es (both_right _ _ own)) (R (key v) e.0) refl

  own_step : (v : X) (e : K × X) (es : List (K × X)) → list_all (stands_at_its_key R key) (e ∷ es) ≡ true
      → list_all (stands_at_its_key R key) (insert_entry R es (key v) v) ≡ true
      → (r : Ordering) → R (key v) e.0 ≡ r → list_all (stands_at_its_key R key) (insert_entry R (e ∷ es) (key v) v) ≡ true
  own_step v e es own ih Less h = rw (h, same_key o (key v)) own
  own_step v e es own ih Equal h = rw (h, equal_back o (key v) e.0 h) (both_right _ _ own)
  own_step v e es own ih Greater h = rw h (both _ _ (both_left _ _ own) ih)

  -- after an insert, each entry's key is the key of its row
  pub own-insert_entry : (v : X) (es : List (K × X)) → list_all (stands_at_its_key R key) es ≡ true
      → list_all (stands_at_its_key R key) (insert_entry R es (key v) v) ≡ true
  own-insert_entry v [] own = rw (same_key o (key v)) refl
  own-insert_entry v (e ∷ es) own = own_step v e es own (own-insert_entry v es (both_right _ _ own)) (R (key v) e.0) refl

  kept_step : (t : K → Bool) (e : K × X) (es : List (K × X)) → remove_entry t es ≡ es → (b : Bool) → t e.0 ≡ b → b ≡ false → remove_entry t (e ∷ es) ≡ e ∷ es
  kept_step t e es ih true h out = cc
  kept_step t e es ih false h out = rw h (ap (λ rest. e ∷ rest) ih)

  -- if no key passes the test, nothing is removed
  remove_entry-none : (t : K → Bool) (es : List (K × X)) → NonePasses t es → remove_entry t es ≡ es
  remove_entry-none t [] none = refl
  remove_entry-none t (e ∷ es) none = kept_step t e es (remove_entry-none t es none.1) (t e.0) refl none.0

  drop_step : (q : K) (e : K × X) (es : List (K × X)) → IsStrictlySortedBy R (keys_of (e ∷ es)) → R q e.0 ≡ R q (key e.1)
      → values_of (remove_entry (is_at (R q)) es) ≡ row_drop R key (values_of es) q
      → (r : Ordering) → R q e.0 ≡ r → values_of (remove_entry (is_at (R q)) (e ∷ es)) ≡ row_drop R key (values_of (e ∷ es)) q
  unfolding row_drop
  drop_step q e es rising own ih Less h =
      ap values_of (remove_entry-none (is_at (R q)) (e ∷ es) (none_below_head o q e es rising h)) ∙ rw (sym own ∙ h) refl
  drop_step q e es rising own ih Equal h = rw (h, sym own ∙ h) refl
  drop_step q e es rising own ih Greater h = rw (h, sym own ∙ h) (ap (λ rows. e.1 ∷ rows) ih)

  -- removing the entry at a key drops the row from the table
  pub values-remove_entry : (q : K) (es : List (K × X)) → IsStrictlySortedBy R (keys_of es) → list_all (stands_at_its_key R key) es ≡ true
      → values_of (remove_entry (is_at (R q)) es) ≡ row_drop R key (values_of es) q
  unfolding row_drop
  values-remove_entry q [] rising own = refl
  values-remove_entry q (e ∷ es) rising own =
      drop_step q e es rising (at_own q e es own) (values-remove_entry q es (sorted_tail R e.0 (keys_of es) rising) (both_right _ _ own)) (R q e.0) refl

  gone_step : (t : K → Bool) (e : K × X) (es : List (K × X)) → list_all (stands_at_its_key R key) (e ∷ es) ≡ true
      → list_all (stands_at_its_key R key) (remove_entry t es) ≡ true
      → (b : Bool) → t e.0 ≡ b → list_all (stands_at_its_key R key) (remove_entry t (e ∷ es)) ≡ true
  gone_step t e es own ih true h = rw h (both_right _ _ own)
  gone_step t e es own ih false h = rw h (both _ _ (both_left _ _ own) ih)

  -- after a removal, each entry's key is the key of its row
  pub own-remove_entry : (t : K → Bool) (es : List (K × X)) → list_all (stands_at_its_key R key) es ≡ true
      → list_all (stands_at_its_key R key) (remove_entry t es) ≡ true
  own-remove_entry t [] own = refl
  own-remove_entry t (e ∷ es) own = gone_step t e es own (own-remove_entry t es (both_right _ _ own)) (t e.0) refl

  replace_step : (k : K) (v : X) (e : K × X) (es : List (K × X)) → IsStrictlySortedBy R (keys_of (e ∷ es)) → IsSome (lookup (is_at (R k)) (e ∷ es))
      → (IsSome (lookup (is_at (R k)) es) → set_value (is_at (R k)) es v ≡ insert_entry R es k v)
      → (r : Ordering) → R k e.0 ≡ r → set_value (is_at (R k)) (e ∷ es) v ≡ insert_entry R (e ∷ es) k v
  replace_step k v e es rising found ih Less h =
      let none : lookup (is_at (R k)) (e ∷ es) ≡ None = lookup-none (is_at (R k)) (e ∷ es) (none_below_head o k e es rising h) in
      let gone : IsSome {T = X} None = subst IsSome none found in cc
  replace_step k v e es rising found ih Equal h = rw h refl
  replace_step k v e es rising found ih Greater h = rw h (ap (λ rest. e ∷ rest) (ih (rw h at found)))

  -- replacing the value at an existing key gives the tree that an insert gives
  pub replaced-insert_entry : (k : K) (v : X) (es : List (K × X)) → IsStrictlySortedBy R (keys_of es) → IsSome (lookup (is_at (R k)) es)
      → set_value (is_at (R k)) es v ≡ insert_entry R es k v
  replaced-insert_entry k v [] rising found = cc
  replaced-insert_entry k v (e ∷ es) rising found =
      replace_step k v e es rising found (replaced-insert_entry k v es (sorted_tail R e.0 (keys_of es) rising)) (R k e.0) refl

  -- after such a replacement the tree keeps its shape, and the row is put into the table
  pub replaced : (IsKnown : K → Type 0) (v : X) (es after : List (K × X)) → IsKeyed R key IsKnown es → IsKnown (key v) → IsSome (row_at R key (values_of es) (key v))
      → after ≡ set_value (is_at (R (key v))) es v → IsKeyed R key IsKnown after × (values_of after ≡ row_put R key (values_of es) v)
  replaced IsKnown v es after h known there e =
      let found : IsSome (lookup (is_at (R (key v))) es) = subst IsSome (sym (lookup-row_at (key v) es h.rising h.own)) there in
      let put : after ≡ insert_entry R es (key v) v = e ∙ replaced-insert_entry (key v) v es h.rising found in
      let rows : values_of after ≡ row_put R key (values_of es) v = ap values_of put ∙ values-insert_entry v es h.own in (
        record {
          rising = subst (IsStrictlySortedBy R) (sym (ap keys_of e ∙ keys-set_value (is_at (R (key v))) es v)) h.rising;
          own = rw put (own-insert_entry v es h.own);
          known = subst (AllByRecursion (λ x. IsKnown (key x))) (sym rows) (all-put o key (λ x. IsKnown (key x)) (values_of es) v known h.known);
        },
        rows,
      )

  -- a look-up in the tree doesn't miss a row of the table
  pub not_missed : {A : Type 0} (IsKnown : K → Type 0) (k : K) (es : List (K × X)) → IsKeyed R key IsKnown es → IsSome (row_at R key (values_of es) k)
      → None ≡ lookup (is_at (R k)) es → A
  not_missed IsKnown k es h there none =
      let gone : IsSome {T = X} None = subst IsSome (sym (none ∙ lookup-row_at k es h.rising h.own)) there in cc

  -- after a put, every key fulfils `IsKnown`
  pub known-put : (IsKnown : K → Type 0) (v : X) (es after : List (K × X)) → IsKeyed R key IsKnown es → IsKnown (key v) → after ≡ insert_entry R es (key v) v
      → AllByRecursion (λ x. IsKnown (key x)) (values_of after)
  known-put IsKnown v es after h known e =
      subst (AllByRecursion (λ x. IsKnown (key x))) (sym (ap values_of e ∙ values-insert_entry v es h.own))
      (all-put o key (λ x. IsKnown (key x)) (values_of es) v known h.known)

  -- after a drop, every key fulfils `IsKnown`
  pub known-drop : (IsKnown : K → Type 0) (k : K) (es after : List (K × X)) → IsKeyed R key IsKnown es → after ≡ remove_entry (is_at (R k)) es
      → AllByRecursion (λ x. IsKnown (key x)) (values_of after)
  known-drop IsKnown k es after h e =
      subst (AllByRecursion (λ x. IsKnown (key x))) (sym (ap values_of e ∙ values-remove_entry k es h.rising h.own))
      (all-drop R key (λ x. IsKnown (key x)) (values_of es) k h.known)
