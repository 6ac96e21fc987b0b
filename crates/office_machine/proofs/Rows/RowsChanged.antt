-- Tables whose rows are changed in place.
use Rattle.office_machine.proofs.Names.{◌≡◌, Bool, true, false, cond, ◌&&◌, ◌||◌, List, [], ◌∷◌, map, filter, Option, Some, None, option_map, refl, sym, ap, ◌∙◌, AllByRecursion, list_any, IsTotalOrder, IsAntisymmetric, is_eq, eq_by_cmp, Ordering, Less, Equal, Greater, by_order, row_at, row_put, row_drop, IsInOrder, holds_of, equal_keys, row_at-row_put, above, tied, all_above}

-- the rows of a table after these are put
abbrev pub rows_put : {K X : Type 0} → (K → K → Ordering) → (X → K) → List X → List X → List X
rows_put R key xs [] = xs
rows_put R key xs (r ∷ rs) = rows_put R key (row_put R key xs r) rs

-- the rows except those with these keys
abbrev pub rows_drop : {K X : Type 0} → (K → K → Ordering) → (X → K) → List X → List K → List X
rows_drop R key xs [] = xs
rows_drop R key xs (k ∷ ks) = rows_drop R key (row_drop R key xs k) ks

-- each row that passes is changed
abbrev pub changed : {X : Type 0} → (X → Bool) → (X → X) → X → X
changed p g x = cond (p x) (g x) x

module _ {K X : Type 0} {R : K → K → Ordering} (o : IsTotalOrder R) (exact : IsAntisymmetric R) (key : X → K) where
  put_step : (g : X → X) (xs : List X) (k q : K) (x : X) → row_at R key xs k ≡ Some x → (b : Bool) → eq_by_cmp R q k ≡ b
      → cond b (Some (g x)) (row_at R key xs q) ≡ option_map (λ y. cond b (g y) y) (row_at R key xs q)
  put_step g xs k q x found true e = sym (ap (option_map g) (ap (row_at R key xs) (equal_keys exact q k e) ∙ found))
  put_step g xs k q x found false e = same (row_at R key xs q) where
    same : (a : Option X) → a ≡ option_map (λ y. y) a
    same None = refl
    same (Some y) = refl

  -- a row is put in place of an existing one
  pub row_at-changed_put : (g : X → X) (xs : List X) (k q : K) (x : X) → row_at R key xs k ≡ Some x → key (g x) ≡ k
      → row_at R key (row_put R key xs (g x)) q ≡ option_map (λ y. cond (eq_by_cmp R q k) (g y) y) (row_at R key xs q)
  row_at-changed_put g xs k q x found keeps =
      row_at-row_put o key xs (g x) q
      ∙ ap (λ j. cond (eq_by_cmp R q j) (Some (g x)) (row_at R key xs q)) keeps
      ∙ put_step g xs k q x found (eq_by_cmp R q k) refl

  -- one of the rows that pass has the key
  abbrev pub some_passes : (X → Bool) → List X → K → Bool
  some_passes p xs q = list_any (λ x. p x && eq_by_cmp R q (key x)) xs

  neither_passes : (a b c : Bool) → b ≡ false → c ≡ false → ((a && b) || c) ≡ false
  neither_passes true b c e f = ap (λ b. b || c) e ∙ f
  neither_passes false b c e f = f

  none_passes : (p : X → Bool) (xs : List X) (q : K) → AllByRecursion (λ x. eq_by_cmp R q (key x) ≡ false) xs → some_passes p xs q ≡ false
  none_passes p [] q h = refl
  none_passes p (x ∷ xs) q h = neither_passes (p x) (eq_by_cmp R q (key x)) (some_passes p xs q) h.0 (none_passes p xs q h.1)

  none_equal : (q : K) (xs : List X) → AllByRecursion (λ x. R q (key x) ≡ Less) xs → AllByRecursion (λ x. eq_by_cmp R q (key x) ≡ false) xs
  none_equal q [] h = tt
  none_equal q (x ∷ xs) h = (ap is_eq h.0, none_equal q xs h.1)

  passes_step : (p : X → Bool) (x : X) (xs : List X) (q : K) → IsInOrder R key (x ∷ xs) → some_passes p xs q ≡ holds_of p (row_at R key xs q)
      → (c : Ordering) → R q (key x) ≡ c → (b : Bool) → p x ≡ b → ((b && is_eq c) || some_passes p xs q) ≡ holds_of p (by_order c None (Some x) (row_at R key xs q))
  passes_step p x xs q order ih Less c true e = none_passes p xs q (none_equal q xs (all_above o key q xs (above o key q (key x) xs c order.0) order.1))
  passes_step p x xs q order ih Less c false e = none_passes p xs q (none_equal q xs (all_above o key q xs (above o key q (key x) xs c order.0) order.1))
  passes_step p x xs q order ih Equal c true e = sym e
  passes_step p x xs q order ih Equal c false e =
      none_passes p xs q (none_equal q xs (all_above o key q xs (tied o key q (key x) xs c order.0) order.1))
      ∙ sym e
  passes_step p x xs q order ih Greater c true e = ih
  passes_step p x xs q order ih Greater c false e = ih

  -- one of the rows that pass has the key exactly if the row at the key passes
  pub some_passes_is : (p : X → Bool) (xs : List X) (q : K) → IsInOrder R key xs → some_passes p xs q ≡ holds_of p (row_at R key xs q)
  unfolding row_at
  some_passes_is p [] q order = refl
  some_passes_is p (x ∷ xs) q order = passes_step p x xs q order (some_passes_is p xs q order.1) (R q (key x)) refl (p x) refl

  module _ (g : X → X) (keeps : (x : X) → key (g x) ≡ key x) where
    split : (b c : Bool) → (b || c) ≡ false → (b ≡ false) × (c ≡ false)
    split true c h = cc
    split false c h = (refl, h)

    elsewhere_step : (y : X) (rest zs : List X) (q : K) (others : Bool)
        → (others ≡ false → (zs : List X) → row_at R key (rows_put R key zs rest) q ≡ row_at R key zs q)
        → (b : Bool) → ((b && eq_by_cmp R q (key y)) || others) ≡ false → row_at R key (rows_put R key zs (cond b (g y ∷ rest) rest)) q ≡ row_at R key zs q
    elsewhere_step y rest zs q others ih true h =
        let each = split (eq_by_cmp R q (key y)) others h in
        ih each.1 (row_put R key zs (g y))
        ∙ row_at-row_put o key zs (g y) q
        ∙ ap (λ k. cond (eq_by_cmp R q k) (Some (g y)) (row_at R key zs q)) (keeps y)
        ∙ ap (λ b. cond b (Some (g y)) (row_at R key zs q)) each.0
    elsewhere_step y rest zs q others ih false h = ih h zs

    map_cond : (b : Bool) (y : X) (ys : List X) → map g (cond b (y ∷ ys) ys) ≡ cond b (g y ∷ map g ys) (map g ys)
    map_cond true y ys = refl
    map_cond false y ys = refl

    -- if none of the rows has the key, nothing changes there
    pub puts_elsewhere : (p : X → Bool) (ys zs : List X) (q : K) → some_passes p ys q ≡ false
        → row_at R key (rows_put R key zs (map g (filter p ys))) q ≡ row_at R key zs q
    puts_elsewhere p [] zs q none = refl
    puts_elsewhere p (y ∷ ys) zs q none =
        ap (λ rs. row_at R key (rows_put R key zs rs) q) (map_cond (p y) y (filter p ys))
        ∙ elsewhere_step y (map g (filter p ys)) zs q (some_passes p ys q) (λ h zs. puts_elsewhere p ys zs q h) (p y) none

    -- if one of the rows has the key, the changed row is found there
    puts_step : (p : X → Bool) (x : X) (xs zs : List X) (q : K) → IsInOrder R key (x ∷ xs)
        → holds_of p (by_order (R q (key x)) None (Some x) (row_at R key xs q)) ≡ true
        → ((zs : List X) → holds_of p (row_at R key xs q) ≡ true → row_at R key (rows_put R key zs (map g (filter p xs))) q ≡ option_map g (row_at R key xs q))
        → (c : Ordering) → R q (key x) ≡ c → (b : Bool) → p x ≡ b
        → row_at R key (rows_put R key zs (map g (cond b (x ∷ filter p xs) (filter p xs)))) q ≡ option_map g (by_order c None (Some x) (row_at R key xs q))
    puts_step p x xs zs q order h ih Less c b e =
        let no : false ≡ true = sym (ap (λ c. holds_of p (by_order c None (Some x) (row_at R key xs q))) c)
        ∙ h in cc
    puts_step p x xs zs q order h ih Equal c true e =
        puts_elsewhere p xs (row_put R key zs (g x)) q (none_passes p xs q (none_equal q xs (all_above o key q xs (tied o key q (key x) xs c order.0) order.1)))
        ∙ row_at-row_put o key zs (g x) q
        ∙ ap (λ k. cond (eq_by_cmp R q k) (Some (g x)) (row_at R key zs q)) (keeps x)
        ∙ ap (λ c. cond (is_eq c) (Some (g x)) (row_at R key zs q)) c
    puts_step p x xs zs q order h ih Equal c false e =
        let no : false ≡ true = sym e
        ∙ sym (ap (λ c. holds_of p (by_order c None (Some x) (row_at R key xs q))) c)
        ∙ h in cc
    puts_step p x xs zs q order h ih Greater c true e =
        ih (row_put R key zs (g x)) (sym (ap (λ c. holds_of p (by_order c None (Some x) (row_at R key xs q))) c) ∙ h)
    puts_step p x xs zs q order h ih Greater c false e = ih zs (sym (ap (λ c. holds_of p (by_order c None (Some x) (row_at R key xs q))) c) ∙ h)

    puts_here : (p : X → Bool) (xs zs : List X) (q : K) → IsInOrder R key xs → holds_of p (row_at R key xs q) ≡ true
        → row_at R key (rows_put R key zs (map g (filter p xs))) q ≡ option_map g (row_at R key xs q)
    unfolding row_at
    puts_here p [] zs q order h = let no : false ≡ true = h in cc
    puts_here p (x ∷ xs) zs q order h = puts_step p x xs zs q order h (λ zs h. puts_here p xs zs q order.1 h) (R q (key x)) refl (p x) refl

    changed_by : (p : X → Bool) (xs : List X) (q : K) → IsInOrder R key xs → (found : Option X) → row_at R key xs q ≡ found → (b : Bool)
        → holds_of p found ≡ b
        → row_at R key (rows_put R key xs (map g (filter p xs))) q ≡ option_map (changed p g) found
    changed_by p xs q order None at true e = let no : false ≡ true = e in cc
    changed_by p xs q order None at false e = puts_elsewhere p xs xs q (some_passes_is p xs q order ∙ ap (holds_of p) at) ∙ at
    changed_by p xs q order (Some x) at true e =
        puts_here p xs xs q order (ap (holds_of p) at ∙ e) ∙ ap (option_map g) at ∙ ap (λ b. Some (cond b (g x) x)) (sym e)
    changed_by p xs q order (Some x) at false e =
        puts_elsewhere p xs xs q (some_passes_is p xs q order ∙ ap (holds_of p) at ∙ e) ∙ at ∙ ap (λ b. Some (cond b (g x) x)) (sym e)

    -- the rows that pass are changed and put
    pub row_at-changed : (p : X → Bool) (xs : List X) (q : K) → IsInOrder R key xs
        → row_at R key (rows_put R key xs (map g (filter p xs))) q ≡ option_map (changed p g) (row_at R key xs q)
    row_at-changed p xs q order = changed_by p xs q order (row_at R key xs q) refl (holds_of p (row_at R key xs q)) refl
