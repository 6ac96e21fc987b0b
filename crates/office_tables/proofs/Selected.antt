-- A SELECT .. ORDER BY over one table shows the rows that pass its tests, in their order.
use Rattle.office_tables.proofs.Names.{◌≡◌, inl, inr, ℕ, ◌≤◌, Bool, true, false, cond, List, [], ◌∷◌, ◌++◌, map, flat_map, filter, Option, Some, None, refl, sym, ap, subst, ◌∙◌, Ordering, arith, cases_Bool, length-map, map-set, get_or-map, slice_set, slice_index_or, sum_by, AllByRecursion, list_all, swap, IsPermutation, SwapsInRange, apply_swaps, IsSorted, IsPermutation-sym, sum_by-IsPermutation, sum_by-cons, IsTotalOrder, tied_itself, is_lt, eq_by_cmp, IsAntisymmetric, Row, value_cmp, value_cmp_total, rowid, all-permutation, Env, holds, Query, IsAnswer, output, output_cmp, overlay, Trees, Value, Has, all_has, all_from, IsInOrder, sum_over, rows_kept, AreKept, equal_keys, IsKeyed, each_found, if_passes, in_order-filter, row_at-filter}
use Rattle.sqlite_sql.specs.Query.{Output}
use Rattle.office_base.specs.Rows.{row_at}
use Rattle.office_tables.proofs.Sorted.{Climbs, climbs, count_at, in_order_from_sorted, same_members}
use Rattle.office_tables.proofs.KeptRows.{found}
use Rattle.office_tables.proofs.KeptRows.{finds, in_order-rows_kept}

abbrev pub picked : (Row → Bool) → (Row → Env) → List Row → List Env
picked p env rows = flat_map (λ r. cond (p r) (env r ∷ []) []) rows

abbrev pub passes_query : Query → Row → Row → Bool
passes_query q params r = list_all (holds (params ∷ r ∷ [])) q.filter

sums_are : {X : Type 0} (f : X → ℕ) (xs : List X) → sum_by f xs ≡ sum_over f xs
sums_are f [] = refl
sums_are f (x ∷ xs) = omega (arith, sum_by-cons f x xs, sums_are f xs)

less_differs : (a b : Row) → value_cmp (rowid a) (rowid b) ≡ Rattle.std.proofs.Common.Less → a ≡ b → ⊥
less_differs a b l e = let t = tied_itself value_cmp_total (rowid b) in let m = ap (λ z. value_cmp (rowid z) (rowid b)) e in cc

abbrev one : Bool → ℕ
one b = cond b 1 0

cond_le : (b : Bool) → one b ≤ 1
cond_le true = omega arith
cond_le false = omega arith

-- if a list is shuffled, its image under a function is shuffled in the same way
module _ {A B : Type 0} (f : A → B) where
  swap-map : (l : List A) (i j : ℕ) → swap (map f l) i j ≡ map f (swap l i j)
  swap-map [] i j = refl
  swap-map (d ∷ ys) i j = sym (
      map-set f (slice_set (d ∷ ys) i (slice_index_or (d ∷ ys) j d)) j (slice_index_or (d ∷ ys) i d)
      ∙ (λ t. slice_set ((map-set f (d ∷ ys) i (slice_index_or (d ∷ ys) j d) ∙ ap (slice_set (map f (d ∷ ys)) i) (sym (get_or-map f (d ∷ ys) j d))) t) j (sym (get_or-map f (d ∷ ys) i d) t)))

  swaps-map : (l : List A) (moves : List (ℕ × ℕ)) → apply_swaps (map f l) moves ≡ map f (apply_swaps l moves)
  swaps-map l [] = refl
  swaps-map l (m ∷ moves) = ap (λ r. swap r m.0 m.1) (swaps-map l moves) ∙ swap-map (apply_swaps l moves) m.0 m.1

  pub lifted : (xs : List A) (ys : List B) → IsPermutation (map f xs) ys → (ws : List A) × (ys ≡ map f ws) × IsPermutation xs ws
  lifted xs ys h = (apply_swaps xs h.moves, h.is ∙ swaps-map xs h.moves, record { moves = h.moves; below = subst (λ n. SwapsInRange n h.moves) (length-map xs f) h.below; is = refl })

pub permuted_has : {X : Type 0} (xs ys : List X) (x : X) → IsPermutation xs ys → Has ys x → Has xs x
permuted_has xs ys x same = all_has (Has xs) ys x (all-permutation (Has xs) xs ys same (all_from (Has xs) xs (λ e h. h)))

-- the elements of a list that pass
module _ {X Y : Type 0} (p : X → Bool) (f : Y → X) where
  filtered_has : (ys : List Y) (x : X) → Has (filter p (map f ys)) x → (y : Y) × Has ys y × (x ≡ f y) × (p (f y) ≡ true)
  filtered_has [] x h = absurd h
  filtered_has (y ∷ ys) x h = go (p (f y)) refl (filtered_has ys x) h
    where
      From : List Y → Type 0
      From zs = (z : Y) × Has zs z × (x ≡ f z) × (p (f z) ≡ true)

      go : (b : Bool) → p (f y) ≡ b → (Has (filter p (map f ys)) x → From ys) → Has (cond b (f y ∷ filter p (map f ys)) (filter p (map f ys))) x → From (y ∷ ys)
      go true e rest (inl is) = (y, inl refl, is, e)
      go true e rest (inr later) = let r = rest later in (r.0, inr r.1, r.2, r.3)
      go false e rest later = let r = rest later in (r.0, inr r.1, r.2, r.3)

  has_filtered : (ys : List Y) (y : Y) → Has ys y → p (f y) ≡ true → Has (filter p (map f ys)) (f y)
  has_filtered [] y h e = absurd h
  has_filtered (z ∷ ys) y (inl is) e = subst (λ b. Has (cond b (f z ∷ filter p (map f ys)) (filter p (map f ys))) (f y)) (sym (ap (λ y. p (f y)) (sym is) ∙ e)) (inl (ap f is))
  has_filtered (z ∷ ys) y (inr later) e = elim (p (f z)) as (λ b. Has (cond b (f z ∷ filter p (map f ys)) (filter p (map f ys))) (f y)) [ true ↦ inr (has_filtered ys y later e) | false ↦ has_filtered ys y later e ]

all_pass : {X : Type 0} (p : X → Bool) (xs : List X) → AllByRecursion (λ x. p x ≡ true) (filter p xs)
all_pass p [] = tt
all_pass p (x ∷ xs) = elim (p x) as (λ b. p x ≡ b → AllByRecursion (λ x. p x ≡ true) (cond b (x ∷ filter p xs) (filter p xs))) [ true ↦ λ e. (e, all_pass p xs) | false ↦ λ e. all_pass p xs ] refl

module _ {K X : Type 0} (R : K → K → Ordering) (total : IsTotalOrder R) (same : IsAntisymmetric R) (key : X → K) (form : Value → X → Row) (decode : Row → X) where
  abbrev t : IsKeyed R key
  t = record { total = total; exact = same }

  abbrev Kept : List Row → Type 0
  Kept = AreKept R key form decode

  tail : (r : Row) (rows : List Row) → Kept (r ∷ rows) → Kept rows
  tail r rows k = record { rising = k.rising.1; each = k.each.1; one = λ a b h i e. k.one a b (inr h) (inr i) e }

  none_counted : (q : K) (rows : List Row) → ((y : Row) → Has rows y → key (decode y) ≡ q → ⊥) → count_at t q (map decode rows) ≡ 0
  none_counted q [] h = refl
  none_counted q (r ∷ rows) h = elim (cases_Bool (eq_by_cmp R q (key (decode r)))) [
    | inl tie ↦ absurd (h r (inl refl) (sym (equal_keys same q (key (decode r)) tie)))
    | inr apart ↦ omega (arith, ap one apart, none_counted q rows (λ y i e. h y (inr i) e))
  ]

  -- no key occurs twice
  counted : (q : K) (rows : List Row) → Kept rows → count_at t q (map decode rows) ≤ 1
  counted q [] k = omega arith
  counted q (r ∷ rows) k = elim (cases_Bool (eq_by_cmp R q (key (decode r)))) [
    | inl tie ↦ (
        let at : q ≡ key (decode r) = equal_keys same q (key (decode r)) tie in
        let none = none_counted q rows (λ y i e. less_differs r y (all_has _ rows y k.rising.0 i) (k.one r y (inl refl) (inr i) (sym at ∙ sym e))) in
        omega (arith, cond_le (eq_by_cmp R q (key (decode r))), none))
    | inr apart ↦ omega (arith, ap one apart, counted q rows (tail r rows k))
  ]

  found_row : (rows : List Row) (r : Row) → Kept rows → Has rows r → row_at R key (rows_kept R key form decode rows) (key (decode r)) ≡ Some (decode r)
  found_row rows r k h = finds R total same key form decode rows (key (decode r)) ∙ elim (found R total same key form decode rows (key (decode r))) [
    | inl f ↦ f.3 ∙ ap (λ z. Some (decode z)) (k.one f.0 r f.1 h f.2)
    | inr none ↦ absurd (none.0 r h refl)
  ]

  -- each record of the table is read back from its row
  pub comes_back : (rows : List Row) → Kept rows → (encode : X → Row) (read : Row → X) → ((v : Value) (x : X) → decode (form v x) ≡ read (encode x))
      → AllByRecursion (λ x. read (encode x) ≡ x) (rows_kept R key form decode rows)
  comes_back rows k encode read reads = all_from _ _ (λ x h.
      let e : row_at R key (rows_kept R key form decode rows) (key x) ≡ Some x = all_has _ _ x (each_found t _ (in_order-rows_kept R total same key form decode rows)) h in
      elim (found R total same key form decode rows (key x)) [
        | inl f ↦ (
            let is : Some x ≡ Some (decode f.0) = sym e ∙ finds R total same key form decode rows (key x) ∙ f.3 in
            let at : x ≡ decode f.0 = cc in
            let shaped = (all_has _ rows f.0 k.each f.1).1 in
            subst (λ z. read (encode z) ≡ z) (sym at) (sym (ap decode shaped ∙ reads (rowid f.0) (decode f.0))))
        | inr none ↦ absurd (let n : None ≡ Some x = sym none.1 ∙ sym (finds R total same key form decode rows (key x)) ∙ e in cc)
      ])

  module _ (passes : Row → Bool) (env : Row → Env) (output : Env → Output) (p : X → Bool) (out : X → Output) (cmp : Output → Output → Ordering)
      (passing : (r : Row) (x : X) → r ≡ form (rowid r) x → passes r ≡ p x)
      (shows : (r : Row) (x : X) → r ≡ form (rowid r) x → output (env r) ≡ out x)
      (agrees : (x y : X) → p x ≡ true → p y ≡ true → is_lt (cmp (out x) (out y)) ≡ is_lt (R (key x) (key y))) where
    abbrev zs : List Row → List X
    zs rows = filter p (map decode rows)

    outputs : (rows : List Row) → Kept rows → map output (picked passes env rows) ≡ map out (zs rows)
    outputs [] k = refl
    outputs (r ∷ rows) k =
        by (passes r) (passing r (decode r) k.each.0.1) (outputs rows (tail r rows k))
      where
        by : (b : Bool) → b ≡ p (decode r) → map output (picked passes env rows) ≡ map out (zs rows) → map output (cond b (env r ∷ []) [] ++ picked passes env rows) ≡ map out (filter p (map decode (r ∷ rows)))
        by true e h = (λ i. shows r (decode r) k.each.0.1 i ∷ h i) ∙ ap (λ b. map out (cond b (decode r ∷ zs rows) (zs rows))) e
        by false e h = h ∙ ap (λ b. map out (cond b (decode r ∷ zs rows) (zs rows))) e

    module _ (rows : List Row) (kept : Kept rows) (ordered : List Output) (same_rows : IsPermutation (map output (picked passes env rows)) ordered) (sorted : IsSorted cmp ordered) where
      abbrev table : List X
      table = rows_kept R key form decode rows

      shuffled : (ws : List X) × (ordered ≡ map out ws) × IsPermutation (zs rows) ws
      shuffled = lifted out (zs rows) ordered (subst (λ l. IsPermutation l ordered) (outputs rows kept) same_rows)

      abbrev ws : List X
      ws = shuffled.0

      climb : (ys : List X) → AllByRecursion (λ x. p x ≡ true) ys → Climbs cmp (map out ys) → Climbs (λ x y. R (key x) (key y)) ys
      climb [] a c = tt
      climb (y ∷ []) a c = tt
      climb (y ∷ z ∷ more) a c = (sym (agrees z y a.1.0 a.0) ∙ c.0, climb (z ∷ more) a.1 c.1)

      abbrev at_key : K → X → ℕ
      at_key q x = cond (eq_by_cmp R q (key x)) 1 0

      fewer : (q : K) (ys : List X) → count_at t q (filter p ys) ≤ count_at t q ys
      fewer q [] = omega arith
      fewer q (y ∷ ys) = elim (p y) as (λ b. count_at t q (cond b (y ∷ filter p ys) (filter p ys)) ≤ count_at t q (y ∷ ys)) [ true ↦ omega (arith, fewer q ys) | false ↦ omega (arith, fewer q ys) ]

      once : (q : K) → count_at t q ws ≤ 1
      once q =
          let moved : sum_by (at_key q) ws ≡ sum_by (at_key q) (zs rows) = sum_by-IsPermutation (at_key q) (zs rows) ws shuffled.2 in
          omega (arith, moved, sums_are (at_key q) ws, sums_are (at_key q) (zs rows), fewer q (map decode rows), counted q rows kept)

      ws_pass : AllByRecursion (λ x. p x ≡ true) ws
      ws_pass = all-permutation (λ x. p x ≡ true) (zs rows) ws shuffled.2 (all_pass p (map decode rows))

      in_order : IsInOrder R key ws
      in_order = in_order_from_sorted t ws (climb ws ws_pass (subst (Climbs cmp) shuffled.1 (climbs cmp ordered sorted))) once

      passing_in_order : IsInOrder R key (filter p table)
      passing_in_order = in_order-filter total key p table (in_order-rows_kept R total same key form decode rows)

      looked_up : (q : K) → row_at R key (filter p table) q ≡ if_passes p (row_at R key table q)
      looked_up q = row_at-filter t p table q (in_order-rows_kept R total same key form decode rows)

      into : AllByRecursion (λ x. row_at R key (filter p table) (key x) ≡ Some x) ws
      into = all_from _ ws (λ x h.
          let s = filtered_has p decode rows x (permuted_has (zs rows) ws x shuffled.2 h) in
          subst (λ x. row_at R key (filter p table) (key x) ≡ Some x) (sym s.2) (looked_up (key (decode s.0)) ∙ ap (if_passes p) (found_row rows s.0 kept s.1) ∙ ap (λ b. cond b (Some (decode s.0)) None) s.3))

      ws_found : (x : X) → Has ws x → row_at R key ws (key x) ≡ Some x
      ws_found x h = all_has _ ws x (each_found t ws in_order) h

      from_table : (y : X) (q : K) → row_at R key table q ≡ Some y → p y ≡ true → row_at R key ws (key y) ≡ Some y
      from_table y q e is = elim (found R total same key form decode rows q) [
        | inl f ↦ (
            let here : Some y ≡ Some (decode f.0) = sym e ∙ finds R total same key form decode rows q ∙ f.3 in
            let at : y ≡ decode f.0 = cc in
            let there = has_filtered p decode rows f.0 f.1 (ap p (sym at) ∙ is) in
            ws_found y (subst (Has ws) (sym at) (permuted_has ws (zs rows) (decode f.0) (IsPermutation-sym (zs rows) ws shuffled.2) there)))
        | inr none ↦ absurd (let n : None ≡ Some y = sym none.1 ∙ sym (finds R total same key form decode rows q) ∙ e in cc)
      ]

      out_of : AllByRecursion (λ y. row_at R key ws (key y) ≡ Some y) (filter p table)
      out_of = all_from _ (filter p table) (λ y h.
          let e : row_at R key (filter p table) (key y) ≡ Some y = all_has _ (filter p table) y (each_found t (filter p table) passing_in_order) h in
          by y (row_at R key table (key y)) refl (sym (looked_up (key y)) ∙ e))
        where
          by : (y : X) (o : Option X) → row_at R key table (key y) ≡ o → if_passes p (row_at R key table (key y)) ≡ Some y → row_at R key ws (key y) ≡ Some y
          by y None e h = absurd (let n : ◌≡◌ {A = Option X} None (Some y) = sym (ap (if_passes p) e) ∙ h in cc)
          by y (Some z) e h = with_test (p z) refl (sym (ap (if_passes p) e) ∙ h)
            where
              with_test : (b : Bool) → p z ≡ b → cond (p z) (Some z) None ≡ Some y → row_at R key ws (key y) ≡ Some y
              with_test true i g = let s : Some z ≡ Some y = sym (ap (λ b. cond b (Some z) None) i) ∙ g in let at : z ≡ y = cc in from_table y (key y) (e ∙ s) (ap p (sym at) ∙ i)
              with_test false i g = absurd (let n : ◌≡◌ {A = Option X} None (Some y) = sym (ap (λ b. cond b (Some z) None) i) ∙ g in cc)

      -- the rows that are shown are the records that pass
      pub lists : ordered ≡ map out (filter p table)
      lists = shuffled.1 ∙ ap (map out) (same_members t ws (filter p table) in_order passing_in_order into out_of)

  -- one select over one tree
  module _ (q : Query) (params : Row) (p : X → Bool) (out : X → Output)
      (passing : (v : Value) (x : X) → passes_query q params (form v x) ≡ p x)
      (shows : (v : Value) (x : X) → output q (params ∷ form v x ∷ []) ≡ out x)
      (agrees : (x y : X) → p x ≡ true → p y ≡ true → is_lt (output_cmp q (out x) (out y)) ≡ is_lt (R (key x) (key y))) where
    pub selects : (db : Trees) (tree : ℕ) (rows : List Row) → Kept (db tree) → (a : IsAnswer q (overlay db []) params rows)
        → a.staged ≡ picked (passes_query q params) (λ r. params ∷ r ∷ []) (db tree) → a.kept ≡ map (output q) a.staged → rows ≡ map (λ (o : Output). o.1) a.ordered
        → rows ≡ map (λ (o : Output). o.1) (map out (filter p (rows_kept R key form decode (db tree))))
    selects db tree rows kept a staged distinct shown =
        shown ∙ ap (map (λ (o : Output). o.1)) (lists (passes_query q params) (λ r. params ∷ r ∷ []) (output q) p out (output_cmp q)
        (λ r x e. ap (passes_query q params) e ∙ passing (rowid r) x)
        (λ r x e. ap (λ z. output q (params ∷ z ∷ [])) e ∙ shows (rowid r) x)
        agrees (db tree) kept a.ordered (subst (λ l. IsPermutation l a.ordered) (distinct ∙ ap (map (output q)) staged) a.same) a.sorted)
