-- Rows that are put one after another.
use Rattle.office_machine.proofs.Names.{◌≡◌, ℕ, ◌+◌, Bool, true, false, cond, ◌||◌, List, [], ◌∷◌, ◌++◌, map, Option, Some, None, IsSome, refl, sym, subst, arith, list_any, AllByRecursion, IsTotalOrder, eq_by_cmp, Ordering, row_at, row_put, sum_over, Tables, line_key, lot_key, lot_cmp, after_put, after_puts, LineRow, LotRow, Put, id_cmp, row_at-row_put, still_there, sum_over-put_new}
use Rattle.office_base.specs.declared.puts.Put.TheVariants as puts

-- the rows of a table after these are put
abbrev pub rows_put : {K X : Type 0} → (K → K → Ordering) → (X → K) → List X → List X → List X
rows_put R key xs [] = xs
rows_put R key xs (r ∷ rs) = rows_put R key (row_put R key xs r) rs

-- each of these rows is new when it is put
abbrev pub AreNew : {K X : Type 0} → (K → K → Ordering) → (X → K) → List X → List X → Type 0
AreNew R key xs [] = Unit {0}
AreNew R key xs (r ∷ rs) = (row_at R key xs (key r) ≡ None) × AreNew R key (row_put R key xs r) rs

-- one of the rows has the key
abbrev pub some_has : {K X : Type 0} → (K → K → Ordering) → (X → K) → K → List X → Bool
some_has R key q rs = list_any (λ r. eq_by_cmp R q (key r)) rs

module _ {K X : Type 0} {R : K → K → Ordering} (o : IsTotalOrder R) (key : X → K) where
  one_put : (P : Option X → Type 0) (r : X) (found : Option X) (b more : Bool) → (b ≡ true → P (Some r)) → ((b || more) ≡ false → P found)
      → more ≡ false → P (cond b (Some r) found)
  one_put P r found true more here there none = here refl
  one_put P r found false more here there none = there none

  -- a property of each row that is put at a key, and of the earlier row if none is put there, is a property of the found row
  pub found_after : (P : Option X → Type 0) (q : K) (rs xs : List X) → AllByRecursion (λ r. eq_by_cmp R q (key r) ≡ true → P (Some r)) rs
      → (some_has R key q rs ≡ false → P (row_at R key xs q)) → P (row_at R key (rows_put R key xs rs) q)
  found_after P q [] xs here there = there refl
  found_after P q (r ∷ rs) xs here there =
      found_after P q rs (row_put R key xs r) here.1
      (λ none. subst P (sym (row_at-row_put o key xs r q))
      (one_put P r (row_at R key xs q) (eq_by_cmp R q (key r)) (some_has R key q rs) here.0 there none))

  -- earlier rows are still found
  pub there_after : (q : K) (rs xs : List X) → IsSome (row_at R key xs q) → IsSome (row_at R key (rows_put R key xs rs) q)
  there_after q [] xs h = h
  there_after q (r ∷ rs) xs h = there_after q rs (row_put R key xs r) (still_there o key xs r q h)

  -- new rows add their amounts to a sum
  pub sum_over-rows_put : (f : X → ℕ) (rs xs : List X) → AreNew R key xs rs → sum_over f (rows_put R key xs rs) ≡ sum_over f xs + sum_over f rs
  sum_over-rows_put f [] xs new = omega arith
  sum_over-rows_put f (r ∷ rs) xs new = omega (arith, sum_over-rows_put f rs (row_put R key xs r) new.1, sum_over-put_new R key f xs r new.0)

-- the lines of the office after these are put
abbrev pub lines_put : List LineRow → List LineRow → List LineRow
lines_put = rows_put id_cmp line_key

abbrev pub lots_put : List LotRow → List LotRow → List LotRow
lots_put = rows_put lot_cmp lot_key

pub after_lines : {X : Type 0} (make : X → LineRow) (xs : List X) (rest : List Put) (t : Tables)
    → after_puts (map (λ x. puts.Line (make x)) xs ++ rest) t ≡ after_puts rest (record t { lines = lines_put t.lines (map make xs) })
after_lines make [] rest t = refl
after_lines make (x ∷ xs) rest t = after_lines make xs rest (after_put (puts.Line (make x)) t)

pub after_lots : {X : Type 0} (make : X → LotRow) (xs : List X) (rest : List Put) (t : Tables)
    → after_puts (map (λ x. puts.Lot (make x)) xs ++ rest) t ≡ after_puts rest (record t { lots = lots_put t.lots (map make xs) })
after_lots make [] rest t = refl
after_lots make (x ∷ xs) rest t = after_lots make xs rest (after_put (puts.Lot (make x)) t)
