-- The lines and the lots of a notice that is published.
use Rattle.office_machine.proofs.Names.{◌≡◌, ℕ, ◌+◌, ◌-◌, ◌≤◌, ◌⊎◌, Bool, true, false, cond, List, [], ◌∷◌, map, Option, Some, None, unwrap_or, refl, sym, ap, ◌∙◌, subst, arith, inl, inr, list_any, AllByRecursion, nat_list_cmp_total, eq_by_cmp, repeats_id, id_cmp, same_id, lot_id, NewLot, sum_over, line_key, find_line, lot_key, lot_cmp, find_lot, put_lot, wanted, is_short, no_line, reserving_line, lot_row, appropriation_in, free_in, LineRow, LotRow, ids_exact, lots_exact, equal_keys, other_keys, equal_ids, same_itself, same_id_is, lots_total, row_at-row_put, sum_over-map}
use Rattle.office_machine.proofs.Accounts.Kept.{reserved_by}
use Rattle.office_machine.proofs.Passed.{neither, at_least}
use Rattle.office_machine.proofs.Rows.RowsPut.{some_has, lines_put, lots_put, AreNew, found_after, sum_over-rows_put}

-- this amount of the line is no longer free
pub record IsTaken (before after : Option LineRow) (amount : ℕ) : Type 0 where
  pub appropriation_is : appropriation_in after ≡ appropriation_in before
  pub free_is : free_in after ≡ free_in before - amount

own_line : (found : Option LineRow) (q : List ℕ) (amount : ℕ) → IsTaken found (Some (record (unwrap_or found (no_line q)) { line = q; free = free_in found - amount })) amount
own_line None q amount = record { appropriation_is = refl; free_is = refl }
own_line (Some row) q amount = record { appropriation_is = refl; free_is = refl }

each_taken : (lines : List LineRow) (all lots : List NewLot) (q : List ℕ)
    → AllByRecursion (λ (r : LineRow). eq_by_cmp id_cmp q r.line ≡ true → IsTaken (find_line lines q) (Some r) (wanted q all)) (map (reserving_line lines all) lots)
each_taken lines all [] q = tt
each_taken lines all (lot ∷ lots) q = (
  λ e. subst (λ p. IsTaken (find_line lines p) (Some (reserving_line lines all lot)) (wanted p all)) (sym (equal_keys ids_exact q lot.line e))
      (own_line (find_line lines lot.line) lot.line (wanted lot.line all)),
  each_taken lines all lots q,
)

-- lots on other lines need no money of a line
wanted_of_none : (lines : List LineRow) (all lots : List NewLot) (q : List ℕ) → some_has id_cmp line_key q (map (reserving_line lines all) lots) ≡ false → wanted q lots ≡ 0
wanted_of_none lines all [] q none = refl
wanted_of_none lines all (lot ∷ lots) q none =
    let apart = neither (eq_by_cmp id_cmp q lot.line) (some_has id_cmp line_key q (map (reserving_line lines all) lots)) none in
    omega (arith, ap (λ b. cond b lot.estimate 0) (same_id_is lot.line q ∙ apart.0), wanted_of_none lines all lots q apart.1)

none_taken : (found : Option LineRow) (amount : ℕ) → amount ≡ 0 → IsTaken found found amount
none_taken found amount none = record { appropriation_is = refl; free_is = omega (arith, none) }

-- after the lines of all lots are put, each line has less free money by the estimates of its lots
pub taken_after : (lines : List LineRow) (lots : List NewLot) (q : List ℕ)
    → IsTaken (find_line lines q) (find_line (lines_put lines (map (reserving_line lines lots) lots)) q) (wanted q lots)
taken_after lines lots q =
    found_after nat_list_cmp_total line_key (λ found. IsTaken (find_line lines q) found (wanted q lots)) q (map (reserving_line lines lots) lots) lines
    (each_taken lines lots lots q)
    (λ none. none_taken (find_line lines q) (wanted q lots) (wanted_of_none lines lots lots q none))

enough_step : (lines : List LineRow) (all : List NewLot) (q : List ℕ) (lot : NewLot) (n : ℕ) → is_short lines all lot ≡ false
    → (n ≡ 0) ⊎ (wanted q all ≤ free_in (find_line lines q))
    → (b : Bool) → same_id lot.line q ≡ b → (cond b lot.estimate 0 + n ≡ 0) ⊎ (wanted q all ≤ free_in (find_line lines q))
enough_step lines all q lot n enough rest true e =
    inr (subst (λ p. wanted p all ≤ free_in (find_line lines p)) (equal_ids lot.line q e) (at_least _ _ enough))
enough_step lines all q lot n enough (inl none) false e = inl (omega (arith, none))
enough_step lines all q lot n enough (inr is) false e = inr is

enough_by : (lines : List LineRow) (all lots : List NewLot) (q : List ℕ) → list_any (is_short lines all) lots ≡ false
    → (wanted q lots ≡ 0) ⊎ (wanted q all ≤ free_in (find_line lines q))
enough_by lines all [] q none = inl refl
enough_by lines all (lot ∷ lots) q none =
    let passes = neither _ _ none in
    enough_step lines all q lot (wanted q lots) passes.0 (enough_by lines all lots q passes.1) (same_id lot.line q) refl

-- if no lot is short of money, each line has enough free money for the estimates of its lots
pub enough : (lines : List LineRow) (lots : List NewLot) (q : List ℕ) → list_any (is_short lines lots) lots ≡ false → wanted q lots ≤ free_in (find_line lines q)
enough lines lots q none =
    elim (enough_by lines lots lots q none) as (λ _. wanted q lots ≤ free_in (find_line lines q)) [
      | inl nothing ↦ omega (arith, nothing)
      | inr is ↦ is
    ]

-- none of the lots exists yet
abbrev pub AreAbsent : List LotRow → List ℕ → List NewLot → Type 0
AreAbsent held notice lots = AllByRecursion (λ (lot : NewLot). find_lot held (notice, lot.id) ≡ None) lots

differ : (key other : List ℕ × List ℕ) → same_id key.1 other.1 ≡ false → key ≡ other → ⊥
differ key other apart e = let same : same_id key.1 other.1 ≡ true = ap (λ (k : List ℕ × List ℕ). same_id k.1 other.1) e ∙ same_itself other.1 in absurd cc

absent_step : (held : List LotRow) (notice : List ℕ) (lot other : NewLot) → same_id other.id lot.id ≡ false → find_lot held (notice, other.id) ≡ None
    → find_lot (put_lot held (lot_row notice lot)) (notice, other.id) ≡ None
absent_step held notice lot other apart none =
    let elsewhere = other_keys lots_exact (notice, other.id) (notice, lot.id) (differ (notice, other.id) (notice, lot.id) apart) in
    row_at-row_put lots_total lot_key held (lot_row notice lot) (notice, other.id)
    ∙ ap (λ b. cond b (Some (lot_row notice lot)) (find_lot held (notice, other.id))) elsewhere
    ∙ none

absent_later : (held : List LotRow) (notice : List ℕ) (lot : NewLot) (lots : List NewLot) → list_any (λ (other : NewLot). same_id other.id lot.id) lots ≡ false
    → AreAbsent held notice lots → AreAbsent (put_lot held (lot_row notice lot)) notice lots
absent_later held notice lot [] apart none = tt
absent_later held notice lot (other ∷ lots) apart none =
    let each = neither _ _ apart in
    (absent_step held notice lot other each.0 none.0, absent_later held notice lot lots each.1 none.1)

-- if no two lots have the same identifier, each of them is new when it is put
pub lots_new : (held : List LotRow) (notice : List ℕ) (lots : List NewLot) → repeats_id lot_id lots ≡ false → AreAbsent held notice lots
    → AreNew lot_cmp lot_key held (map (lot_row notice) lots)
lots_new held notice [] own none = tt
lots_new held notice (lot ∷ lots) own none =
    let each = neither _ _ own in
    (none.0, lots_new (put_lot held (lot_row notice lot)) notice lots each.1 (absent_later held notice lot lots each.0 none.1))

-- the lots reserve their estimates
pub reserved_after : (held : List LotRow) (notice : List ℕ) (lots : List NewLot) (q : List ℕ) → AreNew lot_cmp lot_key held (map (lot_row notice) lots)
    → sum_over (reserved_by q) (lots_put held (map (lot_row notice) lots)) ≡ sum_over (reserved_by q) held + wanted q lots
reserved_after held notice lots q new =
    omega (arith, sum_over-rows_put lots_total lot_key (reserved_by q) (map (lot_row notice) lots) held new, sum_over-map (reserved_by q) (lot_row notice) lots)
