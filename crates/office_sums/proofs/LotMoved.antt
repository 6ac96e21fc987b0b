-- A lot that reserves another amount on its line changes what the line reserves by the difference.
use Rattle.office_sums.proofs.Names.{◌≡◌, ℕ, ◌+◌, ◌≤◌, Bool, true, false, cond, List, [], ◌∷◌, map, filter, Some, None, refl, sym, ap, subst, ◌∙◌, arith, AllByRecursion, eq_by_cmp, same_id, total_limit, holds_of, sum_over, Tables, lot_cmp, lot_key, find_lot, put_lot, of_line, contracts_of_notice, after_put, plus, minus, reserved, contracted, paid, outstanding, paid_under, is_on_line, contracts_of_line, ContractRow, LotRow, lots_exact, equal_keys, same_itself, lots_total, row_at-row_put, weight, sum_over-filter, sum_over-put, AreReserved, AreSums, SumsOfLine}
use Rattle.office_base.specs.declared.puts.Put.TheVariants as puts
use Rattle.office_sums.proofs.PutAmounts.{on_line-put_lot}
use Rattle.office_sums.proofs.PutRows.{filter-ext}

-- what a lot reserves on a line
abbrev share : List ℕ → LotRow → ℕ
share line l = cond (of_line line l) l.reserved 0

share_on : (line : List ℕ) (l : LotRow) → of_line line l ≡ true → share line l ≡ l.reserved
share_on line l on = ap (λ b. cond b l.reserved 0) on

module _ (t : Tables) (l : LotRow) (line : List ℕ) (on : of_line line l ≡ true) (before : ℕ) (replaced : weight (share line) (find_lot t.lots (lot_key l)) ≡ before)
    (kept : contracts_of_line line (after_put (puts.Lot l) t) ≡ contracts_of_line line t) where
  total : (lots : List LotRow) → sum_over (λ m. m) (map (λ (x : LotRow). x.reserved) (filter (of_line line) lots)) ≡ sum_over (share line) lots
  total lots = sum_over-filter (λ (x : LotRow). x.reserved) (of_line line) lots

  reserved_moves : reserved line (after_put (puts.Lot l) t) + before ≡ reserved line t + l.reserved
  reserved_moves =
      ap (λ n. n + before) (total (put_lot t.lots l))
      ∙ ap (λ n. sum_over (share line) (put_lot t.lots l) + n) (sym replaced)
      ∙ sum_over-put lot_cmp lot_key (share line) t.lots l
      ∙ ap (λ n. sum_over (share line) t.lots + n) (share_on line l on)
      ∙ ap (λ n. n + l.reserved) (sym (total t.lots))

  contracted_stays : contracted line t ≡ contracted line (after_put (puts.Lot l) t)
  contracted_stays = ap (λ (cs : List ContractRow). sum_over (λ m. m) (map (outstanding t.entries) cs)) (sym kept)

  paid_stays : paid line t ≡ paid line (after_put (puts.Lot l) t)
  paid_stays = ap (λ (cs : List ContractRow). sum_over (λ m. m) (map (paid_under t.entries) cs)) (sym kept)

  pub reserves : (old new : SumsOfLine) → AreReserved old new before l.reserved → AreSums line old t → AreSums line new (after_put (puts.Lot l) t)
  reserves old new moved are =
      let reserved_now : new.reserved ≡ reserved line (after_put (puts.Lot l) t) = omega (arith, moved.reserved, are.reserved_is, reserved_moves) in
      record {
        reserved_is = reserved_now;
        contracted_is = moved.contracted ∙ are.contracted_is ∙ contracted_stays;
        paid_is = moved.paid ∙ are.paid_is ∙ paid_stays;
        fit = record {
          within = subst (λ (cs : List ContractRow). AllByRecursion (λ c. minus t.entries c ≤ plus t.entries c) cs) (sym kept) are.fit.within;
          reserved_fits = subst (λ n. n ≤ total_limit) reserved_now moved.fits;
          contracted_fits = subst (λ n. n ≤ total_limit) contracted_stays are.fit.contracted_fits;
          paid_fits = subst (λ n. n ≤ total_limit) paid_stays are.fit.paid_fits;
        };
      }

-- a lot that stays on its line
pub lot_changed : (t : Tables) (l was : LotRow) → find_lot t.lots (lot_key l) ≡ Some was → same_id was.line l.line ≡ true → (old new : SumsOfLine)
    → AreReserved old new was.reserved l.reserved → AreSums l.line old t → AreSums l.line new (after_put (puts.Lot l) t)
lot_changed t l was found same old new =
    let there : holds_of (of_line l.line) (find_lot t.lots (lot_key l)) ≡ true = ap (holds_of (of_line l.line)) found ∙ same in
    reserves t l l.line (same_itself l.line) was.reserved
    (ap (weight (share l.line)) found ∙ share_on l.line was same)
    (filter-ext (is_on_line (put_lot t.lots l) l.line) (is_on_line t.lots l.line) (on_line-put_lot l.line t.lots l (same_itself l.line ∙ sym there)) t.contracts)
    old new

-- rows that all fail a test, and tests that agree on rows
none_step : {X : Type 0} (p : X → Bool) (x : X) (kept : List X) → (b : Bool) → p x ≡ b → cond b (x ∷ kept) kept ≡ [] → (p x ≡ false) × (kept ≡ [])
none_step p x kept true e none = absurd (let i : x ∷ kept ≡ [] = none in cc)
none_step p x kept false e none = (e, none)

all_fail : {X : Type 0} (p : X → Bool) (xs : List X) → filter p xs ≡ [] → AllByRecursion (λ x. p x ≡ false) xs
all_fail p [] none = tt
all_fail p (x ∷ xs) none =
    let both : (p x ≡ false) × (filter p xs ≡ []) = none_step p x (filter p xs) (p x) refl none in
    (both.0, all_fail p xs both.1)

filter_alike : {X : Type 0} (p q : X → Bool) (xs : List X) → AllByRecursion (λ x. p x ≡ q x) xs → filter p xs ≡ filter q xs
filter_alike p q [] h = refl
filter_alike p q (x ∷ xs) h = ap (λ ys. cond (p x) (x ∷ ys) ys) (filter_alike p q xs h.1) ∙ ap (λ b. cond b (x ∷ filter q xs) (filter q xs)) h.0

-- a lot of another notice's contract
module _ (t : Tables) (l : LotRow) where
  other_step : (c : ContractRow) → same_id c.notice l.notice ≡ false → (b : Bool) → eq_by_cmp lot_cmp (c.notice, c.lot) (lot_key l) ≡ b
      → holds_of (of_line l.line) (cond b (Some l) (find_lot t.lots (c.notice, c.lot))) ≡ is_on_line t.lots l.line c
  other_step c other true e =
      let same : (c.notice, c.lot) ≡ lot_key l = equal_keys lots_exact (c.notice, c.lot) (lot_key l) e in
      let tied : same_id c.notice l.notice ≡ true = ap (λ (k : List ℕ × List ℕ). same_id k.0 l.notice) same ∙ same_itself l.notice in
      absurd (let i : true ≡ false = sym tied ∙ other in cc)
  other_step c other false e = refl

  others_alike : (cs : List ContractRow) → AllByRecursion (λ (c : ContractRow). same_id c.notice l.notice ≡ false) cs
      → AllByRecursion (λ c. is_on_line (put_lot t.lots l) l.line c ≡ is_on_line t.lots l.line c) cs
  others_alike [] h = tt
  others_alike (c ∷ cs) h = (
    ap (holds_of (of_line l.line)) (row_at-row_put lots_total lot_key t.lots l (c.notice, c.lot))
        ∙ other_step c h.0 (eq_by_cmp lot_cmp (c.notice, c.lot) (lot_key l)) refl,
    others_alike cs h.1,
  )

  -- a new lot, if its notice has no contract
  pub lot_added : find_lot t.lots (lot_key l) ≡ None → contracts_of_notice l.notice t ≡ [] → (old new : SumsOfLine)
      → AreReserved old new 0 l.reserved → AreSums l.line old t → AreSums l.line new (after_put (puts.Lot l) t)
  lot_added missing none =
      reserves t l l.line (same_itself l.line) 0 (ap (weight (share l.line)) missing)
      (filter_alike (is_on_line (put_lot t.lots l) l.line) (is_on_line t.lots l.line) t.contracts
      (others_alike t.contracts (all_fail (λ (c : ContractRow). same_id c.notice l.notice) t.contracts none)))
