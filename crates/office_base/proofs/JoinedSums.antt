-- The sums of a line's contracts, collected lot by lot, are those of its joined rows.
use Rattle.office_base.proofs.Names.{◌≡◌, ℕ, ◌-◌, ◌≤◌, Bool, true, false, cond, ◌&&◌, List, [], ◌∷◌, map, filter, Option, Some, None, refl, sym, ap, ◌∙◌, arith, AllByRecursion, texts_ties, is_eq, eq_by_cmp, ordering_then, Ordering, Less, Equal, Greater, id_cmp, same_id, IsInOrder, holds_of, sum_over, Tables, IsSorted, lot_cmp, lot_key, find_lot, of_line, lots_of_line, contracts_of_lot, plus, minus, outstanding, paid_under, contracts_of_line, is_on_line, sums_of, sums_under, sums_of_line, reservations, LineFits, outstanding_in, paid_in, pots_with, SumsFit, JoinedSums, LineRow, LotRow, ContractRow, ContractSums}
use Rattle.office_base.proofs.Orders.{lots_total}
use Rattle.office_base.proofs.SumsOver.{weight, sum_over-zero, sum_over-ext, sum_over-plus, sum_over-map, sum_over-append_map, sum_over-filter, sum_over-one}

swap_conds : (a b : Bool) (n : ℕ) → cond a (cond b n 0) 0 ≡ cond b (cond a n 0) 0
swap_conds true true n = refl
swap_conds true false n = refl
swap_conds false true n = refl
swap_conds false false n = refl

then_eq : (a b : Ordering) → is_eq (ordering_then a b) ≡ is_eq a && is_eq b
then_eq Less b = refl
then_eq Equal b = refl
then_eq Greater b = refl

-- whether a contract belongs to the lot with this key
abbrev is_of : List ℕ × List ℕ → ContractRow → Bool
is_of k c = same_id c.notice k.0 && same_id c.lot k.1

is_of-compares : (k : List ℕ × List ℕ) (c : ContractRow) → is_of k c ≡ eq_by_cmp lot_cmp (c.notice, c.lot) k
is_of-compares k c =
    ap (λ b. b && same_id c.lot k.1) (texts_ties c.notice k.0)
    ∙ ap (λ b. eq_by_cmp id_cmp c.notice k.0 && b) (texts_ties c.lot k.1)
    ∙ sym (then_eq (id_cmp c.notice k.0) (id_cmp c.lot k.1))

module _ (w : ContractRow → ℕ) (q : List ℕ) (lots : List LotRow) (order : IsInOrder lot_cmp lot_key lots) where
  -- the amount of a contract, counted once for each of these lots to which it belongs
  abbrev at_lots : ContractRow → List LotRow → ℕ
  at_lots c ls = sum_over (λ (lot : LotRow). cond (is_of (lot_key lot) c) (w c) 0) ls

  found_weight : (c : ContractRow) (found : Option LotRow) → weight (λ (lot : LotRow). cond (of_line q lot) (w c) 0) found ≡ cond (holds_of (of_line q) found) (w c) 0
  found_weight c None = refl
  found_weight c (Some lot) = refl

  lot_of : (c : ContractRow) → at_lots c (filter (of_line q) lots) ≡ cond (is_on_line lots q c) (w c) 0
  lot_of c =
      sym (sum_over-map (λ m. m) (λ (lot : LotRow). cond (is_of (lot_key lot) c) (w c) 0) (filter (of_line q) lots))
      ∙ sum_over-filter (λ (lot : LotRow). cond (is_of (lot_key lot) c) (w c) 0) (of_line q) lots
      ∙ sum_over-ext (λ lot. cond (of_line q lot) (cond (is_of (lot_key lot) c) (w c) 0) 0) (λ lot. cond (eq_by_cmp lot_cmp (c.notice, c.lot) (lot_key lot)) (cond (of_line q lot) (w c) 0) 0) lots
      (λ lot. swap_conds (of_line q lot) (is_of (lot_key lot) c) (w c) ∙ ap (λ b. cond b (cond (of_line q lot) (w c) 0) 0) (is_of-compares (lot_key lot) c))
      ∙ sum_over-one lots_total lot_key (λ (lot : LotRow). cond (of_line q lot) (w c) 0) (c.notice, c.lot) lots order
      ∙ found_weight c (find_lot lots (c.notice, c.lot))

  -- the order of the two sums, over lots and over contracts, may be exchanged
  turned : (ls : List LotRow) (cs : List ContractRow) → sum_over (λ (lot : LotRow). sum_over (λ c. cond (is_of (lot_key lot) c) (w c) 0) cs) ls ≡ sum_over (λ c. at_lots c ls) cs
  turned [] cs = sym (sum_over-zero cs)
  turned (lot ∷ ls) cs = omega (arith, turned ls cs, sum_over-plus (λ c. cond (is_of (lot_key lot) c) (w c) 0) (λ c. at_lots c ls) cs)

  joined : (cs : List ContractRow) → sum_over (λ (lot : LotRow). sum_over (λ c. cond (is_of (lot_key lot) c) (w c) 0) cs) (filter (of_line q) lots) ≡ sum_over (λ c. cond (is_on_line lots q c) (w c) 0) cs
  joined cs = turned (filter (of_line q) lots) cs ∙ sum_over-ext (λ c. at_lots c (filter (of_line q) lots)) (λ c. cond (is_on_line lots q c) (w c) 0) cs lot_of

-- a sum over contracts collected lot by lot is a double sum over lots and contracts
under : (t : Tables) (f : ContractSums → ℕ) (ls : List LotRow)
    → sum_over f (sums_under t ls) ≡ sum_over (λ (lot : LotRow). sum_over (λ c. cond (is_of (lot_key lot) c) (f (sums_of t.entries c)) 0) t.contracts) ls
under t f [] = refl
under t f (lot ∷ ls) = omega (
  arith,
  sum_over-append_map f (sums_of t.entries) (contracts_of_lot (lot_key lot) t) (sums_under t ls),
  sum_over-map (λ m. m) (λ c. f (sums_of t.entries c)) (contracts_of_lot (lot_key lot) t),
  sum_over-filter (λ c. f (sums_of t.entries c)) (is_of (lot_key lot)) t.contracts,
  under t f ls,
)

module _ (t : Tables) (sorted : IsSorted t) (q : List ℕ) where
  pub joined_sum : (f : ContractSums → ℕ) → sum_over f (sums_of_line q t) ≡ sum_over (λ c. f (sums_of t.entries c)) (contracts_of_line q t)
  joined_sum f =
      under t f (lots_of_line q t)
      ∙ joined (λ c. f (sums_of t.entries c)) q t.lots sorted.lots t.contracts
      ∙ sym (sum_over-filter (λ c. f (sums_of t.entries c)) (is_on_line t.lots q) t.contracts)
      ∙ sum_over-map (λ m. m) (λ c. f (sums_of t.entries c)) (contracts_of_line q t)

  amounts_sum : (f : ContractSums → ℕ) → sum_over f (sums_of_line q t) ≡ sum_over (λ m. m) (map (λ c. f (sums_of t.entries c)) (contracts_of_line q t))
  amounts_sum f = joined_sum f ∙ sym (sum_over-map (λ m. m) (λ c. f (sums_of t.entries c)) (contracts_of_line q t))

-- if no excess is left in total, no contract has an excess
all_from_zero : {X : Type 0} (f g : X → ℕ) (xs : List X) → sum_over (λ x. f x - g x) xs ≡ 0 → AllByRecursion (λ x. f x ≤ g x) xs
all_from_zero f g [] h = tt
all_from_zero f g (x ∷ xs) h = (omega (arith, h), all_from_zero f g xs (omega (arith, h)))

zero_from_all : {X : Type 0} (f g : X → ℕ) (xs : List X) → AllByRecursion (λ x. f x ≤ g x) xs → sum_over (λ x. f x - g x) xs ≡ 0
zero_from_all f g [] h = refl
zero_from_all f g (x ∷ xs) h = omega (arith, h.0, zero_from_all f g xs h.1)

module _ (t : Tables) (sorted : IsSorted t) (row : LineRow) where
  abbrev sums : List ContractSums
  sums = sums_of_line row.line t

  abbrev contracts : List ContractRow
  contracts = contracts_of_line row.line t

  overdrawn : sum_over (λ (s : ContractSums). s.lost - s.gained) sums ≡ sum_over (λ c. minus t.entries c - plus t.entries c) contracts
  overdrawn = joined_sum t sorted row.line (λ (s : ContractSums). s.lost - s.gained)

  contracted_is : sum_over outstanding_in sums ≡ sum_over (λ m. m) (map (outstanding t.entries) contracts)
  contracted_is = amounts_sum t sorted row.line outstanding_in

  paid_is : sum_over paid_in sums ≡ sum_over (λ m. m) (map (paid_under t.entries) contracts)
  paid_is = amounts_sum t sorted row.line paid_in

  line_fits : SumsFit (reservations row.line t) sums → LineFits row.line t
  line_fits h = record {
    within = all_from_zero (minus t.entries) (plus t.entries) contracts
        (sym overdrawn ∙ zero_from_all (λ (s : ContractSums). s.lost) (λ (s : ContractSums). s.gained) sums h.within);
    reserved_fits = h.reserved_fits;
    contracted_fits = omega (arith, h.contracted_fits, contracted_is);
    paid_fits = omega (arith, h.paid_fits, paid_is);
  }

  sums_fit : LineFits row.line t → SumsFit (reservations row.line t) sums
  sums_fit h = record {
    within = all_from_zero (λ (s : ContractSums). s.lost) (λ (s : ContractSums). s.gained) sums (overdrawn ∙ zero_from_all (minus t.entries) (plus t.entries) contracts h.within);
    reserved_fits = h.reserved_fits;
    contracted_fits = omega (arith, h.contracted_fits, contracted_is);
    paid_fits = omega (arith, h.paid_fits, paid_is);
  }

pub joined_sums : JoinedSums
joined_sums t sorted row =
    let are : pots_with row (reservations row.line t) (sums_of_line row.line t) ≡ Rattle.office_base.specs.Joined.pots_of row t =
    ap (λ n. record { appropriation = row.appropriation; free = row.free; reserved = sum_over (λ amount. amount) (reservations row.line t); contracted = n; paid = sum_over paid_in (sums_of_line row.line t) }) (contracted_is t sorted row)
    ∙ ap (λ n. record { appropriation = row.appropriation; free = row.free; reserved = sum_over (λ amount. amount) (reservations row.line t); contracted = Rattle.office_base.specs.Joined.contracted row.line t; paid = n }) (paid_is t sorted row)
    in
    record { pots = are; fits = (line_fits t sorted row, sums_fit t sorted row) }
