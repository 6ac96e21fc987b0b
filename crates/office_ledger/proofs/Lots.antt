-- The rows of lots, one lot after another, and their sums.
use Rattle.office_ledger.proofs.Names.{◌≡◌, ℕ, ◌+◌, Bool, true, false, cond, ◌&&◌, List, [], ◌∷◌, ◌++◌, map, flat_map, Option, Some, None, refl, sym, ap, ◌∙◌, arith, nat_cmp, is_eq, eq_by_cmp, ordering_then, Ordering, Less, Equal, Greater, nat_cmp_total, tied_itself, texts_ties, nat_list_cmp_total, id_cmp, same_id, StartsAbove, IsInOrder, sum_over, Tables, IsSorted, lot_cmp, lot_key, contract_key, contracts_of_lot, sums_of, sums_under, outstanding_in, paid_in, ContractSums, ContractRow, LotRow, with_contract, joined_contract, joined_lot, overdrawn_in, with_sums, settle, settled, is_contract, is_lot, take_perhaps, take_entry, enter_contract, take_contract, lot_opened, enter_lot, take_lot, fold_rows, JoinedEntry, JoinedContract, OpenContract, LineSums, in_order-filter}
use Rattle.office_ledger.proofs.Contracts.{counted, ContractsAbove, contracts_taken}
use Rattle.office_ledger.proofs.Taken.{fold_rows-flat_map, grouped}

-- ---- keys of lots

then_eq : (a b : Ordering) → is_eq (ordering_then a b) ≡ is_eq a && is_eq b
then_eq Less b = refl
then_eq Equal b = refl
then_eq Greater b = refl

pub same_key : (a b : List ℕ × List ℕ) → same_id a.0 b.0 && same_id a.1 b.1 ≡ eq_by_cmp lot_cmp a b
same_key a b =
    ap (λ z. z && same_id a.1 b.1) (texts_ties a.0 b.0)
    ∙ ap (λ z. eq_by_cmp id_cmp a.0 b.0 && z) (texts_ties a.1 b.1)
    ∙ sym (then_eq (id_cmp a.0 b.0) (id_cmp a.1 b.1))

pub same_itself : (a : List ℕ × List ℕ) → same_id a.0 a.0 && same_id a.1 a.1 ≡ true
same_itself a = same_key a a ∙ ap is_eq (ap (λ c. ordering_then c (id_cmp a.1 a.1)) (tied_itself nat_list_cmp_total a.0) ∙ tied_itself nat_list_cmp_total a.1)

-- ---- the rows of a contract keep the lot

settle_lot : (current : Option OpenContract) (s : LineSums) → (settle current s).lot ≡ s.lot
settle_lot None s = refl
settle_lot (Some current) s = refl

enter_contract_lot : (c : JoinedContract) (s : LineSums) (b : Bool) → (cond b s (record (settled s) { contract = Some (Rattle.office_ledger.specs.Inside.Adding.opened c) })).lot ≡ s.lot
enter_contract_lot c s true = refl
enter_contract_lot c s false = settle_lot s.contract s

perhaps_entry_lot : (e : Option JoinedEntry) (s : LineSums) → (take_perhaps take_entry e s).lot ≡ s.lot
perhaps_entry_lot None s = refl
perhaps_entry_lot (Some e) s = refl

contract_lot : (c : JoinedContract) (s : LineSums) → (take_contract c s).lot ≡ s.lot
contract_lot c s = perhaps_entry_lot c.entry (enter_contract c s) ∙ enter_contract_lot c s (is_contract c.contract s.contract)

-- ---- a lot

settle_none : (current : Option OpenContract) (s : LineSums) → current ≡ s.contract → (settle current s).contract ≡ None
settle_none None s e = sym e
settle_none (Some current) s e = refl

module _ (t : Tables) (sorted : IsSorted t) (l : LotRow) where
  abbrev enter : LineSums → LineSums
  enter s = enter_lot (with_contract l None) s

  abbrev IsIn : LineSums → Type 0
  IsIn s = is_lot (lot_key l) s.lot ≡ true

  entered_by : (b : Bool) (s : LineSums) → is_lot (lot_key l) s.lot ≡ b → is_lot (lot_key l) (cond b s (lot_opened (with_contract l None) (settled s))).lot ≡ true
  entered_by true s e = e
  entered_by false s e = same_itself (lot_key l)

  stays : (s : LineSums) → IsIn s → enter s ≡ s
  stays s h = rw h refl

  abbrev contracts : List ContractRow
  contracts = contracts_of_lot (lot_key l) t

  contracts_in_order : IsInOrder nat_cmp contract_key contracts
  contracts_in_order = in_order-filter nat_cmp_total contract_key _ t.contracts sorted.contracts

  abbrev lot_begun : LineSums → LineSums
  lot_begun s = lot_opened (with_contract l None) s

  none_above : (current : Option OpenContract) → current ≡ None → ContractsAbove t current contracts
  none_above None e = tt
  none_above (Some current) e = absurd (cc)

  settled_again : (s : LineSums) → s.contract ≡ None → settled s ≡ s
  settled_again s e = rw e refl

  -- the sums after the lot's rows, with its last contract
  abbrev pub lot_sums : LineSums → LineSums
  lot_sums s = counted t (map (sums_of t.entries) contracts) (lot_begun s)

  lot_rows : (s : LineSums) → is_lot (lot_key l) s.lot ≡ false → fold_rows take_lot (joined_lot t l) s ≡ fold_rows (λ c. fold_rows take_contract (joined_contract t c)) contracts (lot_begun (settled s))
  lot_rows s new =
      grouped take_lot (with_contract l) enter take_contract IsIn (λ s. refl) (λ c s. refl) (λ s. entered_by (is_lot (lot_key l) s.lot) s refl) (λ c s h. ap (is_lot (lot_key l)) (contract_lot c s) ∙ h) stays
      (flat_map (joined_contract t) contracts) s
      ∙ ap (λ b. fold_rows take_contract (flat_map (joined_contract t) contracts) (cond b s (lot_begun (settled s)))) new
      ∙ fold_rows-flat_map take_contract (joined_contract t) contracts (lot_begun (settled s))

  pub lot_taken : (s : LineSums) → is_lot (lot_key l) s.lot ≡ false
      → (settled (fold_rows take_lot (joined_lot t l) s) ≡ lot_sums (settled s)) × ((fold_rows take_lot (joined_lot t l) s).lot ≡ Some (lot_key l))
  lot_taken s new =
      let none : (lot_begun (settled s)).contract ≡ None = settle_none s.contract s refl in
      let rest = contracts_taken t contracts (lot_begun (settled s)) contracts_in_order (none_above (lot_begun (settled s)).contract none) in
      (ap settled (lot_rows s new) ∙ rest.0 ∙ ap (counted t (map (sums_of t.entries) contracts)) (settled_again (lot_begun (settled s)) none), ap (λ (z : LineSums). z.lot) (lot_rows s new) ∙ rest.1)

-- ---- several lots, in the order of their keys

module _ (t : Tables) (sorted : IsSorted t) where
  abbrev pub lots_sums : List LotRow → LineSums → LineSums
  lots_sums [] s = s
  lots_sums (l ∷ ls) s = lots_sums ls (lot_sums t sorted l s)

  abbrev pub LotsAbove : Option (List ℕ × List ℕ) → List LotRow → Type 0
  LotsAbove None ls = Unit {0}
  LotsAbove (Some current) ls = StartsAbove lot_cmp lot_key current ls

  pub not_open : (current : Option (List ℕ × List ℕ)) (l : LotRow) (ls : List LotRow) → LotsAbove current (l ∷ ls) → is_lot (lot_key l) current ≡ false
  not_open None l ls h = refl
  not_open (Some current) l ls h = same_key current (lot_key l) ∙ ap is_eq h

  abbrev take_all : List LotRow → LineSums → LineSums
  take_all ls s = fold_rows (λ l. fold_rows take_lot (joined_lot t l)) ls s

  pub lots_taken : (ls : List LotRow) (s : LineSums) → IsInOrder lot_cmp lot_key ls → LotsAbove s.lot ls → settled (take_all ls s) ≡ lots_sums ls (settled s)
  lots_taken [] s order above = refl
  lots_taken (l ∷ ls) s order above =
      let here = lot_taken t sorted l s (not_open s.lot l ls above) in
      lots_taken ls (fold_rows take_lot (joined_lot t l) s) order.1 (subst_above (fold_rows take_lot (joined_lot t l) s).lot here.1) ∙ ap (lots_sums ls) here.0
    where
      subst_above : (current : Option (List ℕ × List ℕ)) → current ≡ Some (lot_key l) → LotsAbove current ls
      subst_above current e = rw e order.0

  -- ---- their sums

  counted_outstanding : (xs : List ContractSums) (s : LineSums) → (counted t xs s).outstanding ≡ s.outstanding + sum_over outstanding_in xs
  counted_outstanding [] s = omega arith
  counted_outstanding (x ∷ xs) s = omega (arith, counted_outstanding xs (with_sums x s))

  counted_overdrawn : (xs : List ContractSums) (s : LineSums) → (counted t xs s).overdrawn ≡ s.overdrawn + sum_over overdrawn_in xs
  counted_overdrawn [] s = omega arith
  counted_overdrawn (x ∷ xs) s = omega (arith, counted_overdrawn xs (with_sums x s))

  counted_paid : (xs : List ContractSums) (s : LineSums) → (counted t xs s).paid ≡ s.paid + sum_over paid_in xs
  counted_paid [] s = omega arith
  counted_paid (x ∷ xs) s = omega (arith, counted_paid xs (with_sums x s))

  counted_reserved : (xs : List ContractSums) (s : LineSums) → (counted t xs s).reserved ≡ s.reserved
  counted_reserved [] s = refl
  counted_reserved (x ∷ xs) s = counted_reserved xs (with_sums x s)

  sum_over-append : (f : ContractSums → ℕ) (xs ys : List ContractSums) → sum_over f (xs ++ ys) ≡ sum_over f xs + sum_over f ys
  sum_over-append f [] ys = omega arith
  sum_over-append f (x ∷ xs) ys = omega (arith, sum_over-append f xs ys)

  abbrev sums_here : LotRow → List ContractSums
  sums_here l = map (sums_of t.entries) (contracts_of_lot (lot_key l) t)

  pub reserved_are : (ls : List LotRow) (s : LineSums) → (lots_sums ls s).reserved ≡ s.reserved + sum_over (λ n. n) (map (λ (l : LotRow). l.reserved) ls)
  reserved_are [] s = omega arith
  reserved_are (l ∷ ls) s = omega (arith, reserved_are ls (lot_sums t sorted l s), counted_reserved (sums_here l) (lot_opened (with_contract l None) s))

  pub outstanding_are : (ls : List LotRow) (s : LineSums) → (lots_sums ls s).outstanding ≡ s.outstanding + sum_over outstanding_in (sums_under t ls)
  outstanding_are [] s = omega arith
  outstanding_are (l ∷ ls) s = omega (arith, outstanding_are ls (lot_sums t sorted l s), counted_outstanding (sums_here l) (lot_opened (with_contract l None) s), sum_over-append outstanding_in (sums_here l) (sums_under t ls))

  pub overdrawn_are : (ls : List LotRow) (s : LineSums) → (lots_sums ls s).overdrawn ≡ s.overdrawn + sum_over overdrawn_in (sums_under t ls)
  overdrawn_are [] s = omega arith
  overdrawn_are (l ∷ ls) s = omega (arith, overdrawn_are ls (lot_sums t sorted l s), counted_overdrawn (sums_here l) (lot_opened (with_contract l None) s), sum_over-append overdrawn_in (sums_here l) (sums_under t ls))

  pub paid_are : (ls : List LotRow) (s : LineSums) → (lots_sums ls s).paid ≡ s.paid + sum_over paid_in (sums_under t ls)
  paid_are [] s = omega arith
  paid_are (l ∷ ls) s = omega (arith, paid_are ls (lot_sums t sorted l s), counted_paid (sums_here l) (lot_opened (with_contract l None) s), sum_over-append paid_in (sums_here l) (sums_under t ls))
