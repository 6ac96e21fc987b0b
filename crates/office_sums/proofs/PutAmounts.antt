-- One change that doesn't touch a line leaves the amounts that add up to its sums.
use Rattle.office_sums.proofs.Names.{◌≡◌, ℕ, ◌+◌, Bool, true, false, cond, ◌&&◌, List, [], ◌∷◌, map, filter, Option, Some, None, refl, sym, ap, ◌∙◌, arith, AllByRecursion, nat_cmp, eq_by_cmp, nat_cmp-IsAntisymmetric, nat_cmp_total, is_raise, is_payment, is_less, holds_of, Tables, IsSorted, lot_cmp, entry_cmp, same_number, lot_key, contract_key, entry_key, find_lot, put_lot, find_contract, find_entry, put_entry, of_line, after_put, entry_sum, is_on_line, sums_of, reservations, LotRow, ContractRow, EntryKind, EntryRow, ContractSums, Put, lots_exact, entries_exact, equal_keys, lots_total, entries_total, row_at-row_put, each_found, found_compares, IsKeyed, weight, sum_over-put, lines_of_lot, lines_of_contract, touched, IsNoneOf, joined_amounts}
use Rattle.office_base.specs.declared.puts.Put.TheVariants as puts
use Rattle.office_sums.proofs.NoneOf.{none_of_first, none_of_second}
use Rattle.office_sums.proofs.PutRows.{filter-put, filter-ext, map-filter-ext}

-- a lot that isn't on the line, or that doesn't exist
pub lot_apart : (line : List ℕ) (lot : Option LotRow) → IsNoneOf line (lines_of_lot lot) → holds_of (of_line line) lot ≡ false
lot_apart line None h = refl
lot_apart line (Some lot) h = h.0

-- a contract that doesn't exist, or whose lot isn't on the line
pub contract_apart : (line : List ℕ) (t : Tables) (c : Option ContractRow) → IsNoneOf line (lines_of_contract t c) → holds_of (is_on_line t.lots line) c ≡ false
contract_apart line t None h = refl
contract_apart line t (Some c) h = lot_apart line (find_lot t.lots (c.notice, c.lot)) h

-- a lot brings no contract to the line and takes none from it, if it is on the line exactly if the replaced one is
module _ (line : List ℕ) (lots : List LotRow) (l : LotRow) (same : of_line line l ≡ holds_of (of_line line) (find_lot lots (lot_key l))) where
  lot_step : (k : List ℕ × List ℕ) (b : Bool) → eq_by_cmp lot_cmp k (lot_key l) ≡ b
      → holds_of (of_line line) (cond b (Some l) (find_lot lots k)) ≡ holds_of (of_line line) (find_lot lots k)
  lot_step k true e = same ∙ sym (ap (λ k. holds_of (of_line line) (find_lot lots k)) (equal_keys lots_exact k (lot_key l) e))
  lot_step k false e = refl

  pub on_line-put_lot : (c : ContractRow) → is_on_line (put_lot lots l) line c ≡ is_on_line lots line c
  on_line-put_lot c =
      ap (holds_of (of_line line)) (row_at-row_put lots_total lot_key lots l (c.notice, c.lot))
      ∙ lot_step (c.notice, c.lot) (eq_by_cmp lot_cmp (c.notice, c.lot) (lot_key l)) refl

-- a changed entry leaves the sums of each other contract
module _ (entries : List EntryRow) (e : EntryRow) (contract : ℕ) (other : same_number e.contract contract ≡ false) where
  abbrev amount_of : (EntryKind → Bool) → EntryRow → ℕ
  amount_of kind e = cond (kind e.kind && same_number e.contract contract) e.amount 0

  no_amount : (kind : EntryKind → Bool) (x : EntryRow) → same_number x.contract contract ≡ false → amount_of kind x ≡ 0
  no_amount kind x h = elim (kind x.kind) as (λ b. cond (b && same_number x.contract contract) x.amount 0 ≡ 0) [ true ↦ ap (λ b. cond b x.amount 0) h | false ↦ refl ]

  old_step : (kind : EntryKind → Bool) (found : Option EntryRow) → find_entry entries (entry_key e) ≡ found → weight (amount_of kind) found ≡ 0
  old_step kind None is = refl
  old_step kind (Some x) is =
      let same : entry_key e ≡ entry_key x = entries_exact (entry_key e) (entry_key x) (found_compares entries_total entry_key (entry_key e) x entries is) in
      no_amount kind x (ap (λ (k : ℕ × List ℕ). same_number k.0 contract) (sym same) ∙ other)

  entry_sum-put : (kind : EntryKind → Bool) → entry_sum kind (put_entry entries e) contract ≡ entry_sum kind entries contract
  entry_sum-put kind = omega (arith, sum_over-put entry_cmp entry_key (amount_of kind) entries e, old_step kind (find_entry entries (entry_key e)) refl, no_amount kind e other)

three : ℕ → ℕ → ℕ → ContractSums
three a b c = record { gained = a; lost = b; paid = c }

pub sums_of-put : (entries : List EntryRow) (e : EntryRow) (c : ContractRow) → same_number e.contract c.contract ≡ false → sums_of (put_entry entries e) c ≡ sums_of entries c
sums_of-put entries e c other =
    ap (λ n. record { gained = c.signed + n; lost = entry_sum is_less (put_entry entries e) c.contract + c.released; paid = entry_sum is_payment (put_entry entries e) c.contract }) (entry_sum-put entries e c.contract other is_raise)
    ∙ ap (λ n. record { gained = c.signed + entry_sum is_raise entries c.contract; lost = n + c.released; paid = entry_sum is_payment (put_entry entries e) c.contract }) (entry_sum-put entries e c.contract other is_less)
    ∙ ap (λ n. record { gained = c.signed + entry_sum is_raise entries c.contract; lost = entry_sum is_less entries c.contract + c.released; paid = n }) (entry_sum-put entries e c.contract other is_payment)

pub numbers_keyed : IsKeyed nat_cmp contract_key
numbers_keyed = record { total = nat_cmp_total; exact = nat_cmp-IsAntisymmetric }

module _ (line : List ℕ) (t : Tables) (e : EntryRow) (apart : holds_of (is_on_line t.lots line) (find_contract t.contracts e.contract) ≡ false) where
  contract_step : (c : ContractRow) → find_contract t.contracts c.contract ≡ Some c → (b : Bool) → same_number e.contract c.contract ≡ b
      → is_on_line t.lots line c ≡ true → sums_of (put_entry t.entries e) c ≡ sums_of t.entries c
  contract_step c found true same on =
      let is : find_contract t.contracts e.contract ≡ Some c = ap (find_contract t.contracts) (equal_keys nat_cmp-IsAntisymmetric e.contract c.contract same) ∙ found in
      let not : true ≡ false = sym on ∙ sym (ap (holds_of (is_on_line t.lots line)) is) ∙ apart in
      absurd (let i : true ≡ false = not in cc)
  contract_step c found false same on = sums_of-put t.entries e c same

  each_contract : (cs : List ContractRow) → AllByRecursion (λ c. find_contract t.contracts (contract_key c) ≡ Some c) cs
      → AllByRecursion (λ c. is_on_line t.lots line c ≡ true → sums_of (put_entry t.entries e) c ≡ sums_of t.entries c) cs
  each_contract [] h = tt
  each_contract (c ∷ cs) h = (contract_step c h.0 (same_number e.contract c.contract) refl, each_contract cs h.1)

-- one change
pub amounts-put : (p : Put) (t : Tables) (line : List ℕ) → IsSorted t → IsNoneOf line (touched p t) → joined_amounts line (after_put p t) ≡ joined_amounts line t
amounts-put (puts.Lot l) t line sorted h =
    let old : holds_of (of_line line) (find_lot t.lots (lot_key l)) ≡ false = lot_apart line (find_lot t.lots (lot_key l)) h.1 in
    ap (λ (ls : List LotRow). record { reserved = map (λ (lot : LotRow). lot.reserved) ls; contracts = map (sums_of t.entries) (filter (is_on_line (put_lot t.lots l) line) t.contracts) })
    (filter-put lot_cmp lot_key (of_line line) t.lots l h.0 old)
    ∙ ap (λ (cs : List ContractRow). record { reserved = reservations line t; contracts = map (sums_of t.entries) cs })
    (filter-ext (is_on_line (put_lot t.lots l) line) (is_on_line t.lots line) (on_line-put_lot line t.lots l (h.0 ∙ sym old)) t.contracts)
amounts-put (puts.Contract c) t line sorted h =
    ap (λ (cs : List ContractRow). record { reserved = reservations line t; contracts = map (sums_of t.entries) cs })
    (filter-put nat_cmp contract_key (is_on_line t.lots line) t.contracts c
    (contract_apart line t (Some c) (none_of_first line (lines_of_contract t (Some c)) (lines_of_contract t (find_contract t.contracts c.contract)) h))
    (contract_apart line t (find_contract t.contracts c.contract) (none_of_second line (lines_of_contract t (Some c)) (lines_of_contract t (find_contract t.contracts c.contract)) h)))
amounts-put (puts.Entry e) t line sorted h =
    ap (λ (sums : List ContractSums). record { reserved = reservations line t; contracts = sums })
    (map-filter-ext (sums_of (put_entry t.entries e)) (sums_of t.entries) (is_on_line t.lots line) t.contracts
    (each_contract line t e (contract_apart line t (find_contract t.contracts e.contract) h) t.contracts (each_found numbers_keyed t.contracts sorted.contracts)))
amounts-put _ t line sorted h = refl
