-- How the sums over joined rows change with a row.
use Rattle.office_machine.proofs.Names.{◌≡◌, ℕ, ◌+◌, Bool, true, false, cond, ◌&&◌, List, [], ◌∷◌, filter, Option, Some, None, refl, sym, ◌∙◌, ap, subst, arith, nat_cmp, eq_by_cmp, same_id, same_number, Tables, of_line, lot_cmp, entry_cmp, lot_key, contract_key, entry_key, find_line, put_line, find_lot, put_lot, find_contract, put_contract, find_entry, put_entry, holds_of, IsInOrder, EntryKind, LineRow, LotRow, ContractRow, EntryRow, appropriation_in, free_in, entry_sum, is_on_line, outstanding, paid_under, reserved, contracted, paid, sum_over-ext, sum_over-filter, same_id_is, equal_ids, equal_keys, lots_exact, row_at-row_put, sum_over-put_new}
use Rattle.office_machine.proofs.Accounts.Kept.{reserved_by, reserved_over, over_contracts}
use Rattle.office_machine.proofs.Rows.Keyed.{sum-replaced, sum-gains, found_put, elsewhere}
use Rattle.office_machine.proofs.Rows.Keyed as by

-- the lot exists and is on the line
abbrev pub is_of : Option LotRow → List ℕ → Bool
is_of o q = holds_of (of_line q) o

-- a lot that is put again on its line leaves the lots of each line as they are
pub line_kept : (lots : List LotRow) (l l' : LotRow) → find_lot lots (lot_key l') ≡ Some l → l'.line ≡ l.line → (j : List ℕ × List ℕ) (q : List ℕ) → is_of (find_lot (put_lot lots l') j) q ≡ is_of (find_lot lots j) q
line_kept lots l l' is same j q = ap (λ o. is_of o q) (row_at-row_put by.lots.total lot_key lots l' j) ∙ of (eq_by_cmp lot_cmp j (lot_key l')) refl
  where
    of : (b : Bool) → eq_by_cmp lot_cmp j (lot_key l') ≡ b → is_of (cond b (Some l') (find_lot lots j)) q ≡ is_of (find_lot lots j) q
    of true e = ap (λ n. same_id n q) same ∙ ap (λ o. is_of o q) (sym (ap (find_lot lots) (equal_keys lots_exact j (lot_key l') e) ∙ is))
    of false e = refl

pub over_contracts-lot_kept : (w : ContractRow → ℕ) (lots : List LotRow) (cs : List ContractRow) (l l' : LotRow) (q : List ℕ) → find_lot lots (lot_key l') ≡ Some l → l'.line ≡ l.line → over_contracts w (put_lot lots l') cs q ≡ over_contracts w lots cs q
over_contracts-lot_kept w lots cs l l' q is same = sum_over-ext _ _ cs (λ r. ap (λ b. cond b (w r) 0) (line_kept lots l l' is same (r.notice, r.lot) q))

pub over_contracts-new : (w : ContractRow → ℕ) (lots : List LotRow) (cs : List ContractRow) (r : ContractRow) (l : LotRow) (q : List ℕ) → find_contract cs r.contract ≡ None → find_lot lots (r.notice, r.lot) ≡ Some l → over_contracts w lots (put_contract cs r) q ≡ over_contracts w lots cs q + cond (same_id l.line q) (w r) 0
over_contracts-new w lots cs r l q is here = omega (arith, sum_over-put_new nat_cmp contract_key (λ (c : ContractRow). cond (is_on_line lots q c) (w c) 0) cs r is, ap (λ o. cond (is_of o q) (w r) 0) here)

pub over_contracts-replaced : (w : ContractRow → ℕ) (lots : List LotRow) (cs : List ContractRow) (r r' : ContractRow) (l : LotRow) (q : List ℕ) → find_contract cs r'.contract ≡ Some r → find_lot lots (r.notice, r.lot) ≡ Some l → find_lot lots (r'.notice, r'.lot) ≡ Some l → over_contracts w lots (put_contract cs r') q + cond (same_id l.line q) (w r) 0 ≡ over_contracts w lots cs q + cond (same_id l.line q) (w r') 0
over_contracts-replaced w lots cs r r' l q is here here' =
    omega (arith, sum-replaced nat_cmp contract_key (λ (c : ContractRow). cond (is_on_line lots q c) (w c) 0) cs r' r is, ap (λ o. cond (is_of o q) (w r) 0) here, ap (λ o. cond (is_of o q) (w r') 0) here')

-- a sum over contracts gains the amount that one contract gains
pub over_contracts-gains : (w w' : ContractRow → ℕ) (d : ℕ) (lots : List LotRow) (cs : List ContractRow) (c : ℕ) (r : ContractRow) (l : LotRow) (q : List ℕ) → IsInOrder nat_cmp contract_key cs → find_contract cs c ≡ Some r → find_lot lots (r.notice, r.lot) ≡ Some l → ((x : ContractRow) → w' x ≡ w x + cond (same_number c x.contract) d 0) → over_contracts w' lots cs q ≡ over_contracts w lots cs q + cond (same_id l.line q) d 0
over_contracts-gains w w' d lots cs c r l q order is here h =
    omega (arith, sum-gains by.contracts (λ (x : ContractRow). cond (is_on_line lots q x) (w x) 0) (λ (x : ContractRow). cond (is_on_line lots q x) (w' x) 0) (λ (x : ContractRow). cond (is_on_line lots q x) d 0) cs c r order is (λ x. of (is_on_line lots q x) (same_number c x.contract) (w x) (w' x) (h x)), ap (λ o. cond (is_of o q) d 0) here)
  where
    of : (b k : Bool) (m m' : ℕ) → m' ≡ m + cond k d 0 → cond b m' 0 ≡ cond b m 0 + cond k (cond b d 0) 0
    of true k m m' e = e
    of false true m m' e = omega arith
    of false false m m' e = omega arith

pub over_contracts-agree : (w w' : ContractRow → ℕ) (lots : List LotRow) (cs : List ContractRow) (q : List ℕ) → ((x : ContractRow) → w' x ≡ w x) → over_contracts w' lots cs q ≡ over_contracts w lots cs q
over_contracts-agree w w' lots cs q h = sum_over-ext _ _ cs (λ x. ap (λ m. cond (is_on_line lots q x) m 0) (h x))

pub entry_sum-new : (kind : EntryKind → Bool) (es : List EntryRow) (r : EntryRow) (n : ℕ) → find_entry es (r.contract, r.entry) ≡ None → entry_sum kind (put_entry es r) n ≡ entry_sum kind es n + cond (kind r.kind && same_number r.contract n) r.amount 0
entry_sum-new kind es r n is = sum_over-put_new entry_cmp entry_key (λ (e : EntryRow). cond (kind e.kind && same_number e.contract n) e.amount 0) es r is

pub reserved-replaced : (lots : List LotRow) (l l' : LotRow) (q : List ℕ) → find_lot lots (lot_key l') ≡ Some l → l'.line ≡ l.line → reserved_over q (put_lot lots l') + cond (same_id l.line q) l.reserved 0 ≡ reserved_over q lots + cond (same_id l.line q) l'.reserved 0
reserved-replaced lots l l' q is same =
    omega (arith, sum-replaced lot_cmp lot_key (reserved_by q) lots l' l is, ap (λ n. cond (same_id n q) l'.reserved 0) same)

-- only the free amount of lines changes: this much is taken from a line, and this much is given to it
pub record FreeChanged (m m' : List LineRow) (q : List ℕ) (taken given : ℕ) : Type 0 where
  pub free_is : free_in (find_line m' q) + taken ≡ free_in (find_line m q) + given
  pub appropriation_is : appropriation_in (find_line m' q) ≡ appropriation_in (find_line m q)

pub free-replaced : (m : List LineRow) (r : LineRow) (n : ℕ) (q : List ℕ) → find_line m r.line ≡ Some r → FreeChanged m (put_line m (record r { free = n })) q (cond (same_id r.line q) r.free 0) (cond (same_id r.line q) n 0)
free-replaced m r n q is = of (same_id r.line q) refl
  where
    of : (b : Bool) → same_id r.line q ≡ b → FreeChanged m (put_line m (record r { free = n })) q (cond b r.free 0) (cond b n 0)
    of true e =
        let i : r.line ≡ q = equal_ids r.line q e in
        let j = ap (find_line (put_line m (record r { free = n }))) (sym i) ∙ found_put by.lines m (record r { free = n }) in
        let k = ap (find_line m) (sym i) ∙ is in
        record { free_is = omega (arith, ap free_in j, ap free_in k); appropriation_is = ap appropriation_in j ∙ sym (ap appropriation_in k) }
    of false e =
        let j = elsewhere by.lines m (record r { free = n }) q (sym (same_id_is r.line q) ∙ e) in
        record { free_is = omega (arith, ap free_in j); appropriation_is = ap appropriation_in j }

-- the reserved amount of a line, as a sum over all lots
pub reserved_is_over : (q : List ℕ) (t : Tables) → reserved q t ≡ reserved_over q t.lots
reserved_is_over q t = sum_over-filter (λ (lot : LotRow). lot.reserved) (of_line q) t.lots

pub contracted_is_over : (q : List ℕ) (t : Tables) → contracted q t ≡ over_contracts (outstanding t.entries) t.lots t.contracts q
contracted_is_over q t = sum_over-filter (outstanding t.entries) (is_on_line t.lots q) t.contracts

pub paid_is_over : (q : List ℕ) (t : Tables) → paid q t ≡ over_contracts (paid_under t.entries) t.lots t.contracts q
paid_is_over q t = sum_over-filter (paid_under t.entries) (is_on_line t.lots q) t.contracts

-- the sum of a contract's own entries is its sum over all entries
pub entry_sum-own : (kind : EntryKind → Bool) (es : List EntryRow) (n : ℕ) → entry_sum kind (filter (λ (e : EntryRow). same_number e.contract n) es) n ≡ entry_sum kind es n
entry_sum-own kind [] n = refl
entry_sum-own kind (e ∷ es) n =
    elim (same_number e.contract n) as (λ b. same_number e.contract n ≡ b → entry_sum kind (cond b (e ∷ filter (λ (e : EntryRow). same_number e.contract n) es) (filter (λ (e : EntryRow). same_number e.contract n) es)) n ≡ entry_sum kind (e ∷ es) n) [
      | true ↦ λ h. omega (arith, entry_sum-own kind es n)
      | false ↦ λ h. omega (arith, entry_sum-own kind es n, other (kind e.kind), ap (λ b. cond (kind e.kind && b) e.amount 0) h)
    ] refl
  where
    other : (b : Bool) → cond (b && false) e.amount 0 ≡ 0
    other true = refl
    other false = refl

pub outstanding-own : (es : List EntryRow) (n : ℕ) (c : ContractRow) → c.contract ≡ n → outstanding (filter (λ (e : EntryRow). same_number e.contract n) es) c ≡ outstanding es c
outstanding-own es n c is =
    subst (λ n. outstanding (filter (λ (e : EntryRow). same_number e.contract n) es) c ≡ outstanding es c) is
    (omega (arith, entry_sum-own Rattle.office_base.specs.EntryKinds.is_raise es c.contract, entry_sum-own Rattle.office_base.specs.EntryKinds.is_less es c.contract))
