-- A contract gets an entry.
use Rattle.office_machine.proofs.Names.{◌≡◌, ◌||◌, ℕ, ◌+◌, ◌-◌, ◌≤◌, Bool, true, false, cond, ◌&&◌, List, [], ◌∷◌, filter, Some, None, refl, sym, ◌∙◌, ap, subst, arith, nat_cmp-IsAntisymmetric, nat_cmp_total, list_any, Less, Equal, Greater, same_id, same_number, Tables, IsSorted, entry_cmp, find_lot, find_contract, find_entry, put_entry, by_order, row_at, is_raise, is_less, is_payment, LotRow, ContractRow, EntryRow, entry_sum, plus, minus, paid_under, is_taken, Given, reserved_for, brought, brought_by, taken, taken_by, equal_keys, same_itself, found_key, own_key}
use Rattle.office_machine.proofs.Accounts.Kept.{AccountsStand, ContractIs, NoContractIs, over_contracts}
use Rattle.office_machine.proofs.Accounts.Joins.{entry_sum-new, over_contracts-gains}
use Rattle.office_machine.proofs.Rows.Keyed as keyed
use Rattle.office_machine.proofs.Passed.{neither, both}

-- the entry belongs to this contract
abbrev is_of_contract : ℕ → EntryRow → Bool
is_of_contract c e = same_number e.contract c

later : (c : ℕ) (entry : List ℕ) (e : EntryRow) (es : List EntryRow) (b : Bool) → list_any (is_taken entry) (cond b (e ∷ filter (is_of_contract c) es) (filter (is_of_contract c) es)) ≡ false
    → list_any (is_taken entry) (filter (is_of_contract c) es) ≡ false
later c entry e es true h = (neither (is_taken entry e) (list_any (is_taken entry) (filter (is_of_contract c) es)) h).1
later c entry e es false h = h

clash : (c : ℕ) (entry : List ℕ) (e : EntryRow) (others : List EntryRow) → ◌≡◌ {A = ℕ × List ℕ} (c, entry) (e.contract, e.entry) → list_any (is_taken entry) (cond (is_of_contract c e) (e ∷ others) others) ≡ false → ⊥
clash c entry e others at h =
    let own : is_of_contract c e ≡ true = ap (λ (k : ℕ × List ℕ). same_number k.0 c) (sym at) ∙ own_key nat_cmp_total c in
    let taken : is_taken entry e ≡ true = ap (λ (k : ℕ × List ℕ). same_id k.1 entry) (sym at) ∙ same_itself entry in
    let first : (is_taken entry e || list_any (is_taken entry) others) ≡ false = ap (λ b. list_any (is_taken entry) (cond b (e ∷ others) others)) (sym own) ∙ h in
    let none : is_taken entry e ≡ false = (neither (is_taken entry e) (list_any (is_taken entry) others) first).0 in
    let both : true ≡ false = sym taken ∙ none in
    cc

-- an identifier that none of a contract's entries has is new
pub not_taken : (es : List EntryRow) (c : ℕ) (entry : List ℕ) → list_any (is_taken entry) (filter (is_of_contract c) es) ≡ false → find_entry es (c, entry) ≡ None
unfolding row_at
not_taken [] c entry h = refl
not_taken (e ∷ es) c entry h =
    elim (entry_cmp (c, entry) (e.contract, e.entry)) as (λ o. entry_cmp (c, entry) (e.contract, e.entry) ≡ o → by_order o None (Some e) (find_entry es (c, entry)) ≡ None) [
      | Less ↦ λ o. refl
      | Equal ↦ λ o. absurd (clash c entry e (filter (is_of_contract c) es) (keyed.entries.exact (c, entry) (e.contract, e.entry) o) h)
      | Greater ↦ λ o. not_taken es c entry (later c entry e es (is_of_contract c e) h)
    ] refl

module _ (x : Given) (xs : List Given) (s : Tables) (kept : AccountsStand xs s) (order : IsSorted s) (c : ℕ) (r : ContractRow) (l : LotRow) (row : EntryRow)
    (is : find_contract s.contracts c ≡ Some r) (lot : find_lot s.lots (r.notice, r.lot) ≡ Some l) (at : row.contract ≡ c) (new : find_entry s.entries (row.contract, row.entry) ≡ None)
    (comes : (n : ℕ) → brought_by x.before x.command (reserved_for xs) n ≡ cond (same_number c n) (cond (is_raise row.kind) row.amount 0) 0)
    (goes : (n : ℕ) → taken_by x.command (brought xs n - taken xs n) n ≡ cond (same_number c n) (cond (is_less row.kind) row.amount 0) 0)
    (enough : minus s.entries r + cond (is_less row.kind) row.amount 0 ≤ plus s.entries r + cond (is_raise row.kind) row.amount 0) where
  abbrev pub entered : List EntryRow
  entered = put_entry s.entries row

  abbrev up : ℕ
  up = cond (is_raise row.kind) row.amount 0

  abbrev down : ℕ
  down = cond (is_less row.kind) row.amount 0

  abbrev out : ℕ
  out = cond (is_payment row.kind) row.amount 0

  contract : ContractIs xs s c r
  contract = kept.contracts c r is

  here : (b : Bool) (n m : ℕ) → cond (b && same_number row.contract n) m 0 ≡ cond (same_number c n) (cond b m 0) 0
  here b n m = both b (same_number row.contract n) m ∙ ap (λ k. cond (same_number k n) (cond b m 0) 0) at

  raised : (n : ℕ) → entry_sum is_raise entered n ≡ entry_sum is_raise s.entries n + cond (same_number c n) up 0
  raised n = omega (arith, entry_sum-new is_raise s.entries row n new, here (is_raise row.kind) n row.amount)

  lessened : (n : ℕ) → entry_sum is_less entered n ≡ entry_sum is_less s.entries n + cond (same_number c n) down 0
  lessened n = omega (arith, entry_sum-new is_less s.entries row n new, here (is_less row.kind) n row.amount)

  paid_out : (n : ℕ) → entry_sum is_payment entered n ≡ entry_sum is_payment s.entries n + cond (same_number c n) out 0
  paid_out n = omega (arith, entry_sum-new is_payment s.entries row n new, here (is_payment row.kind) n row.amount)

  -- the sums over contracts gain the amount of the entry
  pub gains : (q : List ℕ) → over_contracts (plus entered) s.lots s.contracts q ≡ over_contracts (plus s.entries) s.lots s.contracts q + cond (same_id l.line q) up 0
  gains q = over_contracts-gains (plus s.entries) (plus entered) up s.lots s.contracts c r l q order.contracts is lot (λ y. omega (arith, raised y.contract))

  pub losses : (q : List ℕ) → over_contracts (minus entered) s.lots s.contracts q ≡ over_contracts (minus s.entries) s.lots s.contracts q + cond (same_id l.line q) down 0
  losses q = over_contracts-gains (minus s.entries) (minus entered) down s.lots s.contracts c r l q order.contracts is lot (λ y. omega (arith, lessened y.contract))

  pub payments : (q : List ℕ) → over_contracts (paid_under entered) s.lots s.contracts q ≡ over_contracts (paid_under s.entries) s.lots s.contracts q + cond (same_id l.line q) out 0
  payments q = over_contracts-gains (paid_under s.entries) (paid_under entered) out s.lots s.contracts c r l q order.contracts is lot (λ y. paid_out y.contract)

  -- tables with these entries, and with the contracts, lots and awards from before
  abbrev after : Tables → Tables
  after s' = record s' { lots = s.lots; awards = s.awards; contracts = s.contracts; entries = entered }

  pub contracts_are : (s' : Tables) (n : ℕ) (y : ContractRow) → find_contract s.contracts n ≡ Some y → ContractIs (x ∷ xs) (after s') n y
  contracts_are s' n y h = record {
    of_award = old.of_award;
    running = old.running;
    within = of (same_number c y.contract) refl;
    came_in = omega (arith, old.came_in, raised y.contract, comes n, ap (λ k. cond (same_number c k) up 0) own);
    went_out = omega (arith, old.went_out, lessened y.contract, goes n, ap (λ k. cond (same_number c k) down 0) own);
  }
    where
      old : ContractIs xs s n y
      old = kept.contracts n y h

      own : y.contract ≡ n
      own = found_key keyed.contracts s.contracts n y h

      of : (b : Bool) → same_number c y.contract ≡ b → minus entered y ≤ plus entered y
      of true i =
          let k : find_contract s.contracts c ≡ Some y = ap (find_contract s.contracts) (equal_keys nat_cmp-IsAntisymmetric c y.contract i ∙ own) ∙ h in
          let m : r ≡ y = cc in
          let fits : minus s.entries y + down ≤ plus s.entries y + up = subst (λ y. minus s.entries y + down ≤ plus s.entries y + up) m enough in
          omega (arith, fits, raised y.contract, lessened y.contract, ap (λ b. cond b up 0) i, ap (λ b. cond b down 0) i)
      of false i = omega (arith, old.within, raised y.contract, lessened y.contract, ap (λ b. cond b up 0) i, ap (λ b. cond b down 0) i)

  pub no_contract_are : (s' : Tables) (n : ℕ) → find_contract s.contracts n ≡ None → NoContractIs (x ∷ xs) (after s') n
  no_contract_are s' n h = record {
    came_in = omega (arith, old.came_in, comes n, other up);
    went_out = omega (arith, old.went_out, goes n, other down);
    raised = omega (arith, old.raised, raised n, other up);
    lessened = omega (arith, old.lessened, lessened n, other down);
    paid_out = omega (arith, old.paid_out, paid_out n, other out);
  }
    where
      old : NoContractIs xs s n
      old = kept.no_contract n h

      by : (b : Bool) (m : ℕ) → same_number c n ≡ b → cond b m 0 ≡ 0
      by true m i = let k : find_contract s.contracts c ≡ None = ap (find_contract s.contracts) (equal_keys nat_cmp-IsAntisymmetric c n i) ∙ h in cc
      by false m i = refl

      other : (m : ℕ) → cond (same_number c n) m 0 ≡ 0
      other m = by (same_number c n) m refl
