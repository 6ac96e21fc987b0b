-- The joined rows of lots give the sums of their contracts, lot by lot.
use Rattle.office_ledger.proofs.Names.{◌≡◌, ℕ, ◌-◌, ◌<◌, Bool, true, false, cond, ◌&&◌, List, [], ◌∷◌, ◌++◌, map, flat_map, Option, Some, None, Result, Ok, Err, OnOk, refl, sym, ap, ap₂, subst, ◌∙◌, arith, append_assoc, append-nil, nat_cmp, is_eq, nat_cmp_total, StartsAbove, IsInOrder, bare_sums, sums_with_entry, sums_with_entries, Tables, IsSorted, lot_cmp, lot_key, contract_key, same_number, lots_of_line, contracts_of_lot, entries_of_contract, sums_of, sums_under, sums_of_line, ContractSums, ContractRow, EntryRow, LotRow, ShelfFault, entry_part, with_entry, with_contract, joined_contract, joined_lot, joined_lots, Listing, HasListed, fold_rows, Listed, nothing_listed, all_listed, is_current, enter_listed, entry_of_current, list_entry, list_contract, list_lot, listed, nothing_reserved, list_reserved, CurrentContract, JoinedEntry, JoinedLot, sums_are, lots_total, in_order-filter}
use Rattle.office_ledger.proofs.Lots.{same_key, same_itself}
use Rattle.office_ledger.proofs.Contracts.{same_itself as same_number_itself}
use Rattle.office_ledger.proofs.Following.{length-snoc}
use Rattle.office_ledger.proofs.Taken.{fold_rows-append, fold_rows-flat_map, grouped}

-- ---- a contract

module _ (t : Tables) (x : LotRow) (c : ContractRow) where
  abbrev head : JoinedLot
  head = with_contract x None

  abbrev enter : Listed → Listed
  enter s = enter_listed head (with_entry c None) s

  abbrev IsIn : Listed → Type 0
  IsIn s = is_current head c.contract s.current ≡ true

  entered_by : (b : Bool) (s : Listed) → is_current head c.contract s.current ≡ b
      → is_current head c.contract (cond b s (record { done = all_listed s; current = Some (record { notice = x.notice; lot = x.lot; contract = c.contract; sums = bare_sums c }) })).current ≡ true
  entered_by true s e = e
  entered_by false s e = ap₂ ◌&&◌ (same_itself (lot_key x)) (same_number_itself c.contract)

  kept_by : (e : JoinedEntry) (current : Option CurrentContract) → is_current head c.contract current ≡ true → is_current head c.contract (entry_of_current e current) ≡ true
  kept_by e None h = h
  kept_by e (Some k) h = h

  stays : (s : Listed) → IsIn s → enter s ≡ s
  stays s h = rw h refl

  abbrev current_with : ContractSums → CurrentContract
  current_with sums = record { notice = x.notice; lot = x.lot; contract = c.contract; sums = sums }

  entries_listed : (es : List EntryRow) (done : List ContractSums) (sums : ContractSums)
      → fold_rows list_entry (map entry_part es) (record { done = done; current = Some (current_with sums) }) ≡ record { done = done; current = Some (current_with (sums_with_entries sums es)) }
  entries_listed [] done sums = refl
  entries_listed (e ∷ es) done sums = entries_listed es done (sums_with_entry e.kind e.amount sums)

  abbrev pub contract_listed : Listed → Listed
  contract_listed s = record { done = all_listed s; current = Some (current_with (sums_of t.entries c)) }

  pub one_contract : (s : Listed) → is_current head c.contract s.current ≡ false → fold_rows (list_contract head) (joined_contract t c) s ≡ contract_listed s
  one_contract s new =
      grouped (list_contract head) (with_entry c) enter list_entry IsIn (λ s. refl) (λ e s. refl) (λ s. entered_by (is_current head c.contract s.current) s refl) (λ e s h. kept_by e s.current h) stays
      (map entry_part (entries_of_contract c.contract t)) s
      ∙ ap (λ b. fold_rows list_entry (map entry_part (entries_of_contract c.contract t)) (cond b s (record { done = all_listed s; current = Some (current_with (bare_sums c)) }))) new
      ∙ entries_listed (entries_of_contract c.contract t) (all_listed s) (bare_sums c)
      ∙ ap (λ sums. record { done = all_listed s; current = Some (current_with sums) }) (sums_are t.entries c)

-- ---- the contracts of a lot

module _ (t : Tables) (x : LotRow) where
  abbrev head_of : JoinedLot
  head_of = with_contract x None

  -- the first of these contracts isn't the current one
  abbrev pub IsNew : Option CurrentContract → List ContractRow → Type 0
  IsNew current [] = Unit {0}
  IsNew current (c ∷ cs) = is_current head_of c.contract current ≡ false

  next_is_new : (c : ContractRow) (sums : ContractSums) (cs : List ContractRow) → StartsAbove nat_cmp contract_key c.contract cs → IsNew (Some (current_with t x c sums)) cs
  next_is_new c sums [] above = tt
  next_is_new c sums (d ∷ cs) above = ap₂ ◌&&◌ (same_itself (lot_key x)) (ap is_eq above)

  abbrev list_all : List ContractRow → Listed → Listed
  list_all cs s = fold_rows (λ c. fold_rows (list_contract head_of) (joined_contract t c)) cs s

  pub contracts_listed : (cs : List ContractRow) (s : Listed) → IsInOrder nat_cmp contract_key cs → IsNew s.current cs → all_listed (list_all cs s) ≡ all_listed s ++ map (sums_of t.entries) cs
  contracts_listed [] s order new = sym (append-nil (all_listed s))
  contracts_listed (c ∷ cs) s order new =
      ap (λ z. all_listed (list_all cs z)) (one_contract t x c s new)
      ∙ contracts_listed cs (contract_listed t x c s) order.1 (next_is_new c (sums_of t.entries c) cs order.0)
      ∙ append_assoc (all_listed s) (sums_of t.entries c ∷ []) (map (sums_of t.entries) cs)

  -- the current contract after them is the previous one, or one of this lot
  pub current_after : (cs : List ContractRow) (s : Listed) → IsInOrder nat_cmp contract_key cs → IsNew s.current cs → (P : Option CurrentContract → Type 0) → P s.current
      → ((c : ContractRow) (sums : ContractSums) → P (Some (current_with t x c sums))) → P (list_all cs s).current
  current_after [] s order new P was own = was
  current_after (c ∷ cs) s order new P was own =
      subst (λ (z : Listed). P (list_all cs z).current) (sym (one_contract t x c s new))
      (current_after cs (contract_listed t x c s) order.1 (next_is_new c (sums_of t.entries c) cs order.0) P (own c (sums_of t.entries c)) own)

  lot_rows : (s : Listed) → fold_rows list_lot (joined_lot t x) s ≡ list_all (contracts_of_lot (lot_key x) t) s
  lot_rows s =
      grouped list_lot (with_contract x) (λ s. s) (list_contract head_of) (λ _. Unit {0}) (λ s. refl) (λ c s. refl) (λ s. tt) (λ c s h. tt) (λ s h. refl) (flat_map (joined_contract t) (contracts_of_lot (lot_key x) t)) s
      ∙ fold_rows-flat_map (list_contract head_of) (joined_contract t) (contracts_of_lot (lot_key x) t) s

-- ---- the lots of a line

module _ (t : Tables) (sorted : IsSorted t) where
  contracts_in_order : (x : LotRow) → IsInOrder nat_cmp contract_key (contracts_of_lot (lot_key x) t)
  contracts_in_order x = in_order-filter nat_cmp_total contract_key _ t.contracts sorted.contracts

  -- the current contract is of a lot that comes before all of these
  abbrev IsBelow : List LotRow → Option CurrentContract → Type 0
  IsBelow xs None = Unit {0}
  IsBelow xs (Some k) = StartsAbove lot_cmp lot_key (k.notice, k.lot) xs

  all_new : (x : LotRow) (xs : List LotRow) (current : Option CurrentContract) (cs : List ContractRow) → IsBelow (x ∷ xs) current → IsNew t x current cs
  all_new x xs current [] below = tt
  all_new x xs None (c ∷ cs) below = refl
  all_new x xs (Some k) (c ∷ cs) below = ap (λ b. b && same_number k.contract c.contract) (same_key (k.notice, k.lot) (lot_key x) ∙ ap is_eq below)

  later : (x : LotRow) (xs : List LotRow) (current : Option CurrentContract) → StartsAbove lot_cmp lot_key (lot_key x) xs → IsBelow (x ∷ xs) current → IsBelow xs current
  later x xs None above below = tt
  later x [] (Some k) above below = tt
  later x (y ∷ ys) (Some k) above below = lots_total.trans (k.notice, k.lot) (lot_key x) (lot_key y) below above

  abbrev list_lots : List LotRow → Listed → Listed
  list_lots xs s = fold_rows (λ x. fold_rows list_lot (joined_lot t x)) xs s

  lots_listed : (xs : List LotRow) (s : Listed) → IsInOrder lot_cmp lot_key xs → IsBelow xs s.current → all_listed (list_lots xs s) ≡ all_listed s ++ sums_under t xs
  lots_listed [] s order below = sym (append-nil (all_listed s))
  lots_listed (x ∷ xs) s order below =
      let cs : List ContractRow = contracts_of_lot (lot_key x) t in
      let new = all_new x xs s.current cs below in
      ap (λ z. all_listed (list_lots xs z)) (lot_rows t x s)
      ∙ lots_listed xs (list_all t x cs s) order.1 (current_after t x cs s (contracts_in_order x) new (IsBelow xs) (later x xs s.current order.0 below) (λ c sums. order.0))
      ∙ ap (λ l. l ++ sums_under t xs) (contracts_listed t x cs s (contracts_in_order x) new)
      ∙ append_assoc (all_listed s) (map (sums_of t.entries) cs) (sums_under t xs)

  -- the joined rows of a line's lots list the sums of its contracts
  pub sums_listed : (line : List ℕ) → all_listed (listed (joined_lots line t)) ≡ sums_of_line line t
  sums_listed line =
      ap all_listed (fold_rows-flat_map list_lot (joined_lot t) (lots_of_line line t) nothing_listed)
      ∙ lots_listed (lots_of_line line t) nothing_listed (in_order-filter lots_total lot_key _ t.lots sorted.lots) tt

-- ---- one more row

pub listed_next : (rows : List JoinedLot) (row : JoinedLot) (old new : Listing) {T : Type 0} (result : Result T ShelfFault) → HasListed rows old
    → OnOk result (new ≡ record { reserved = list_reserved row old.reserved; contracts = record { listed = list_lot row old.contracts.listed; left = old.contracts.left - 1 } })
    → OnOk result (0 < old.contracts.left) → OnOk result (HasListed (rows ++ row ∷ []) new)
listed_next rows row old new (Ok v) h is more = record {
  reserved = ap (λ (s : Listing). s.reserved) is ∙ ap (list_reserved row) h.reserved ∙ sym (fold_rows-append list_reserved rows (row ∷ []) nothing_reserved);
  sums = ap (λ (s : Listing). s.contracts.listed) is ∙ ap (list_lot row) h.sums ∙ sym (fold_rows-append list_lot rows (row ∷ []) nothing_listed);
  counted = omega (arith, ap (λ (s : Listing). s.contracts.left) is, more, h.counted, length-snoc rows row);
}
listed_next rows row old new (Err e) h is more = tt
