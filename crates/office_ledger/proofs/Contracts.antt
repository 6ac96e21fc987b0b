-- The rows of contracts, one contract after another.
use Rattle.office_ledger.proofs.Names.{◌≡◌, ℕ, Bool, true, false, cond, List, [], ◌∷◌, map, Option, Some, None, refl, ap, ◌∙◌, nat_cmp, is_eq, tied_itself, nat_cmp_total, StartsAbove, IsInOrder, bare_sums, sums_with_entry, sums_with_entries, Tables, contract_key, same_number, entries_of_contract, sums_of, ContractSums, ContractRow, EntryRow, entry_part, with_entry, joined_contract, with_sums, settle, settled, is_contract, take_entry, entry_added, enter_contract, take_contract, fold_rows, JoinedEntry, OpenContract, LineSums, sums_are}
use Rattle.office_ledger.specs.Inside.Adding.{opened}
use Rattle.office_ledger.proofs.Taken.{grouped}

pub same_itself : (n : ℕ) → same_number n n ≡ true
same_itself n = ap is_eq (tied_itself nat_cmp_total n)

-- one contract
module _ (t : Tables) (c : ContractRow) where
  abbrev enter : LineSums → LineSums
  enter s = enter_contract (with_entry c None) s

  abbrev IsIn : LineSums → Type 0
  IsIn s = is_contract c.contract s.contract ≡ true

  entered_by : (b : Bool) (s : LineSums) → is_contract c.contract s.contract ≡ b → is_contract c.contract (cond b s (record (settled s) { contract = Some (opened (with_entry c None)) })).contract ≡ true
  entered_by true s e = e
  entered_by false s e = same_itself c.contract

  kept_by : (e : JoinedEntry) (current : Option OpenContract) → is_contract c.contract current ≡ true → is_contract c.contract (entry_added e current) ≡ true
  kept_by e None h = h
  kept_by e (Some current) h = h

  stays : (s : LineSums) → IsIn s → enter s ≡ s
  stays s h = rw h refl

  -- the contract as the current one, with the sums of some entries
  abbrev open_with : ContractSums → OpenContract
  open_with sums = record { contract = c.contract; sums = sums }

  entries_taken : (es : List EntryRow) (s : LineSums) (sums : ContractSums)
      → fold_rows take_entry (map entry_part es) (record s { contract = Some (open_with sums) }) ≡ record s { contract = Some (open_with (sums_with_entries sums es)) }
  entries_taken [] s sums = refl
  entries_taken (e ∷ es) s sums = entries_taken es s (sums_with_entry e.kind e.amount sums)

  -- the sums of the line after all rows of the contract
  abbrev pub contract_done : LineSums → LineSums
  contract_done s = record (settled s) { contract = Some (open_with (sums_of t.entries c)) }

  pub contract_taken : (s : LineSums) → is_contract c.contract s.contract ≡ false → fold_rows take_contract (joined_contract t c) s ≡ contract_done s
  contract_taken s new =
      grouped take_contract (with_entry c) enter take_entry IsIn (λ s. refl) (λ e s. refl) (λ s. entered_by (is_contract c.contract s.contract) s refl) (λ e s h. kept_by e s.contract h) stays
      (map entry_part (entries_of_contract c.contract t)) s
      ∙ ap (λ b. fold_rows take_entry (map entry_part (entries_of_contract c.contract t)) (cond b s (record (settled s) { contract = Some (open_with (bare_sums c)) }))) new
      ∙ entries_taken (entries_of_contract c.contract t) (settled s) (bare_sums c)
      ∙ ap (λ sums. record (settled s) { contract = Some (open_with sums) }) (sums_are t.entries c)

-- several contracts, in the order of their numbers
module _ (t : Tables) where
  -- the sums of the line after these contracts are complete
  abbrev pub counted : List ContractSums → LineSums → LineSums
  counted [] s = s
  counted (x ∷ xs) s = counted xs (with_sums x s)

  abbrev pub ContractsAbove : Option OpenContract → List ContractRow → Type 0
  ContractsAbove None cs = Unit {0}
  ContractsAbove (Some current) cs = StartsAbove nat_cmp contract_key current.contract cs

  not_open : (current : Option OpenContract) (c : ContractRow) (cs : List ContractRow) → ContractsAbove current (c ∷ cs) → is_contract c.contract current ≡ false
  not_open None c cs h = refl
  not_open (Some current) c cs h = ap is_eq h

  abbrev take_all : List ContractRow → LineSums → LineSums
  take_all cs s = fold_rows (λ c. fold_rows take_contract (joined_contract t c)) cs s

  pub contracts_taken : (cs : List ContractRow) (s : LineSums) → IsInOrder nat_cmp contract_key cs → ContractsAbove s.contract cs
      → (settled (take_all cs s) ≡ counted (map (sums_of t.entries) cs) (settled s)) × ((take_all cs s).lot ≡ s.lot)
  contracts_taken [] s order above = (refl, refl)
  contracts_taken (c ∷ cs) s order above =
      let here : fold_rows take_contract (joined_contract t c) s ≡ contract_done t c s = contract_taken t c s (not_open s.contract c cs above) in
      let rest = contracts_taken cs (contract_done t c s) order.1 order.0 in
      (ap (λ z. settled (take_all cs z)) here ∙ rest.0, ap (λ z. (take_all cs z).lot) here ∙ rest.1 ∙ same_lot s.contract)
    where
      same_lot : (current : Option OpenContract) → (settle current s).lot ≡ s.lot
      same_lot None = refl
      same_lot (Some current) = refl
