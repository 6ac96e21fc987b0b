-- The lines that a change touches, and the sums that it leaves, by the rows that were looked up before it.
use Rattle.office_sums.proofs.Names.{◌≡◌, ℕ, Bool, true, false, cond, ◌&&◌, not, List, [], Option, Some, None, option_map, filter, length, IfSome, Vec, Global, arith, rules, refl, sym, ap, subst, ◌∙◌, ◌==◌, vec_len, nil_from_length, nat_cmp-IsAntisymmetric, list_all, is_eq, nat_cmp_total, same_id, bare_sums, sums_with_entries, sums_with_entry, holds_of, Tables, IsSorted, same_number, lot_key, contract_key, entry_key, of_line, contracts_of_notice, entries_of_contract, find_contract, find_entry, lot_at, contract_at, after_put, after_puts, is_on_line, sums_of, ContractSums, ContractRow, EntryRow, LotRow, Put, sums_are, equal_ids, equal_keys, same_itself, found_compares, weight, leaves_contracts, reservation_of, keeps_lot, sums_before, AreReserved, AreShifted, FromContract, FromNewEntry, FromNewLot, FromNewRow, FromReserved, IsCarried, TouchesNone, AreSums, Remembers, lines_of_lot, lines_of_contract, IsNoneOf, Carried, Reservation, SumsOfLine}
use Rattle.office_base.specs.declared.puts.Put.TheVariants as puts
use Rattle.office_sums.proofs.ContractMoved.{contract_moved, counts}
use Rattle.office_sums.proofs.LastLots.{contracts_left, entries_left}
use Rattle.office_sums.proofs.LotMoved.{lot_added, lot_changed}
use Rattle.office_sums.proofs.NoneOf.{none_of_both}
use Rattle.office_sums.proofs.OneMore.{number_is, one_more}

abbrev carried_at : List ℕ → Option SumsOfLine → Carried
carried_at line sums = record { line = line; sums = sums }

some_same : {X : Type 0} (a b : X) → Some a ≡ Some b → a ≡ b
some_same a b e = cc

pub not_other : (b : Bool) → not b ≡ false → b ≡ true
not_other true h = refl
not_other false h = absurd (let i : true ≡ false = h in cc)

-- ---- lots

module _ (known : List (List ℕ × SumsOfLine)) (t : Tables) (row : LotRow) (remembers : Remembers known t) where
  changed : (was : LotRow) (before : ℕ) → lot_at (lot_key row) t ≡ Some was → same_id was.line row.line ≡ true → was.reserved ≡ before → (sums : Option SumsOfLine)
      → IfSome sums (FromReserved known row.line before row.reserved) → IfSome sums (λ s. AreSums row.line s (after_put (puts.Lot row) t))
  changed was before found on amount None from = tt
  changed was before found on amount (Some new) from =
      lot_changed t row was found on from.old new (subst (λ n. AreReserved from.old new n row.reserved) (sym amount) from.moved) (remembers.each row.line from.old from.there)

  added : lot_at (lot_key row) t ≡ None → (sums : Option SumsOfLine) → IfSome sums (FromNewLot known row t) → IfSome sums (λ s. AreSums row.line s (after_put (puts.Lot row) t))
  added missing None from = tt
  added missing (Some new) from = lot_added t row missing from.none from.from.old new from.from.moved (remembers.each row.line from.from.old from.from.there)

module _ (known : List (List ℕ × SumsOfLine)) (t : Tables) (row : LotRow) where
  -- a lot that exists, and stays on its line
  pub lot_stays : (found : Option LotRow) → lot_at (lot_key row) t ≡ found → (was : Reservation) → option_map reservation_of found ≡ Some was → same_id was.line row.line ≡ true
      → (sums : Option SumsOfLine) → IfSome sums (FromReserved known row.line was.amount row.reserved) → IsCarried known (puts.Lot row) t (carried_at row.line sums)
  lot_stays None is was e same sums from = absurd (let i : None ≡ Some was = e in cc)
  lot_stays (Some old) is was e same sums from =
      let it : reservation_of old ≡ was = some_same (reservation_of old) was e in
      let on : same_id old.line row.line ≡ true = ap (λ (r : Reservation). same_id r.line row.line) it ∙ same in record {
        others = λ line apart. (apart, subst (IsNoneOf line) (sym (ap lines_of_lot is)) (ap (λ l. same_id l line) (equal_ids old.line row.line on) ∙ apart, tt));
        right = λ sorted remembers. changed known t row remembers old was.amount is on (ap (λ (r : Reservation). r.amount) it) sums from;
      }

  -- a new lot
  pub lot_comes : (found : Option LotRow) → lot_at (lot_key row) t ≡ found → option_map reservation_of found ≡ None → (sums : Option SumsOfLine)
      → IfSome sums (FromNewLot known row t) → IsCarried known (puts.Lot row) t (carried_at row.line sums)
  lot_comes None is e sums from = record {
    others = λ line apart. (apart, subst (IsNoneOf line) (sym (ap lines_of_lot is)) tt);
    right = λ sorted remembers. added known t row remembers is sums from;
  }
  lot_comes (Some old) is e sums from = absurd (let i : Some (reservation_of old) ≡ None = e in cc)

-- a list without elements
no_rows : {X : Type 0} (v : Vec X Global) → (vec_len v == 0) ≡ true → v.items ≡ []
no_rows v empty =
    let is : vec_len v ≡ length v.items = search (rules, v.ok) in
    let none : vec_len v ≡ 0 = grind (arith, rules, empty) in
    nil_from_length v.items (sym is ∙ none)

-- the sums of a new lot's line, if its notice had no contract before these changes, and these put none
pub from_new_lot : (known : List (List ℕ × SumsOfLine)) (row : LotRow) (t : Tables) (before : List Put) (rows : Vec ContractRow Global) (nothing : ℕ)
    → list_all leaves_contracts before ≡ true → rows.items ≡ contracts_of_notice row.notice t → (vec_len rows == 0) ≡ true → nothing ≡ 0
    → (sums : Option SumsOfLine) → IfSome sums (λ new. FromReserved known row.line nothing row.reserved new) → IfSome sums (FromNewLot known row (after_puts before t))
from_new_lot known row t before rows nothing leaves are empty zero None from = tt
from_new_lot known row t before rows nothing leaves are empty zero (Some new) from = record {
  none = ap (filter (λ (c : ContractRow). same_id c.notice row.notice)) (contracts_left before t leaves) ∙ sym are ∙ no_rows rows empty;
  from = subst (λ n. FromReserved known row.line n row.reserved new) zero from;
}

-- ---- the line of a contract's lot

-- the lot of a contract is on this line
on_line : (t : Tables) (c : ContractRow) (found : Option LotRow) → lot_at (c.notice, c.lot) t ≡ found → (was : Reservation) → option_map reservation_of found ≡ Some was
    → is_on_line t.lots was.line c ≡ true
on_line t c None is was e = absurd (let i : None ≡ Some was = e in cc)
on_line t c (Some lot) is was e =
    ap (holds_of (of_line was.line)) is ∙ ap (λ (r : Reservation). same_id r.line was.line) (some_same (reservation_of lot) was e) ∙ same_itself was.line

-- another line isn't that of the contract's lot
apart_from : (t : Tables) (c : ContractRow) (found : Option LotRow) → lot_at (c.notice, c.lot) t ≡ found → (was : Reservation) → option_map reservation_of found ≡ Some was
    → (line : List ℕ) → same_id was.line line ≡ false → IsNoneOf line (lines_of_contract t (Some c))
apart_from t c None is was e line apart = absurd (let i : None ≡ Some was = e in cc)
apart_from t c (Some lot) is was e line apart =
    subst (IsNoneOf line) (sym (ap lines_of_lot is)) (ap (λ (r : Reservation). same_id r.line line) (some_same (reservation_of lot) was e) ∙ apart, tt)

-- a lot that doesn't exist has no line
no_line : (t : Tables) (c : ContractRow) (found : Option LotRow) → lot_at (c.notice, c.lot) t ≡ found → option_map reservation_of found ≡ None
    → (line : List ℕ) → IsNoneOf line (lines_of_contract t (Some c))
no_line t c None is e line = subst (IsNoneOf line) (sym (ap lines_of_lot is)) tt
no_line t c (Some lot) is e line = absurd (let i : Some (reservation_of lot) ≡ None = e in cc)

and_first : (a b : Bool) → (a && b) ≡ true → a ≡ true
and_first true b h = refl
and_first false b h = absurd (let i : false ≡ true = h in cc)

and_second : (a b : Bool) → (a && b) ≡ true → b ≡ true
and_second true b h = h
and_second false b h = absurd (let i : false ≡ true = h in cc)

-- the key of a contract's lot
abbrev under : ContractRow → List ℕ × List ℕ
under c = (c.notice, c.lot)

-- a contract that stays under its lot
module _ (old c : ContractRow) (keeps : keeps_lot (Some old) c ≡ true) where
  under_same : under old ≡ under c
  under_same =
      ap (λ (n : List ℕ). let key : List ℕ × List ℕ = (n, old.lot) in key) (equal_ids old.notice c.notice (and_first (same_id old.notice c.notice) (same_id old.lot c.lot) keeps))
      ∙ ap (λ (n : List ℕ). let key : List ℕ × List ℕ = (c.notice, n) in key) (equal_ids old.lot c.lot (and_second (same_id old.notice c.notice) (same_id old.lot c.lot) keeps))

-- the row that is replaced is on the same line
same_lines : (t : Tables) (old : Option ContractRow) (c : ContractRow) → keeps_lot old c ≡ true → (line : List ℕ) → IsNoneOf line (lines_of_contract t (Some c)) → IsNoneOf line (lines_of_contract t old)
same_lines t None c keeps line h = tt
same_lines t (Some old) c keeps line h = subst (λ k. IsNoneOf line (lines_of_lot (lot_at k t))) (sym (under_same old c keeps)) h

-- ---- contracts

-- the sums of a contract's row by its entries
row_sums : (t : Tables) (n : ℕ) (c : ContractRow) → n ≡ c.contract → sums_with_entries (bare_sums c) (entries_of_contract n t) ≡ sums_of t.entries c
row_sums t n c number = ap (λ n. sums_with_entries (bare_sums c) (entries_of_contract n t)) number ∙ sums_are t.entries c

found_number : (t : Tables) (n : ℕ) (c : ContractRow) → contract_at n t ≡ Some c → n ≡ c.contract
found_number t n c found = equal_keys nat_cmp-IsAntisymmetric n c.contract (ap is_eq (found_compares nat_cmp_total contract_key n c t.contracts found))

module _ (t : Tables) (c : ContractRow) (line : List ℕ) where
  -- what the row that is replaced counted for the line
  counted : (old : Option ContractRow) → contract_at c.contract t ≡ old → keeps_lot old c ≡ true → is_on_line t.lots line c ≡ true → (f : ContractSums → ℕ)
      → f (record { gained = 0; lost = 0; paid = 0 }) ≡ 0 → weight (counts t line f) (find_contract t.contracts c.contract) ≡ f (sums_before old (entries_of_contract c.contract t))
  counted None is keeps on f zero = ap (weight (counts t line f)) is ∙ sym zero
  counted (Some old) is keeps on f zero =
      ap (weight (counts t line f)) is
      ∙ ap (λ b. cond b (f (sums_of t.entries old)) 0) (ap (λ k. holds_of (of_line line) (lot_at k t)) (under_same old c keeps) ∙ on)
      ∙ ap f (sym (row_sums t c.contract old (found_number t c.contract old is)))

  replaced : (known : List (List ℕ × SumsOfLine)) (old : Option ContractRow) → contract_at c.contract t ≡ old → keeps_lot old c ≡ true → is_on_line t.lots line c ≡ true
      → Remembers known t → (sums : Option SumsOfLine) → IfSome sums (FromNewRow known line old c t) → IfSome sums (λ s. AreSums line s (after_put (puts.Contract c) t))
  replaced known old is keeps on remembers None from = tt
  replaced known old is keeps on remembers (Some new) from =
      let before : ContractSums = sums_before old (entries_of_contract c.contract t) in
      contract_moved t c line on before (counted old is keeps on) from.from.old new
      (subst (AreShifted from.from.old new before) (row_sums t c.contract c refl) from.from.moved) (remembers.each line from.from.old from.from.there)

-- a contract whose lot exists
pub contract_put : (known : List (List ℕ × SumsOfLine)) (t : Tables) (c : ContractRow) (old : Option ContractRow) → contract_at c.contract t ≡ old → keeps_lot old c ≡ true
    → (was : Reservation) → option_map reservation_of (lot_at (c.notice, c.lot) t) ≡ Some was → (sums : Option SumsOfLine) → IfSome sums (FromNewRow known was.line old c t)
    → IsCarried known (puts.Contract c) t (carried_at was.line sums)
contract_put known t c old is keeps was e sums from = record {
  others = λ line apart.
      let own : IsNoneOf line (lines_of_contract t (Some c)) = apart_from t c (lot_at (c.notice, c.lot) t) refl was e line apart in
      none_of_both line (lines_of_contract t (Some c)) (lines_of_contract t (contract_at c.contract t)) own
      (subst (λ o. IsNoneOf line (lines_of_contract t o)) (sym is) (same_lines t old c keeps line own));
  right = λ sorted remembers. replaced t c was.line known old is keeps (on_line t c (lot_at (c.notice, c.lot) t) refl was e) remembers sums from;
}

-- a contract whose lot doesn't exist
pub contract_put_apart : (t : Tables) (c : ContractRow) (old : Option ContractRow) → contract_at c.contract t ≡ old → keeps_lot old c ≡ true
    → option_map reservation_of (lot_at (c.notice, c.lot) t) ≡ None → TouchesNone (puts.Contract c) t
contract_put_apart t c old is keeps e = record {
  each = λ line.
      let own : IsNoneOf line (lines_of_contract t (Some c)) = no_line t c (lot_at (c.notice, c.lot) t) refl e line in
      none_of_both line (lines_of_contract t (Some c)) (lines_of_contract t (contract_at c.contract t)) own
      (subst (λ o. IsNoneOf line (lines_of_contract t o)) (sym is) (same_lines t old c keeps line own));
}

-- ---- entries

module _ (t : Tables) (e : EntryRow) (c : ContractRow) (found : contract_at e.contract t ≡ Some c) where
  entered : (known : List (List ℕ × SumsOfLine)) (line : List ℕ) → is_on_line t.lots line c ≡ true → IsSorted t → Remembers known t → (sums : Option SumsOfLine)
      → IfSome sums (FromNewEntry known line c e t) → IfSome sums (λ s. AreSums line s (after_put (puts.Entry e) t))
  entered known line on sorted remembers None from = tt
  entered known line on sorted remembers (Some new) from =
      let shifted : AreShifted from.from.old new (sums_of t.entries c) (sums_with_entry e.kind e.amount (sums_of t.entries c)) =
      subst (λ (s : ContractSums). AreShifted from.from.old new s (sums_with_entry e.kind e.amount s)) (row_sums t e.contract c (number_is t e c sorted found from.missing)) from.from.moved in
      one_more t e c sorted found from.missing line on from.from.old new shifted (remembers.each line from.from.old from.from.there)

  -- an entry of a contract whose lot exists
  pub entry_put : (known : List (List ℕ × SumsOfLine)) (was : Reservation) → option_map reservation_of (lot_at (c.notice, c.lot) t) ≡ Some was → (sums : Option SumsOfLine)
      → IfSome sums (FromNewEntry known was.line c e t) → IsCarried known (puts.Entry e) t (carried_at was.line sums)
  entry_put known was is sums from = record {
    others = λ line apart. subst (λ o. IsNoneOf line (lines_of_contract t o)) (sym found) (apart_from t c (lot_at (c.notice, c.lot) t) refl was is line apart);
    right = λ sorted remembers. entered known was.line (on_line t c (lot_at (c.notice, c.lot) t) refl was is) sorted remembers sums from;
  }

  -- an entry of a contract whose lot doesn't exist
  pub entry_put_apart : option_map reservation_of (lot_at (c.notice, c.lot) t) ≡ None → TouchesNone (puts.Entry e) t
  entry_put_apart is = record { each = λ line. subst (λ o. IsNoneOf line (lines_of_contract t o)) (sym found) (no_line t c (lot_at (c.notice, c.lot) t) refl is line) }

-- an entry of no contract
pub entry_put_alone : (t : Tables) (e : EntryRow) → contract_at e.contract t ≡ None → TouchesNone (puts.Entry e) t
entry_put_alone t e none = record { each = λ line. subst (λ o. IsNoneOf line (lines_of_contract t o)) (sym none) tt }

-- ---- after changes that put no contract and no entry

module _ (before : List Put) (t : Tables) (leaves : list_all leaves_contracts before ≡ true) where
  pub contract_after : (n : ℕ) (c : Option ContractRow) → contract_at n t ≡ c → contract_at n (after_puts before t) ≡ c
  contract_after n c is = ap (λ cs. find_contract cs n) (contracts_left before t leaves) ∙ is

  pub new_row_after : (known : List (List ℕ × SumsOfLine)) (line : List ℕ) (old : Option ContractRow) (c : ContractRow) (sums : Option SumsOfLine)
      → IfSome sums (FromNewRow known line old c t) → IfSome sums (FromNewRow known line old c (after_puts before t))
  new_row_after known line old c None from = tt
  new_row_after known line old c (Some new) from = record {
    from =
        subst (λ (es : List EntryRow). FromContract known line (sums_before old (filter (λ (e : EntryRow). same_number e.contract c.contract) es))
        (sums_with_entries (bare_sums c) (filter (λ (e : EntryRow). same_number e.contract c.contract) es)) new)
        (sym (entries_left before t leaves)) from.from;
  }

  pub new_entry_after : (known : List (List ℕ × SumsOfLine)) (line : List ℕ) (c : ContractRow) (e : EntryRow) (sums : Option SumsOfLine)
      → IfSome sums (FromNewEntry known line c e t) → IfSome sums (FromNewEntry known line c e (after_puts before t))
  new_entry_after known line c e None from = tt
  new_entry_after known line c e (Some new) from = record {
    missing = ap (λ es. find_entry es (entry_key e)) (entries_left before t leaves) ∙ from.missing;
    from =
        subst (λ (es : List EntryRow). FromContract known line (sums_with_entries (bare_sums c) (filter (λ (x : EntryRow). same_number x.contract e.contract) es))
        (sums_with_entry e.kind e.amount (sums_with_entries (bare_sums c) (filter (λ (x : EntryRow). same_number x.contract e.contract) es))) new)
        (sym (entries_left before t leaves)) from.from;
  }
