-- The rows of a join are in rising order of their keys.
use Rattle.office_ledger.proofs.Names.{◌≡◌, ℕ, pos, List, [], ◌∷◌, map, flat_map, Option, Some, true, refl, sym, ap, ap₂, ◌∙◌, AllByRecursion, nat_cmp, ordering_then, nat_cmp-IsAntisymmetric, Ordering, Less, Equal, Greater, IsTotalOrder, tied_itself, nat_cmp_total, nat_list_cmp_total, filter_passes, recursion_from_All, IsAscending, all-append, ascending-append, ascending-map, ascending-filter, ascending_weaker, Int, value_cmp, value_cmp-Text, id_cmp, IsInOrder, all_above, equal_from_test, lots_total, entries_total, Tables, IsSorted, line_key, contract_key, entry_key, entry_cmp, lot_cmp, lots_of_line, contracts_of_lot, entries_of_contract, LineRow, LotRow, ContractRow, EntryRow, numbers_cmp, or_none, entry_part, with_entry, with_contract, with_lot, joined_contract, joined_lots, joined, JoinedRow, JoinedLot, JoinedContract, JoinedEntry, perhaps, contract_in, entry_in}
use Rattle.sqlite_value.specs.declared.value.Value.TheVariants.{Text}
use Rattle.office_base.specs.Tables as tables

-- ---- a table in the order of its keys

module _ {K X : Type 0} {R : K → K → Ordering} (total : IsTotalOrder R) (key : X → K) where
  pub rises : (xs : List X) → IsInOrder R key xs → IsAscending (λ a b. R (key a) (key b) ≡ Less) xs
  rises [] o = tt
  rises (x ∷ xs) o = (all_above total key (key x) xs o.0 o.1, rises xs o.1)

-- ---- groups, each with a head and rows or none

module _ {X Y Z : Type 0} (c : X → X → Ordering) (tie : (x : X) → c x x ≡ Equal) (inner : Option Y → Option Y → Ordering) (wrap : X → Option Y → Z) (cmp : Z → Z → Ordering)
    (is : (x y : X) (o p : Option Y) → cmp (wrap x o) (wrap y p) ≡ ordering_then (c x y) (inner o p)) (rows : X → List Y) (rise : (x : X) → IsAscending (λ a b. inner (Some a) (Some b) ≡ Less) (rows x)) where
  abbrev Below : Z → Z → Type 0
  Below a b = cmp a b ≡ Less

  abbrev group : X → List Z
  group x = map (wrap x) (or_none (rows x))

  rise-map : (x : X) (ys : List Y) → IsAscending (λ a b. inner (Some a) (Some b) ≡ Less) ys → IsAscending Below (map (wrap x) (map Some ys))
  rise-map x ys h =
      ascending-map Below (wrap x) (map Some ys) (ascending-map (λ o p. Below (wrap x o) (wrap x p)) Some ys
      (ascending_weaker (λ a b. inner (Some a) (Some b) ≡ Less) (λ a b. Below (wrap x (Some a)) (wrap x (Some b))) (λ a b e. is x x (Some a) (Some b) ∙ ap (λ o. ordering_then o (inner (Some a) (Some b))) (tie x) ∙ e) ys h))

  rise-group : (x : X) → IsAscending Below (group x)
  rise-group x = by (rows x) (rise x)
    where
      by : (ys : List Y) → IsAscending (λ a b. inner (Some a) (Some b) ≡ Less) ys → IsAscending Below (map (wrap x) (or_none ys))
      by [] h = (tt, tt)
      by (y ∷ ys) h = rise-map x (y ∷ ys) h

  below_wrapped : (x y : X) → c x y ≡ Less → (o : Option Y) (ps : List (Option Y)) → AllByRecursion (Below (wrap x o)) (map (wrap y) ps)
  below_wrapped x y e o [] = tt
  below_wrapped x y e o (p ∷ ps) = (is x y o p ∙ ap (λ z. ordering_then z (inner o p)) e, below_wrapped x y e o ps)

  below_groups : (x : X) (o : Option Y) (ys : List X) → AllByRecursion (λ y. c x y ≡ Less) ys → AllByRecursion (Below (wrap x o)) (flat_map group ys)
  below_groups x o [] h = tt
  below_groups x o (y ∷ ys) h = all-append (Below (wrap x o)) (group y) (flat_map group ys) (below_wrapped x y h.0 o (or_none (rows y))) (below_groups x o ys h.1)

  across : (x : X) (os : List (Option Y)) (ys : List X) → AllByRecursion (λ y. c x y ≡ Less) ys → AllByRecursion (λ z. AllByRecursion (Below z) (flat_map group ys)) (map (wrap x) os)
  across x [] ys h = tt
  across x (o ∷ os) ys h = (below_groups x o ys h, across x os ys h)

  pub rise-groups : (xs : List X) → IsAscending (λ a b. c a b ≡ Less) xs → IsAscending Below (flat_map group xs)
  rise-groups [] h = tt
  rise-groups (x ∷ xs) h = ascending-append Below (group x) (flat_map group xs) (rise-group x) (rise-groups xs h.1) (across x (or_none (rows x)) xs h.0)

-- ---- the orders of keys

then_assoc : (a b c : Ordering) → ordering_then (ordering_then a b) c ≡ ordering_then a (ordering_then b c)
then_assoc Less b c = refl
then_assoc Equal b c = refl
then_assoc Greater b c = refl

abbrev pub entry_order : Option JoinedEntry → Option JoinedEntry → Ordering
entry_order o p = ordering_then (value_cmp (perhaps (λ (e : JoinedEntry). Text e.entry) o) (perhaps (λ (e : JoinedEntry). Text e.entry) p)) Equal

abbrev pub contract_order : Option JoinedContract → Option JoinedContract → Ordering
contract_order o p = ordering_then (value_cmp (perhaps (λ (c : JoinedContract). Int (pos c.contract)) o) (perhaps (λ (c : JoinedContract). Int (pos c.contract)) p)) (entry_order (entry_in o) (entry_in p))

abbrev pub lot_order : Option JoinedLot → Option JoinedLot → Ordering
lot_order o p =
    ordering_then (value_cmp (perhaps (λ (l : JoinedLot). Text l.notice) o) (perhaps (λ (l : JoinedLot). Text l.notice) p))
    (ordering_then (value_cmp (perhaps (λ (l : JoinedLot). Text l.lot) o) (perhaps (λ (l : JoinedLot). Text l.lot) p)) (contract_order (contract_in o) (contract_in p)))

abbrev pub row_order : JoinedRow → JoinedRow → Ordering
row_order a b = ordering_then (value_cmp (Text a.line) (Text b.line)) (lot_order a.lot b.lot)

-- a relation that holds between elements that pass a test
module _ {X : Type 0} (P : X → Type 0) (R S : X → X → Type 0) (f : (a b : X) → P a → P b → R a b → S a b) where
  all_on : (x : X) → P x → (xs : List X) → AllByRecursion P xs → AllByRecursion (R x) xs → AllByRecursion (S x) xs
  all_on x h [] ps rs = tt
  all_on x h (y ∷ ys) ps rs = (f x y h ps.0 rs.0, all_on x h ys ps.1 rs.1)

  ascending_on : (xs : List X) → AllByRecursion P xs → IsAscending R xs → IsAscending S xs
  ascending_on [] ps up = tt
  ascending_on (x ∷ xs) ps up = (all_on x ps.0 xs ps.1 up.0, ascending_on xs ps.1 up.1)

same_number_is : (a c : ℕ) → tables.same_number a c ≡ true → a ≡ c
same_number_is a c h = nat_cmp-IsAntisymmetric a c (equal_from_test (nat_cmp a c) h)

module _ (t : Tables) (sorted : IsSorted t) where
  -- the entries of a contract, by their identifiers
  abbrev EntryBelow : EntryRow → EntryRow → Type 0
  EntryBelow a b = entry_order (Some (entry_part a)) (Some (entry_part b)) ≡ Less

  of_one : (c : ℕ) (a b : EntryRow) → tables.same_number a.contract c ≡ true → tables.same_number b.contract c ≡ true → entry_cmp (entry_key a) (entry_key b) ≡ Less → EntryBelow a b
  of_one c a b e f h =
      let same : nat_cmp a.contract b.contract ≡ Equal = ap₂ nat_cmp (same_number_is a.contract c e) (same_number_is b.contract c f) ∙ tied_itself nat_cmp_total c in
      let less : id_cmp a.entry b.entry ≡ Less = sym (ap (λ o. ordering_then o (id_cmp a.entry b.entry)) same) ∙ h in
      ap (λ o. ordering_then o Equal) (value_cmp-Text a.entry b.entry ∙ less)

  entries_rise : (c : ContractRow) → IsAscending (λ a b. entry_order (Some a) (Some b) ≡ Less) (map entry_part (entries_of_contract c.contract t))
  entries_rise c =
      ascending-map (λ a b. entry_order (Some a) (Some b) ≡ Less) entry_part (entries_of_contract c.contract t)
      (ascending_on (λ (e : EntryRow). tables.same_number e.contract c.contract ≡ true) (λ a b. entry_cmp (entry_key a) (entry_key b) ≡ Less) EntryBelow (of_one c.contract)
      (entries_of_contract c.contract t)
      (recursion_from_All (λ (e : EntryRow). tables.same_number e.contract c.contract ≡ true) (entries_of_contract c.contract t) (filter_passes (λ (e : EntryRow). tables.same_number e.contract c.contract) t.entries))
      (ascending-filter (λ a b. entry_cmp (entry_key a) (entry_key b) ≡ Less) (λ (e : EntryRow). tables.same_number e.contract c.contract) t.entries (rises entries_total entry_key t.entries sorted.entries)))

  contracts_rise : (x : LotRow) → IsAscending (λ a b. contract_order (Some a) (Some b) ≡ Less) (flat_map (joined_contract t) (contracts_of_lot (tables.lot_key x) t))
  contracts_rise x =
      rise-groups (λ (a b : ContractRow). nat_cmp a.contract b.contract) (λ a. tied_itself nat_cmp_total a.contract) entry_order with_entry (λ a b. contract_order (Some a) (Some b))
      (λ a b o p. ap (λ z. ordering_then z (entry_order o p)) (numbers_cmp a.contract b.contract)) (λ c. map entry_part (entries_of_contract c.contract t)) entries_rise
      (contracts_of_lot (tables.lot_key x) t) (ascending-filter (λ (a b : ContractRow). nat_cmp a.contract b.contract ≡ Less) _ t.contracts (rises nat_cmp_total contract_key t.contracts sorted.contracts))

  pub lots_rise : (line : List ℕ) → IsAscending (λ a b. lot_order (Some a) (Some b) ≡ Less) (joined_lots line t)
  lots_rise line =
      rise-groups (λ (a b : LotRow). lot_cmp (tables.lot_key a) (tables.lot_key b)) (λ a. tied_itself lots_total (tables.lot_key a)) contract_order with_contract (λ a b. lot_order (Some a) (Some b))
      (λ a b o p. ap₂ (λ y z. ordering_then y (ordering_then z (contract_order o p))) (value_cmp-Text a.notice b.notice) (value_cmp-Text a.lot b.lot) ∙ sym (then_assoc (id_cmp a.notice b.notice) (id_cmp a.lot b.lot) (contract_order o p)))
      (λ x. flat_map (joined_contract t) (contracts_of_lot (tables.lot_key x) t)) contracts_rise
      (lots_of_line line t) (ascending-filter (λ (a b : LotRow). lot_cmp (tables.lot_key a) (tables.lot_key b) ≡ Less) _ t.lots (rises lots_total tables.lot_key t.lots sorted.lots))

  -- the rows of the join
  pub joined_rises : IsAscending (λ a b. row_order a b ≡ Less) (joined t)
  joined_rises =
      rise-groups (λ (a b : LineRow). id_cmp a.line b.line) (λ a. tied_itself nat_list_cmp_total a.line) lot_order with_lot row_order
      (λ a b o p. ap (λ z. ordering_then z (lot_order o p)) (value_cmp-Text a.line b.line)) (λ l. joined_lots l.line t) (λ l. lots_rise l.line)
      t.lines (rises nat_list_cmp_total line_key t.lines sorted.lines)
