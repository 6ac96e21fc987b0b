-- The join of lists, level by level, equals the nested choices that SQL makes.
use Rattle.office_ledger.proofs.Names.{◌≡◌, List, [], ◌∷◌, ◌++◌, map, flat_map, Option, Some, None, option_map, refl, sym, ap, ◌∙◌, append-nil, map-map, map-flat_map, flat_map-map, flat_map_same_on, Tables, lot_key, lots_of_line, contracts_of_lot, entries_of_contract, LineRow, LotRow, ContractRow, EntryRow, or_none, entry_part, with_entry, with_contract, with_lot, joined_contract, joined_lot, joined_line, joined, JoinedRow, JoinedLot, JoinedContract, JoinedEntry}

-- a list that isn't empty
abbrev pub IsFull : {X : Type 0} → List X → Type 0
IsFull [] = ⊥
IsFull (x ∷ xs) = Unit {0}

full-or_none : {X Y : Type 0} (w : Option X → Y) (xs : List X) → IsFull (map w (or_none xs))
full-or_none w [] = tt
full-or_none w (x ∷ xs) = tt

full-append : {X : Type 0} (xs ys : List X) → IsFull xs → IsFull (xs ++ ys)
full-append [] ys h = absurd h
full-append (x ∷ xs) ys h = tt

or_none-full : {X : Type 0} (xs : List X) → IsFull xs → or_none xs ≡ map Some xs
or_none-full [] h = absurd h
or_none-full (x ∷ xs) h = refl

-- the choices of one level: `None`, or one element after another
nested : {X Y Z : Type 0} (k : Option Y → Z) (rows : X → List Y) → ((x : X) → IsFull (rows x)) → (choose : Option X → List Z)
    → choose None ≡ k None ∷ [] → ((x : X) → choose (Some x) ≡ map (λ y. k (Some y)) (rows x)) → (xs : List X)
    → flat_map choose (or_none xs) ≡ map k (or_none (flat_map rows xs))
nested k rows full choose none some [] = append-nil (choose None) ∙ none
nested k rows full choose none some (x ∷ xs) =
    flat_map-map choose Some (x ∷ xs)
    ∙ flat_map_same_on (λ x. choose (Some x)) (λ x. map (λ y. k (Some y)) (rows x)) some (x ∷ xs)
    ∙ sym (map-flat_map (λ y. k (Some y)) rows (x ∷ xs))
    ∙ sym (ap (map k) (or_none-full (flat_map rows (x ∷ xs)) (full-append (rows x) (flat_map rows xs) (full x))) ∙ map-map k Some (flat_map rows (x ∷ xs)))

-- the last level, where each choice is one row
last : {X Y Z : Type 0} (k : Option Y → Z) (f : X → Y) (xs : List X) → flat_map (λ o. k (option_map f o) ∷ []) (or_none xs) ≡ map k (or_none (map f xs))
last k f [] = refl
last k f (x ∷ xs) = ap (λ l. k (Some (f x)) ∷ l) (flat_map-map (λ o. k (option_map f o) ∷ []) Some xs ∙ more xs)
  where
    more : (xs : List _) → flat_map (λ x. k (Some (f x)) ∷ []) xs ≡ map k (map Some (map f xs))
    more [] = refl
    more (x ∷ xs) = ap (λ l. k (Some (f x)) ∷ l) (more xs)

-- the choices for a lot: one of its contracts, and one of the entries of this contract
module _ {Z : Type 0} (out : JoinedLot → Z) (t : Tables) where
  -- the rows of a lot for a chosen contract
  abbrev pub with_last : LotRow → ContractRow → Option EntryRow → List Z
  with_last x c e = out (with_contract x (Some (with_entry c (option_map entry_part e)))) ∷ []

  abbrev pub with_contracts : LotRow → Option ContractRow → List Z
  with_contracts x None = out (with_contract x None) ∷ []
  with_contracts x (Some c) = flat_map (with_last x c) (or_none (entries_of_contract c.contract t))

  abbrev pub lot_choices : LotRow → List Z
  lot_choices x = flat_map (with_contracts x) (or_none (contracts_of_lot (lot_key x) t))

  contract_is : (x : LotRow) (c : ContractRow) → with_contracts x (Some c) ≡ map (λ y. out (with_contract x (Some y))) (joined_contract t c)
  contract_is x c =
      last (λ (e : Option JoinedEntry). out (with_contract x (Some (with_entry c e)))) entry_part (entries_of_contract c.contract t)
      ∙ sym (map-map (λ y. out (with_contract x (Some y))) (with_entry c) (or_none (map entry_part (entries_of_contract c.contract t))))

  pub lot_is : (x : LotRow) → lot_choices x ≡ map out (joined_lot t x)
  lot_is x =
      nested (λ (c : Option JoinedContract). out (with_contract x c)) (joined_contract t) (λ c. full-or_none (with_entry c) (map entry_part (entries_of_contract c.contract t)))
      (with_contracts x) refl (contract_is x) (contracts_of_lot (lot_key x) t)
      ∙ sym (map-map out (with_contract x) (or_none (flat_map (joined_contract t) (contracts_of_lot (lot_key x) t))))

module _ {Z : Type 0} (out : JoinedRow → Z) (t : Tables) where
  -- the rows of a line for a chosen lot
  abbrev pub lot_out : LineRow → JoinedLot → Z
  lot_out l y = out (with_lot l (Some y))

  abbrev pub with_lots : LineRow → Option LotRow → List Z
  with_lots l None = out (with_lot l None) ∷ []
  with_lots l (Some x) = lot_choices (lot_out l) t x

  abbrev pub with_lines : LineRow → List Z
  with_lines l = flat_map (with_lots l) (or_none (lots_of_line l.line t))

  line_is : (l : LineRow) → with_lines l ≡ map out (joined_line t l)
  line_is l =
      nested (λ (x : Option JoinedLot). out (with_lot l x)) (joined_lot t) (λ x. full-or_none (with_contract x) (flat_map (joined_contract t) (contracts_of_lot (lot_key x) t)))
      (with_lots l) refl (lot_is (lot_out l) t) (lots_of_line l.line t)
      ∙ sym (map-map out (with_lot l) (or_none (flat_map (joined_lot t) (lots_of_line l.line t))))

  -- all choices are the join
  pub choices : flat_map with_lines t.lines ≡ map out (joined t)
  choices = flat_map_same_on with_lines (λ l. map out (joined_line t l)) line_is t.lines ∙ sym (map-flat_map out (joined_line t) t.lines)
