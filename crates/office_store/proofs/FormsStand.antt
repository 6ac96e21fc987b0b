-- A table that has its form is a table of the office.
use Rattle.office_store.proofs.Names.{◌≡◌, ◌⊎◌, inl, inr, ℕ, zero, suc, ◌+◌, ◌<◌, ◌==◌, ◌^◌, true, false, List, [], ◌∷◌, Option, Some, None, length, filter, slice_get, nat_le, refl, sym, ap, subst, ◌∙◌, IsTrue, arith, nat_tests, eq-eqb, is_some, ◌&&◌, Schema, Table, guards, Has, all_has, has_kept, IsGuarded, IsTableRow, automatic, place_has, zipped_left, Database, IsDatabase, IsIn, at_tree, key_indexes, OfficeTable, table_of, each, HasForms, StandsAlike, StandsOrLacks, index_count}

-- ---- a list of one

only : {X : Type 0} (xs : List X) (x : X) → length xs ≡ 1 → Has xs x → xs ≡ x ∷ []
only [] x one h = absurd h
only (y ∷ []) x one (inl same) = ap (λ z. z ∷ []) (sym same)
only (y ∷ []) x one (inr none) = absurd none
only (y ∷ z ∷ xs) x one h = absurd (omega (arith, one))

same_only : {X : Type 0} (xs : List X) (x y : X) → length xs ≡ 1 → Has xs x → Has xs y → y ≡ x
same_only xs x y one a b = by (subst (λ l. Has l y) (only xs x one a) b)
  where
    by : Has (x ∷ []) y → y ≡ x
    by (inl same) = same
    by (inr none) = absurd none

none : {X : Type 0} (xs : List X) → length xs ≡ 0 → xs ≡ []
none [] zero_long = refl
none (x ∷ xs) zero_long = absurd (omega (arith, zero_long))

-- ---- its key

-- the key has an index of its own, or is the rowid
abbrev HasKey : Table → Type 0
HasKey table = ((table.key ≡ None) × (table.uniques ≡ table.primary ∷ [])) ⊎ (table.key ≡ Some 0)

keyed : (k : OfficeTable) → HasKey (table_of k)
keyed k = elim (each k).bare.key [ inl index ↦ inl (index.key, index.uniques) | inr rowid ↦ inr rowid.key ]

-- ---- the table that was found has the form

low : (n : ℕ) → n < 65536 → nat_le (2 ^ 31) n ≡ false
low n h = grind (arith, nat_tests)

module _ (db : Database) (sound : IsDatabase db) (form : Table) (key : HasKey form) (it : StandsAlike db.schema form) where
  abbrev table : Table
  table = at_tree form it.tree

  there : Has db.schema.tables table
  there = place_has db.schema.tables it.place table it.found

  alone : (other : Table) → Has db.schema.tables other → other.tree ≡ it.tree → other ≡ table
  alone other h same =
      same_only (filter (λ (t : Table). t.tree == it.tree) db.schema.tables) table other it.alone
      (has_kept (λ (t : Table). t.tree == it.tree) db.schema.tables table there (eq-eqb it.tree it.tree refl))
      (has_kept (λ (t : Table). t.tree == it.tree) db.schema.tables other h (eq-eqb other.tree it.tree same))

  -- the index of the key, which each such table has
  own : form.key ≡ None → form.uniques ≡ form.primary ∷ [] → (index : ℕ) × (filter (λ i. guards i table) db.schema.indexes ≡ automatic table 0 table.primary index ∷ [])
  own plainly uniques =
      let guarded : IsGuarded db.schema.indexes table = all_has (IsGuarded db.schema.indexes) db.schema.tables table sound.lists.guarded there in
      let found = guarded 0 form.primary (ap (λ us. slice_get us 0) uniques) in
      let one : length (filter (λ i. guards i table) db.schema.indexes) ≡ 1 = it.guarded ∙ ap index_count plainly in (
        found.0,
        only (filter (λ i. guards i table) db.schema.indexes) (automatic table 0 form.primary found.0) one
            (has_kept (λ i. guards i table) db.schema.indexes (automatic table 0 form.primary found.0) found.1 (eq-eqb it.tree it.tree refl)),
      )

  guarded_by : HasKey form → (index : ℕ) × (filter (λ i. guards i table) db.schema.indexes ≡ key_indexes form.key table index)
  guarded_by (inl indexed) = let mine = own indexed.0 indexed.1 in (mine.0, mine.1 ∙ ap (λ k. key_indexes k table mine.0) (sym indexed.0))
  guarded_by (inr rowid) =
      (0, none (filter (λ i. guards i table) db.schema.indexes) (it.guarded ∙ ap index_count rowid) ∙ ap (λ k. key_indexes k table 0) (sym rowid))

  is_in : IsIn db.schema form it.tree
  is_in = record {
    place = it.place;
    named = it.named;
    found = it.found;
    alone = alone;
    stored = low it.tree (zipped_left IsTableRow _ db.schema.tables table sound.lists.listed.tables there).2.described.low;
    index = (guarded_by key).0;
    guarded = (guarded_by key).1;
  }

-- ---- all of them

pub forms_stand : (edition : ℕ) (db : Database) → IsDatabase db → ((k : OfficeTable) → StandsOrLacks edition db.schema (table_of k)) → HasForms edition db.schema
forms_stand edition db sound each k = elim (each k) [
  | inl stands ↦ inl (stands.tree, is_in db sound (table_of k) (keyed k) stands)
  | inr lacks ↦ inr (lacks.0, ap is_some lacks.1)
]
