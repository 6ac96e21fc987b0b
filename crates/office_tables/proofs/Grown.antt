-- A schema with one more table or index still has everything that it had.
use Rattle.office_tables.proofs.Names.{◌≡◌, ◌⊎◌, inl, inr, ◌∷◌, [], ◌++◌, ◌+◌, ◌==◌, ◌&&◌, ◌<◌, ◌≢◌, ◌^◌, List, None, Some, refl, false, true, Bool, cond, ℕ, zero, suc, slice_get, filter, length, ap, sym, subst, ◌∙◌, append-nil, arith, nat_le, position_from, eqb_tells, nat_tests, eq-eqb, Schema, Table, Index, table_named, same_name, guards, Has, IsTableRow, IsIndexRow, created, indexed, next_tree, table_below, zipped_left, index_owner, place_has, Database, IsDatabase, IsIn, at_tree, key_indexes}
use Rattle.office_tables.proofs.Keyed.{HasKey, HasIndex, IsRowid}

-- ---- lists with more elements after them

position-append : {A : Type 0} (q : A → Bool) (from i : ℕ) (xs ys : List A) → position_from q from xs ≡ Some i → position_from q from (xs ++ ys) ≡ Some i
position-append q from i [] ys h = absurd (cc)
position-append q from i (x ∷ xs) ys h = by (q x) (position-append q (from + 1) i xs ys) h
  where
    by : (b : Bool) → (position_from q (from + 1) xs ≡ Some i → position_from q (from + 1) (xs ++ ys) ≡ Some i) → cond b (Some from) (position_from q (from + 1) xs) ≡ Some i → cond b (Some from) (position_from q (from + 1) (xs ++ ys)) ≡ Some i
    by true on h = h
    by false on h = on h

get-append : {A : Type 0} (xs ys : List A) (i : ℕ) (a : A) → slice_get xs i ≡ Some a → slice_get (xs ++ ys) i ≡ Some a
get-append [] ys i a h = absurd (cc)
get-append (x ∷ xs) ys zero a h = h
get-append (x ∷ xs) ys (suc i) a h = get-append xs ys i a h

pub has-append : {A : Type 0} (xs : List A) (x y : A) → Has (xs ++ y ∷ []) x → Has xs x ⊎ (x ≡ y)
has-append [] x y (inl e) = inr e
has-append [] x y (inr none) = absurd none
has-append (z ∷ xs) x y (inl e) = inl (inl e)
has-append (z ∷ xs) x y (inr h) = elim (has-append xs x y h) [ inl there ↦ inl (inr there) | inr last ↦ inr last ]

filter-append_none : {A : Type 0} (q : A → Bool) (xs : List A) (y : A) → q y ≡ false → filter q (xs ++ y ∷ []) ≡ filter q xs
filter-append_none q [] y h = rw h
filter-append_none q (x ∷ xs) y h = ap (λ l. cond (q x) (x ∷ l) l) (filter-append_none q xs y h)

filter-append_one : {A : Type 0} (q : A → Bool) (xs : List A) (y : A) → ((x : A) → Has xs x → q x ≡ false) → q y ≡ true → filter q (xs ++ y ∷ []) ≡ y ∷ []
filter-append_one q [] y none h = rw h
filter-append_one q (x ∷ xs) y none h = rw (none x (inl refl)) (filter-append_one q xs y (λ z there. none z (inr there)) h)

filter_none : {A : Type 0} (q : A → Bool) (xs : List A) → ((x : A) → Has xs x → q x ≡ false) → filter q xs ≡ []
filter_none q [] none = refl
filter_none q (x ∷ xs) none = rw (none x (inl refl)) (filter_none q xs (λ z there. none z (inr there)))

named_last : {A : Type 0} (q : A → Bool) (from : ℕ) (xs : List A) (x : A) → position_from q from xs ≡ None → q x ≡ true → position_from q from (xs ++ x ∷ []) ≡ Some (from + length xs)
named_last q from [] x h is = ap (λ b. cond b (Some from) None) is ∙ ap Some (omega arith)
named_last q from (y ∷ ys) x h is = by (q y) (named_last q (from + 1) ys x) h
  where
    by : (b : Bool) → (position_from q (from + 1) ys ≡ None → q x ≡ true → position_from q (from + 1) (ys ++ x ∷ []) ≡ Some (from + 1 + length ys)) → cond b (Some from) (position_from q (from + 1) ys) ≡ None
        → cond b (Some from) (position_from q (from + 1) (ys ++ x ∷ [])) ≡ Some (from + suc (length ys))
    by true on h = absurd (cc)
    by false on h = on h is ∙ ap Some (omega arith)

get_last : {A : Type 0} (xs : List A) (x : A) → slice_get (xs ++ x ∷ []) (length xs) ≡ Some x
get_last [] x = refl
get_last (y ∷ ys) x = get_last ys x

-- different numbers aren't equal by `==`
other : (m n : ℕ) → (m ≡ n → ⊥) → (m == n) ≡ false
other m n h = split (eqb_tells m n)
  where
    split : (((m == n) ≡ true) × (m ≡ n)) ⊎ (((m == n) ≡ false) × (m ≢ n)) → (m == n) ≡ false
    split (inl e) = absurd (h e.1)
    split (inr e) = e.0

-- ---- tables that existed still exist

-- one more table, with the index of its key
pub created_keeps : (schema : Schema) (t more : Table) (n : ℕ) (key : List ℕ) → (more.uniques ≡ key ∷ []) ⊎ (more.uniques ≡ []) → IsIn schema t n → IsIn (created schema more) t n
created_keeps schema t more n key one it = record {
  place = it.place;
  named = position-append _ 0 it.place schema.tables _ it.named;
  found = get-append schema.tables _ it.place _ it.found;
  alone = λ u h same. elim (has-append schema.tables u (at_tree more (next_tree schema)) h) [
    | inl there ↦ it.alone u there same
    | inr last ↦ absurd (omega (arith, below, ap (λ (v : Table). v.tree) last, same))
  ];
  stored = it.stored;
  index = it.index;
  guarded = guarded;
}
  where
    below : n < next_tree schema
    below = table_below schema (at_tree t n) (place_has schema.tables it.place (at_tree t n) it.found)

    guarded : filter (λ i. guards i (at_tree t n)) (created schema more).indexes ≡ key_indexes t.key (at_tree t n) it.index
    guarded = elim one [
      | inl keyed ↦ (rw keyed (filter-append_none (λ i. guards i (at_tree t n)) schema.indexes _ (other (next_tree schema) n (λ e. omega (arith, below, e)))) ∙ it.guarded)
      | inr bare ↦ (rw (bare, append-nil schema.indexes) it.guarded)
    ]

-- one more index, which isn't unique
pub indexed_keeps : (schema : Schema) (t on : Table) (i : Index) (n : ℕ) → i.is_unique ≡ false → IsIn schema t n → IsIn (indexed schema on i) t n
indexed_keeps schema t on i n plain it = record {
  place = it.place;
  named = it.named;
  found = it.found;
  alone = it.alone;
  stored = it.stored;
  index = it.index;
  guarded = filter-append_none (λ j. guards j (at_tree t n)) schema.indexes _ (rw plain) ∙ it.guarded;
}

-- ---- tables that were made exist

low : (n : ℕ) → n < 65536 → nat_le (2 ^ 31) n ≡ false
low n h = grind (arith, nat_tests)

-- each tree of a sound database has a low number
pub low_tree : (db : Database) (t : Table) → IsDatabase db → Has db.schema.tables t → t.tree < 65536
low_tree db t sound h = (zipped_left IsTableRow _ db.schema.tables t sound.lists.listed.tables h).2.described.low

-- each index of a sound database is on one of its tables
owned : (db : Database) (i : Index) → IsDatabase db → Has db.schema.indexes i → i.table < next_tree db.schema
owned db i sound h =
    let row = (zipped_left (IsIndexRow db.schema.tables) _ db.schema.indexes i sound.lists.listed.indexes h).2 in
    subst (λ n. n < next_tree db.schema) (sym (index_owner row.table i _ row.defined)) (table_below db.schema row.table row.listed)

pub created_is : (db : Database) (t : Table) → HasKey t → IsDatabase db → table_named db.schema t.name ≡ None → same_name t.name t.name ≡ true → next_tree db.schema < 65536 → IsIn (created db.schema t) t (next_tree db.schema)
created_is db t key sound none same below = record {
  place = length db.schema.tables;
  named = named_last _ 0 db.schema.tables _ none same ∙ ap Some (omega arith);
  found = get_last db.schema.tables _;
  alone = λ u h is. elim (has-append db.schema.tables u (at_tree t (next_tree db.schema)) h) [
    | inl there ↦ absurd (omega (arith, table_below db.schema u there, is))
    | inr last ↦ last
  ];
  stored = low (next_tree db.schema) below;
  index = next_tree db.schema + 1;
  guarded = elim key [ inl k ↦ by_index k | inr k ↦ by_rowid k ];
}
  where
    guards_other : (i : Index) → i.table < next_tree db.schema → guards i (at_tree t (next_tree db.schema)) ≡ false
    guards_other i h = by i.is_unique (other i.table (next_tree db.schema) (λ e. omega (arith, h, e)))
      where
        by : (b : Bool) → (i.table == next_tree db.schema) ≡ false → (b && (i.table == next_tree db.schema)) ≡ false
        by true e = e
        by false e = refl

    by_index : HasIndex t → filter (λ i. guards i (at_tree t (next_tree db.schema))) (created db.schema t).indexes ≡ key_indexes t.key (at_tree t (next_tree db.schema)) (next_tree db.schema + 1)
    by_index k = rw (k.uniques, k.key) (filter-append_one (λ i. guards i (at_tree t (next_tree db.schema))) db.schema.indexes _ (λ i h. guards_other i (owned db i sound h)) (eq-eqb (next_tree db.schema) (next_tree db.schema) refl))

    by_rowid : IsRowid t → filter (λ i. guards i (at_tree t (next_tree db.schema))) (created db.schema t).indexes ≡ key_indexes t.key (at_tree t (next_tree db.schema)) (next_tree db.schema + 1)
    by_rowid k = rw (k.uniques, append-nil db.schema.indexes, k.key) (filter_none (λ i. guards i (at_tree t (next_tree db.schema))) db.schema.indexes (λ i h. guards_other i (owned db i sound h)))

pub has_last : {A : Type 0} (xs : List A) (x : A) → Has (xs ++ x ∷ []) x
has_last [] x = inl refl
has_last (y ∷ ys) x = inr (has_last ys x)

pub has_front : {A : Type 0} (xs ys : List A) (x : A) → Has xs x → Has (xs ++ ys) x
has_front [] ys x h = absurd h
has_front (y ∷ xs) ys x (inl e) = inl e
has_front (y ∷ xs) ys x (inr h) = inr (has_front xs ys x h)
