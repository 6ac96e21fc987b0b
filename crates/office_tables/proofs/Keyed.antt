-- The key of a table alone decides which rows conflict, and which columns ON CONFLICT names.
use Rattle.office_tables.proofs.Names.{◌≡◌, ◌⊎◌, inl, inr, ℕ, Bool, true, false, ◌&&◌, ◌||◌, ◌==◌, cond, List, [], ◌∷◌, length, filter, Option, Some, None, Ok, refl, sym, ap, subst, ◌∙◌, bytes_eq, list_any, eq-eqb, bytes_eq-Decides, Row, plain, Schema, Table, Index, agree, guards, conflicts, shares, are_among, is_key_at, key_at, IsIn, at_tree, key_indexes}
use Rattle.std.proofs.Common.{find}

-- the key has an index of its own, which orders by bytes
pub record HasIndex (table : Table) : Type 0 where
  pub key : table.key ≡ None
  pub plainly : table.orders ≡ plain ∷ []
  pub uniques : table.uniques ≡ table.primary ∷ []
  pub apart : bytes_eq table.primary (0 ∷ []) ≡ false
  pub among : are_among table.primary table.primary ≡ true

-- the key is the rowid
pub record IsRowid (table : Table) : Type 0 where
  pub key : table.key ≡ Some 0
  pub primary : table.primary ≡ 0 ∷ []
  pub uniques : table.uniques ≡ []

abbrev pub HasKey : Table → Type 0
HasKey table = HasIndex table ⊎ IsRowid table

abbrev pub indexed : {table : Table} → table.key ≡ None → table.orders ≡ plain ∷ [] → table.uniques ≡ table.primary ∷ [] → bytes_eq table.primary (0 ∷ []) ≡ false → are_among table.primary table.primary ≡ true → HasKey table
indexed key plainly uniques apart among = inl (record { key = key; plainly = plainly; uniques = uniques; apart = apart; among = among })

abbrev pub numbered : {table : Table} → table.key ≡ Some 0 → table.primary ≡ 0 ∷ [] → table.uniques ≡ [] → HasKey table
numbered key primary uniques = inr (record { key = key; primary = primary; uniques = uniques })

-- ---- conflicts

own_shares : (target : Option (List ℕ)) (table : Table) (new row : Row) (indexes : List Index)
    → list_any (shares target table new row) indexes ≡ list_any (shares target table new row) (filter (λ i. guards i table) indexes)
own_shares target table new row [] = refl
own_shares target table new row (i ∷ more) = by (guards i table) refl (own_shares target table new row more)
  where
    by : (b : Bool) → guards i table ≡ b → list_any (shares target table new row) more ≡ list_any (shares target table new row) (filter (λ i. guards i table) more)
        → (shares target table new row i || list_any (shares target table new row) more) ≡ list_any (shares target table new row) (cond b (i ∷ filter (λ i. guards i table) more) (filter (λ i. guards i table) more))
    by true e h = ap (λ x. shares target table new row i || x) h
    by false e h = rw e h

last : (c : Bool) → (c || false) ≡ c
last true = refl
last false = refl

same_bytes : (a : List ℕ) → bytes_eq a a ≡ true
same_bytes a = (bytes_eq-Decides a a).1 refl

-- two rows conflict in the key exactly if they agree in its columns
pub conflicts_key : (schema : Schema) (table : Table) (n : ℕ) (it : IsIn schema table n) → HasKey table → (new row : Row)
    → conflicts (Some table.primary) schema.indexes (at_tree table n) new row ≡ agree plain table.primary row table.primary new
conflicts_key schema table n it (inl k) new row =
    ap (λ b. (b && agree plain (0 ∷ []) row (0 ∷ []) new) || list_any (shares (Some table.primary) (at_tree table n) new row) schema.indexes) k.apart
    ∙ own_shares (Some table.primary) (at_tree table n) new row schema.indexes
    ∙ ap (list_any (shares (Some table.primary) (at_tree table n) new row)) (it.guarded ∙ ap (λ key. key_indexes key (at_tree table n) it.index) k.key)
    ∙ rw (k.plainly, eq-eqb n n refl, same_bytes table.primary) (last (agree plain table.primary row table.primary new))
conflicts_key schema table n it (inr k) new row =
    ap (λ c. (bytes_eq table.primary (0 ∷ []) && agree plain (0 ∷ []) row (0 ∷ []) new) || c) none
    ∙ subst (λ key. ((bytes_eq key (0 ∷ []) && agree plain (0 ∷ []) row (0 ∷ []) new) || false) ≡ agree plain key row key new) (sym k.primary) (last (agree plain (0 ∷ []) row (0 ∷ []) new))
  where
    none : list_any (shares (Some table.primary) (at_tree table n) new row) schema.indexes ≡ false
    none =
        own_shares (Some table.primary) (at_tree table n) new row schema.indexes
        ∙ ap (list_any (shares (Some table.primary) (at_tree table n) new row)) (it.guarded ∙ ap (λ key. key_indexes key (at_tree table n) it.index) k.key)

-- ---- the columns that ON CONFLICT names

finds : (table : Table) (at : List ℕ) (i : Index) → i.columns ≡ at → are_among at at ≡ true → (xs : List Index) → filter (λ j. guards j table) xs ≡ i ∷ [] → find (is_key_at table at) xs ≡ Some i
unfolding is_key_at
finds table at i columns among [] h = absurd (cc)
finds table at i columns among (j ∷ more) h = by j.is_unique (j.table == table.tree) (length j.columns == length at) (are_among at j.columns) (are_among j.columns at) named (finds table at i columns among more) h
  where
    named : j.columns ≡ at → ((length j.columns == length at) ≡ true) × (are_among at j.columns ≡ true) × (are_among j.columns at ≡ true)
    named e = subst (λ cs. ((length cs == length at) ≡ true) × (are_among at cs ≡ true) × (are_among cs at ≡ true)) (sym e) (eq-eqb (length at) (length at) refl, among, among)

    by : (a b l m n : Bool) → (j.columns ≡ at → (l ≡ true) × (m ≡ true) × (n ≡ true)) → (filter (λ j. guards j table) more ≡ i ∷ [] → find (is_key_at table at) more ≡ Some i)
        → cond (a && b) (j ∷ filter (λ j. guards j table) more) (filter (λ j. guards j table) more) ≡ i ∷ [] → cond (a && b && l && m && n) (Some j) (find (is_key_at table at) more) ≡ Some i
    by true true l m n all on e = let first : j ≡ i = cc in let are = all (ap (λ (x : Index). x.columns) first ∙ columns) in rw (are.0, are.1, are.2) (ap Some first)
    by true false l m n all on e = on e
    by false b l m n all on e = on e

-- ON CONFLICT finds the key by the names of its columns
pub key_at_is : (schema : Schema) (table : Table) (n : ℕ) (it : IsIn schema table n) → HasKey table → key_at schema (at_tree table n) table.primary ≡ Ok table.primary
unfolding key_at
key_at_is schema table n it (inl k) = rw (k.apart, finds (at_tree table n) table.primary _ refl k.among schema.indexes (it.guarded ∙ ap (λ key. key_indexes key (at_tree table n) it.index) k.key))
key_at_is schema table n it (inr k) = subst (λ at. key_at schema (at_tree table n) at ≡ Ok at) (sym k.primary) refl
