-- A table of the office that a database has is found by its form.
use Rattle.office_store.proofs.Names.{◌≡◌, ◌⊎◌, inl, inr, ℕ, zero, suc, ◌+◌, ◌<◌, ◌==◌, Bool, Bor, true, false, cond, List, [], ◌∷◌, Option, Some, None, length, filter, map, slice_index_or, take, arith, refl, sym, ap, subst, ◌∙◌, true≢false, is_some, ◌&&◌, cases_Bool, eqb-true, eq-eqb, IsAscending, Schema, Table, same_name, Has, all_has, place_has, same_itself, Database, IsDatabase, IsIn, at_tree, key_indexes, OfficeTable, table_of, Lines, Batches, Tenderers, Notices, Lots, Envelopes, Seals, Securities, Awards, Contracts, Entries, Releases, Office, LateRules, FormerNotices, Performances, HasForm, HasForms, HasPlainRules, StandsAlike, StandsOrLacks, index_count}
use Rattle.office_tables.specs.Schema.OfficeTable.{Compiled}

-- ---- the one table at its tree

abbrev AreNamed : List Table → Type 0
AreNamed = IsAscending (λ s t. same_name s.name t.name ≡ false)

abbrev is_at : ℕ → Table → Bool
is_at n t = t.tree == n

no_other : (n : ℕ) (x : Table) (xs : List Table) → ((y : Table) → Has xs y → same_name x.name y.name ≡ false) → ((y : Table) → Has xs y → y.tree ≡ n → y ≡ x) → filter (is_at n) xs ≡ []
no_other n x [] apart alone = refl
no_other n x (y ∷ xs) apart alone = go (is_at n y) refl (no_other n x xs (λ z h. apart z (inr h)) (λ z h. alone z (inr h)))
  where
    go : (b : Bool) → is_at n y ≡ b → filter (is_at n) xs ≡ [] → cond b (y ∷ filter (is_at n) xs) (filter (is_at n) xs) ≡ []
    go true at rest =
        let same : y ≡ x = alone y (inl refl) (eqb-true y.tree n at) in
        absurd (true≢false (sym (same_itself x.name) ∙ ap (λ (t : Table). same_name x.name t.name) (sym same) ∙ apart y (inl refl)))
    go false at rest = rest

only_one : (n : ℕ) (x : Table) (xs : List Table) → AreNamed xs → Has xs x → x.tree ≡ n → ((y : Table) → Has xs y → y.tree ≡ n → y ≡ x) → length (filter (is_at n) xs) ≡ 1
only_one n x [] named there tree alone = absurd there
only_one n x (y ∷ xs) named there tree alone = go (is_at n y) refl (λ later. only_one n x xs named.1 later tree (λ z h. alone z (inr h)))
  where
    go : (b : Bool) → is_at n y ≡ b → (Has xs x → length (filter (is_at n) xs) ≡ 1) → length (cond b (y ∷ filter (is_at n) xs) (filter (is_at n) xs)) ≡ 1
    go true at rest =
        let same : y ≡ x = alone y (inl refl) (eqb-true y.tree n at) in
        ap (λ (l : List Table). suc (length l)) (no_other n y xs (λ z h. all_has (λ t. same_name y.name t.name ≡ false) xs z named.0 h) (λ z h at. alone z (inr h) at ∙ sym same))
    go false at rest = elim there [
      | inl same ↦ absurd (true≢false (sym (eq-eqb y.tree n (ap (λ (t : Table). t.tree) (sym same) ∙ tree)) ∙ at))
      | inr later ↦ rest later
    ]

counted : (key : Option ℕ) (t : Table) (index : ℕ) → length (key_indexes key t index) ≡ index_count key
counted None t index = refl
counted (Some key) t index = refl

-- ---- a table of the office

alike : (db : Database) → IsDatabase db → (form : Table) (n : ℕ) → IsIn db.schema form n → StandsAlike db.schema form
alike db sound form n it = record {
  place = it.place;
  tree = n;
  named = it.named;
  found = it.found;
  alone = only_one n (at_tree form n) db.schema.tables sound.lists.listed.named (place_has db.schema.tables it.place (at_tree form n) it.found) refl it.alone;
  guarded = ap length it.guarded ∙ counted form.key (at_tree form n) it.index;
}

lacks_name : {X : Type 0} (o : Option X) → is_some o ≡ false → o ≡ None
lacks_name None none = refl
lacks_name (Some x) some = absurd (true≢false some)

-- whose forms a database has, its tables are found by these
pub forms_found : (edition : ℕ) (db : Database) → IsDatabase db → HasForms edition db.schema → (k : OfficeTable) → StandsOrLacks edition db.schema (table_of k)
forms_found edition db sound has k = elim (has k) [
  | inl form ↦ inl (alike db sound (table_of k) form.0 form.1)
  | inr lacks ↦ inr (lacks.0, lacks_name _ lacks.1)
]

-- where its form hangs on no tree
pub at_any_tree : (edition : ℕ) (schema : Schema) (form : Table) (n : ℕ) → StandsOrLacks edition schema form → StandsOrLacks edition schema (at_tree form n)
at_any_tree edition schema form n (inl it) = inl (record { place = it.place; tree = it.tree; named = it.named; found = it.found; alone = it.alone; guarded = it.guarded })
at_any_tree edition schema form n (inr lacks) = inr lacks

pub of_any_tree : (edition : ℕ) (schema : Schema) (form : Table) (n : ℕ) → StandsOrLacks edition schema (at_tree form n) → StandsOrLacks edition schema form
of_any_tree edition schema form n (inl it) = inl (record { place = it.place; tree = it.tree; named = it.named; found = it.found; alone = it.alone; guarded = it.guarded })
of_any_tree edition schema form n (inr lacks) = inr lacks

-- ---- their rules

pub plain : (k : OfficeTable) → HasPlainRules (table_of k)
plain Lines = (refl, refl, refl)
plain Batches = (refl, refl, refl)
plain Tenderers = (refl, refl, refl)
plain Notices = (refl, refl, refl)
plain Lots = (refl, refl, refl)
plain Envelopes = (refl, refl, refl)
plain Seals = (refl, refl, refl)
plain Securities = (refl, refl, refl)
plain Awards = (refl, refl, refl)
plain Contracts = (refl, refl, refl)
plain Entries = (refl, refl, refl)
plain Releases = (refl, refl, refl)
plain Compiled = (refl, refl, refl)
plain Office = (refl, refl, refl)
plain LateRules = (refl, refl, refl)
plain FormerNotices = (refl, refl, refl)
plain Performances = (refl, refl, refl)

-- ---- their names

pub has_mapped : {X Y : Type 0} (f : X → Y) (xs : List X) (x : X) → Has xs x → Has (map f xs) (f x)
has_mapped f [] x none = absurd none
has_mapped f (y ∷ xs) x (inl same) = inl (ap f same)
has_mapped f (y ∷ xs) x (inr later) = inr (has_mapped f xs x later)

pub was_mapped : {X Y : Type 0} (f : X → Y) (xs : List X) (y : Y) → Has (map f xs) y → (x : X) × Has xs x × (y ≡ f x)
was_mapped f [] y none = absurd none
was_mapped f (x ∷ xs) y (inl same) = (x, inl refl, same)
was_mapped f (x ∷ xs) y (inr later) = let it = was_mapped f xs y later in (it.0, inr it.1, it.2)

-- ---- names in a list of borrowed texts

abbrev bytes_of : Bor (List ℕ) → List ℕ
bytes_of name = name.now

pub has_item : (names : List (Bor (List ℕ))) (k : ℕ) (d : Bor (List ℕ)) → k < length names → Has (map bytes_of names) (bytes_of (slice_index_or names k d))
has_item [] k d at = absurd (omega (arith, at))
has_item (x ∷ names) zero d at = inl refl
has_item (x ∷ names) (suc k) d at = inr (has_item names k d (omega (arith, at)))

last_suc : (names : List (Bor (List ℕ))) (k : ℕ) (d : Bor (List ℕ)) (P : List ℕ → Type 0) → k < length names → ((name : List ℕ) → Has (map bytes_of (take k names)) name → P name)
    → P (bytes_of (slice_index_or names k d)) → (name : List ℕ) → Has (map bytes_of (take (suc k) names)) name → P name
last_suc [] k d P at early last name h = absurd (omega (arith, at))
last_suc (x ∷ names) zero d P at early last name (inl same) = subst P (sym same) last
last_suc (x ∷ names) zero d P at early last name (inr later) = absurd later
last_suc (x ∷ names) (suc k) d P at early last name (inl same) = early name (inl same)
last_suc (x ∷ names) (suc k) d P at early last name (inr later) = last_suc names k d P (omega (arith, at)) (λ other h. early other (inr h)) last name later

-- what is true of the texts before one and of this one is true of all up to it
pub last_one : (names : List (Bor (List ℕ))) (k : ℕ) (d : Bor (List ℕ)) (P : List ℕ → Type 0) → k < length names → ((name : List ℕ) → Has (map bytes_of (take k names)) name → P name)
    → P (bytes_of (slice_index_or names k d)) → (name : List ℕ) → Has (map bytes_of (take (k + 1) names)) name → P name
last_one names k d P at early last name h =
    let next : k + 1 ≡ suc k = omega arith in
    last_suc names k d P at early last name (subst (λ (n : ℕ). Has (map bytes_of (take n names)) name) next h)
