-- If nothing of other programs leads to the tables that a migration changes, all other tables keep their rows.
use Rattle.office_store.proofs.Names.{◌≡◌, ◌⊎◌, inl, inr, ℕ, ◌==◌, ◌||◌, Bool, true, false, cond, List, [], ◌∷◌, Option, Some, None, find, refl, sym, ap, ◌∙◌, subst, true≢false, not, ◌&&◌, option_and_then, option_map, slice_get, list_any, eq-eqb, eqb-true, or_cases, or_left, or_right, cases_Bool, Reference, Schema, Table, same_name, ParentKey, parent_key, key_in, key_places, Has, has_found, some_from, Database, Tables, LeadsInside, AreApart, IsMigrated, changed_tables, changed_where, had_former, IsIn, at_tree, OfficeTable, table_of, FormerNotices, Notices, Office, KeepsRest, is_changed, is_changed_where, leads_there, refers_there}

-- ---- tests that fail

or_false : (a b : Bool) → (a || b) ≡ false → (a ≡ false) × (b ≡ false)
or_false false b h = (refl, h)
or_false true b h = absurd (true≢false h)

none_passes : {X : Type 0} (p : X → Bool) (xs : List X) (x : X) → list_any p xs ≡ false → Has xs x → p x ≡ false
none_passes p xs x fails h = elim (cases_Bool (p x)) [ inl passes ↦ absurd (true≢false (sym (some_from p xs x h passes) ∙ fails)) | inr fails ↦ fails ]

-- ---- the names of the changed tables

changed : (had : Bool) (k : OfficeTable) → Has (changed_where had) k → is_changed_where had (table_of k).name ≡ true
unfolding same_name
changed true k (inl e) = ap (λ (j : OfficeTable). is_changed_where true (table_of j).name) e
changed true k (inr (inl e)) = ap (λ (j : OfficeTable). is_changed_where true (table_of j).name) e
changed true k (inr (inr (inl e))) = ap (λ (j : OfficeTable). is_changed_where true (table_of j).name) e
changed true k (inr (inr (inr none))) = absurd none
changed false k (inl e) = ap (λ (j : OfficeTable). is_changed_where false (table_of j).name) e
changed false k (inr none) = absurd none

-- a name that finds one of these tables is one of the changed names
as_changed : (had : Bool) (k : OfficeTable) → Has (changed_where had) k → (name : List ℕ) → same_name (table_of k).name name ≡ true → is_changed_where had name ≡ true
as_changed true k (inl e) name same = or_left _ _ (subst (λ (j : OfficeTable). same_name (table_of j).name name ≡ true) e same)
as_changed true k (inr (inl e)) name same = or_right _ _ (or_left _ _ (subst (λ (j : OfficeTable). same_name (table_of j).name name ≡ true) e same))
as_changed true k (inr (inr (inl e))) name same = or_right _ _ (or_right _ _ (subst (λ (j : OfficeTable). same_name (table_of j).name name ≡ true) e same))
as_changed true k (inr (inr (inr none))) name same = absurd none
as_changed false k (inl e) name same = or_left _ _ (subst (λ (j : OfficeTable). same_name (table_of j).name name ≡ true) e same)
as_changed false k (inr none) name same = absurd none

-- ---- their trees

abbrev is_theirs : Bool → (OfficeTable → ℕ) → ℕ → Bool
is_theirs had place n = (n == place Office) || (had && ((n == place FormerNotices) || (n == place Notices)))

which : (had : Bool) (place : OfficeTable → ℕ) (n : ℕ) → is_theirs had place n ≡ true → (k : OfficeTable) × Has (changed_where had) k × (n ≡ place k)
which true place n h = elim (or_cases (n == place Office) ((n == place FormerNotices) || (n == place Notices)) h) [
  | inl clock ↦ (Office, inl refl, eqb-true _ _ clock)
  | inr rest ↦ elim (or_cases (n == place FormerNotices) (n == place Notices) rest) [ inl former ↦ (FormerNotices, inr (inl refl), eqb-true _ _ former) | inr notices ↦ (Notices, inr (inr (inl refl)), eqb-true _ _ notices) ]
]
which false place n h = elim (or_cases (n == place Office) false h) [ inl clock ↦ (Office, inl refl, eqb-true _ _ clock) | inr none ↦ absurd (true≢false (sym none)) ]

theirs : (had : Bool) (place : OfficeTable → ℕ) (k : OfficeTable) → Has (changed_where had) k → is_theirs had place (place k) ≡ true
theirs true place k (inl e) = or_left _ _ (eq-eqb _ _ (ap place e))
theirs true place k (inr (inl e)) = or_right _ _ (or_left _ _ (eq-eqb _ _ (ap place e)))
theirs true place k (inr (inr (inl e))) = or_right _ _ (or_right _ _ (eq-eqb _ _ (ap place e)))
theirs true place k (inr (inr (inr none))) = absurd none
theirs false place k (inl e) = or_left _ _ (eq-eqb _ _ (ap place e))
theirs false place k (inr none) = absurd none

-- ---- the parent that a reference finds

key_tree : (p : Table) (o : Option (List ℕ)) (key : ParentKey) → option_and_then (key_in p) o ≡ Some key → key.0 ≡ p.tree
key_tree p None key h = absurd (cc)
key_tree p (Some places) key h = by _ h
  where
    by : (d : Option _) → option_map (λ o. (p.tree, places, o)) d ≡ Some key → key.0 ≡ p.tree
    by None e = absurd (cc)
    by (Some d) e = let same : key ≡ (p.tree, places, d) = cc in ap (λ (k : ParentKey). k.0) same

parent : (tables : List Table) (r : Reference) (key : ParentKey) → parent_key tables r ≡ Some key → (p : Table) × Has tables p × (same_name p.name r.parent ≡ true) × (key.0 ≡ p.tree)
parent tables r key h = by (find (λ (t : Table). same_name t.name r.parent) tables) refl h
  where
    by : (o : Option Table) → find (λ (t : Table). same_name t.name r.parent) tables ≡ o → option_and_then (λ (t : Table). option_and_then (key_in t) (key_places t r.parent_columns)) o ≡ Some key
        → (p : Table) × Has tables p × (same_name p.name r.parent ≡ true) × (key.0 ≡ p.tree)
    by None e h = absurd (cc)
    by (Some p) e h = let found = has_found (λ (t : Table). same_name t.name r.parent) tables p e in (p, found.0, found.1, key_tree p (key_places p r.parent_columns) key h)

-- ---- a table of the office is at one tree

one_tree : (schema : Schema) (table : Table) (m n : ℕ) → IsIn schema table m → IsIn schema table n → m ≡ n
one_tree schema table m n a b =
    let places : Some a.place ≡ Some b.place = sym a.named ∙ b.named in
    let place : a.place ≡ b.place = cc in
    let tables : Some (at_tree table m) ≡ Some (at_tree table n) = sym a.found ∙ ap (slice_get schema.tables) place ∙ b.found in
    let same : at_tree table m ≡ at_tree table n = cc in
    ap (λ (t : Table). t.tree) same

module _ (edition : ℕ) (t : Tables) (old new : Database) (it : IsMigrated edition t old new) (apart : leads_there edition old.schema ≡ false) where
  abbrev had : Bool
  had = had_former edition

  abbrev place : OfficeTable → ℕ
  place k = it.held.places k

  abbrev unmarked : ℕ → Bool
  unmarked n = is_theirs had place n

  abbrev marked : ℕ → Bool
  marked n = not (unmarked n)

  -- a table that isn't marked is one of the changed tables
  of_changed : (u : Table) → Has new.schema.tables u → unmarked u.tree ≡ true → (k : OfficeTable) × Has (changed_tables edition) k × (u ≡ at_tree (table_of k) u.tree)
  of_changed u there h =
      let one = which had place u.tree h in
      (one.0, one.1, (it.held.tables one.0).alone u there one.2 ∙ ap (at_tree (table_of one.0)) (sym one.2))

  references : (u : Table) (r : Reference) → Has old.schema.tables u → Has u.references r → is_changed edition r.parent ≡ false
  references u r there has = none_passes (λ (q : Reference). is_changed edition q.parent) u.references r (none_passes (refers_there edition) old.schema.tables u (or_false _ _ apart).0 there) has

  inside : LeadsInside new.schema marked
  inside u r key there is_marked has is = elim (it.added u there) [
    | inl stood ↦ (
        let p = parent new.schema.tables r key is in
        elim (cases_Bool (unmarked p.0.tree)) [
          | inl is_one ↦ (
              let k = of_changed p.0 p.1 is_one in
              let called : p.0.name ≡ (table_of k.0).name = ap (λ (v : Table). v.name) k.2 in
              absurd (true≢false (sym (as_changed had k.0 k.1 r.parent (ap (λ n. same_name n r.parent) (sym called) ∙ p.2)) ∙ references u r stood has)))
          | inr is_none ↦ ap marked p.3 ∙ ap not is_none
        ])
    | inr bare ↦ absurd (subst (λ (rs : List Reference). Has rs r) bare has)
  ]

  are_apart : AreApart edition new.schema marked
  are_apart = record {
    inside = inside;
    others = λ k among n is. ap marked (one_tree new.schema (table_of k) n (place k) is (it.held.tables k)) ∙ ap not (theirs had place k among);
  }

  pub keeps_rest : KeepsRest edition old new
  keeps_rest u stood =
      let kept = it.others u stood in (
        kept.0,
        λ plain. elim (cases_Bool (unmarked u.tree)) [
          | inl is_one ↦ (
              let k = of_changed u kept.0 is_one in
              absurd (true≢false (sym (changed had k.0 k.1) ∙ ap (is_changed edition) (sym (ap (λ (v : Table). v.name) k.2)) ∙ plain)))
          | inr is_none ↦ kept.1 marked are_apart (ap not is_none)
        ],
      )
