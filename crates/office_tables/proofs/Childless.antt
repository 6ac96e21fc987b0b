-- A write changes no table whose foreign keys don't lead to the written table, whatever actions the foreign keys of other tables cause.
use Rattle.office_tables.proofs.Names.{◌≡◌, ◌≢◌, inl, inr, ℕ, zero, suc, Bool, true, false, List, [], ◌∷◌, ◌++◌, Option, Some, None, Ok, Err, Result, refl, sym, ap, subst, ◌∙◌, cond, ◌&&◌, nat_lt, ◌+◌, ℤ, true≢false, ◌==◌, length, flat_map, filter_map, AllByRecursion, list_any, cons_option, cases_Bool, eqb-true, eq-eqb, MatchBool-at_true, MatchBool-at_false, Row, Trees, Keys, Reference, Table, Schema, ParentKey, parent_key, Refusal, Deed, Has, Edit, Applies, taken_by, Work, work_by, work_for, works, loses, pairs, deed_for, refuses, max_depth, Acts, ActsOn, Leads, action_edit, all_has, LeadsInside, KeepsMarked}
use Rattle.sqlite_rules.specs.Action.{Goes, Writes}

-- some table has this tree, and no table with this tree has a foreign key
pub record IsOwn (schema : Schema) (n : ℕ) : Type 0 where
  pub table : Table
  pub there : Has schema.tables table
  pub tree : table.tree ≡ n
  pub childless : (t : Table) → Has schema.tables t → t.tree ≡ n → t.references ≡ []

-- every set of marked tables whose foreign keys lead to marked tables alone keeps its rows, unless this tree is marked
abbrev pub SparesMarked : Schema → ℕ → Trees → Trees → Type 0
SparesMarked schema n old new = (marked : ℕ → Bool) → LeadsInside schema marked → marked n ≡ false → KeepsMarked schema marked old new

-- the action is on a table that isn't marked
abbrev pub IsElsewhere : (ℕ → Bool) → Work → Type 0
IsElsewhere marked w = marked w.child.tree ≡ false

-- no foreign key of a marked table leads to this tree
abbrev Avoids : Schema → (ℕ → Bool) → ℕ → Type 0
Avoids schema marked tree =
    (t : Table) (r : Reference) (key : ParentKey) → Has schema.tables t → marked t.tree ≡ true → Has t.references r → parent_key schema.tables r ≡ Some key → (key.0 == tree) ≡ false

no_end : {A : Type 0} {a : A} {e : Option Refusal} → ◌≡◌ {A = Result A (Option Refusal)} (Ok a) (Err e) → ⊥
no_end e = cc

same_end : {a b : Trees} → ◌≡◌ {A = Result Trees (Option Refusal)} (Ok a) (Ok b) → a ≡ b
same_end e = cc

pub all-append : {X : Type 0} (P : X → Type 0) (xs ys : List X) → AllByRecursion P xs → AllByRecursion P ys → AllByRecursion P (xs ++ ys)
all-append P [] ys h k = k
all-append P (x ∷ xs) ys h k = (h.0, all-append P xs ys h.1 k)

all-front : {X : Type 0} (P : X → Type 0) (xs ys : List X) → AllByRecursion P (xs ++ ys) → AllByRecursion P xs × AllByRecursion P ys
all-front P [] ys h = (tt, h)
all-front P (x ∷ xs) ys h = let r = all-front P xs ys h.1 in ((h.0, r.0), r.1)

module _ (schema : Schema) (keys : Keys) (marked : ℕ → Bool) (inside : LeadsInside schema marked) where
  avoids : (tree : ℕ) → marked tree ≡ false → Avoids schema marked tree
  avoids tree out t r key there is_marked has is = elim (cases_Bool (key.0 == tree)) [
    | inl same ↦ absurd (true≢false (sym (inside t r key there is_marked has is) ∙ ap marked (eqb-true key.0 tree same) ∙ out))
    | inr other ↦ other
  ]

  work_elsewhere : (depth tree : ℕ) (moves : List (Row × Row)) (child : Table) (ref : Reference) (deed : Option Deed) (key : Option ParentKey)
      → (marked child.tree ≡ true → (k : ParentKey) → key ≡ Some k → (k.0 == tree) ≡ false)
      → (o : Option Work) → work_by depth tree moves child ref deed key ≡ o → AllByRecursion (IsElsewhere marked) (cons_option o [])
  work_elsewhere depth tree moves child ref deed key away None e = tt
  work_elsewhere depth tree moves child ref None key away (Some w) e = absurd (cc)
  work_elsewhere depth tree moves child ref (Some deed) None away (Some w) e = absurd (cc)
  work_elsewhere depth tree moves child ref (Some deed) (Some key) away (Some w) e = (by (key.0 == tree) refl e, tt)
    where
      made : Work
      made = record { depth = depth; child = child; ref = ref; places = key.1; order = key.2; deed = deed; moves = moves }

      outside : (key.0 == tree) ≡ true → marked child.tree ≡ false
      outside same = elim (cases_Bool (marked child.tree)) [
        | inl is_marked ↦ absurd (true≢false (sym same ∙ away is_marked key refl))
        | inr unmarked ↦ unmarked
      ]

      is_made : (b : Bool) → cond b (Some made) None ≡ Some w → made ≡ w
      is_made true h = cc
      is_made false h = absurd (cc)

      by : (b : Bool) → (key.0 == tree) ≡ b → cond (b && list_any (loses key.2 key.1) moves) (Some made) None ≡ Some w → marked w.child.tree ≡ false
      by true same h = subst (λ (v : Work). marked v.child.tree ≡ false) (is_made (list_any (loses key.2 key.1) moves) h) (outside same)
      by false other h = absurd (cc)

  refs_elsewhere : (depth tree : ℕ) (olds news : List Row) (child : Table) (refs : List Reference) → Avoids schema marked tree → Has schema.tables child → ((r : Reference) → Has refs r → Has child.references r)
      → AllByRecursion (IsElsewhere marked) (filter_map (work_for schema keys depth tree olds news child) refs)
  refs_elsewhere depth tree olds news child [] away there among = tt
  refs_elsewhere depth tree olds news child (r ∷ refs) away there among = by (work_for schema keys depth tree olds news child r) refl (refs_elsewhere depth tree olds news child refs away there (λ s h. among s (inr h)))
    where
      by : (o : Option Work) → work_for schema keys depth tree olds news child r ≡ o → AllByRecursion (IsElsewhere marked) (filter_map (work_for schema keys depth tree olds news child) refs)
          → AllByRecursion (IsElsewhere marked) (filter_map (work_for schema keys depth tree olds news child) (r ∷ refs))
      by None e rest = rw e rest
      by (Some w) e rest =
          let one = work_elsewhere depth tree (pairs olds news) child r (deed_for keys (length news == 0) r) (parent_key schema.tables r) (λ is_marked key is. away child r key there is_marked (among r (inl refl)) is) (Some w) e in
          rw e (one.0, rest)

  works_elsewhere : (depth tree : ℕ) (olds news : List Row) → Avoids schema marked tree → AllByRecursion (IsElsewhere marked) (works schema keys depth tree olds news)
  works_elsewhere depth tree olds news away = each schema.tables (λ t h. h)
    where
      each : (ts : List Table) → ((t : Table) → Has ts t → Has schema.tables t) → AllByRecursion (IsElsewhere marked) (flat_map (λ child. filter_map (work_for schema keys depth tree olds news child) child.references) ts)
      each [] among = tt
      each (t ∷ ts) among = all-append _ _ _ (refs_elsewhere depth tree olds news t t.references away (among t (inl refl)) (λ r h. h)) (each ts (λ u h. among u (inr h)))

  applied : (db next : Trees) (edit : Edit) → marked edit.table.tree ≡ false → Applies schema keys db edit next → KeepsMarked schema marked db next
  applied db next edit out it t there is_marked =
      all_has (λ (t : Table). t.tree ≢ edit.table.tree → next t.tree ≡ db t.tree) schema.tables t it.tables there (λ same. true≢false (sym is_marked ∙ ap marked same ∙ out))

  -- the remaining actions leave the marked tables as they are, after one more step
  abbrev LeadsOn : ℕ → Trees → Type 0
  LeadsOn count next = (db : Trees) (stack : List Work) → AllByRecursion (IsElsewhere marked) stack → Leads schema keys count db stack (Ok next) → KeepsMarked schema marked db next

  goes : (count depth : ℕ) (db next : Trees) (below : List Work) (edit : Edit) → LeadsOn count next → AllByRecursion (IsElsewhere marked) below → marked edit.table.tree ≡ false
      → Goes schema keys (Leads schema keys count) db edit depth below (Ok next) → KeepsMarked schema marked db next
  goes count depth db next below edit rest all out (inl refused) t there is_marked = absurd (no_end refused.2)
  goes count depth db next below edit rest all out (inr (inl big)) t there is_marked = absurd (no_end big.3)
  goes count depth db next below edit rest all out (inr (inr went)) t there is_marked =
      rest went.0 (below ++ works schema keys depth edit.table.tree (taken_by db edit) edit.news) (all-append _ _ _ all (works_elsewhere depth edit.table.tree (taken_by db edit) edit.news (avoids edit.table.tree out))) went.2 t there is_marked
      ∙ applied db went.0 edit out went.1 t there is_marked

  acts_on : (count : ℕ) (db next : Trees) (below : List Work) (w : Work) → LeadsOn count next → AllByRecursion (IsElsewhere marked) below → IsElsewhere marked w → (ids : List ℤ)
      → ActsOn schema keys (Leads schema keys count) db w below (Ok next) ids → KeepsMarked schema marked db next
  acts_on count db next below w rest all out [] h = rest db below all h
  acts_on count db next below w rest all out (id ∷ ids) h = elim (cases_Bool (refuses w.deed)) [
    | inl barred ↦ absurd (no_end (MatchBool-at_true _ _ barred h))
    | inr lets ↦ goes count (w.depth + 1) db next below (action_edit db w (id ∷ ids)) rest all out (MatchBool-at_false _ _ lets h)
  ]

  acts : (count : ℕ) (db next : Trees) (below : List Work) (w : Work) → LeadsOn count next → AllByRecursion (IsElsewhere marked) below → IsElsewhere marked w
      → Acts schema keys (Leads schema keys count) db w below (Ok next) → KeepsMarked schema marked db next
  acts count db next below w rest all out h = elim (cases_Bool (nat_lt w.depth max_depth)) [
    | inl deep ↦ (let g = MatchBool-at_true _ _ deep h in acts_on count db next below w rest all out g.0 g.2)
    | inr shallow ↦ absurd (no_end (MatchBool-at_false _ _ shallow h))
  ]

  leads : (count : ℕ) (db next : Trees) (stack : List Work) → AllByRecursion (IsElsewhere marked) stack → Leads schema keys count db stack (Ok next) → KeepsMarked schema marked db next
  leads zero db next stack all h t there is_marked = ap (λ (trees : Trees). trees t.tree) (same_end h.1)
  leads (suc count) db next stack all h t there is_marked =
      let parts = all-front (IsElsewhere marked) h.0 (h.1 ∷ []) (subst (AllByRecursion (IsElsewhere marked)) h.2 all) in
      acts count db next h.0 h.1 (λ db stack all h. leads count db next stack all h) parts.0 parts.1.0 h.3 t there is_marked

-- a table without foreign keys, as the only marked one, has no foreign key that leads out
module _ (schema : Schema) (n : ℕ) (own : IsOwn schema n) where
  abbrev alone : ℕ → Bool
  alone m = m == n

  nowhere : (t : Table) (r : Reference) → Has schema.tables t → alone t.tree ≡ true → Has t.references r → ⊥
  nowhere t r there is_marked has = subst (λ refs. Has refs r) (own.childless t there (eqb-true t.tree n is_marked)) has

  alone_inside : LeadsInside schema alone
  alone_inside t r key there is_marked has is = absurd (nowhere t r there is_marked has)

  alone_avoids : (tree : ℕ) → Avoids schema alone tree
  alone_avoids tree t r key there is_marked has is = absurd (nowhere t r there is_marked has)

  alone_kept : (old new : Trees) → KeepsMarked schema alone old new → new n ≡ old n
  alone_kept old new kept = subst (λ m. new m ≡ old m) own.tree (kept own.table own.there (ap alone own.tree ∙ eq-eqb n n refl))

-- A write changes a table without foreign keys only by its own step. It leaves sets of tables that are apart as they are.
pub record IsWritten (schema : Schema) (keys : Keys) (db : Trees) (edit : Edit) (next : Trees) : Type 0 where
  pub mid : Trees
  pub applies : Applies schema keys db edit mid
  pub own : (n : ℕ) → IsOwn schema n → next n ≡ mid n
  pub apart : SparesMarked schema edit.table.tree db next

pub writes : (schema : Schema) (keys : Keys) (db next : Trees) (edit : Edit) → Writes schema keys db edit (Ok next) → IsWritten schema keys db edit next
writes schema keys db next edit (inl refused) = absurd (no_end refused.2)
writes schema keys db next edit (inr (inl big)) = absurd (no_end big.3)
writes schema keys db next edit (inr (inr went)) = record {
  mid = went.0;
  applies = went.1;
  own = λ n own.
      alone_kept schema n own went.0 next
      (leads schema keys (alone schema n own) (alone_inside schema n own) went.2.0 went.0 next _
      (works_elsewhere schema keys (alone schema n own) (alone_inside schema n own) 0 edit.table.tree (taken_by db edit) edit.news (alone_avoids schema n own edit.table.tree)) went.2.1);
  apart = λ marked inside out t there is_marked.
      leads schema keys marked inside went.2.0 went.0 next _ (works_elsewhere schema keys marked inside 0 edit.table.tree (taken_by db edit) edit.news (avoids schema keys marked inside edit.table.tree out)) went.2.1 t there is_marked
      ∙ applied schema keys marked inside db went.0 edit out went.1 t there is_marked;
}

-- another table without foreign keys keeps its rows
pub spared_own : (schema : Schema) (n m : ℕ) (old new : Trees) → SparesMarked schema n old new → IsOwn schema m → n ≢ m → new m ≡ old m
spared_own schema n m old new spares own away = alone_kept schema m own old new (spares (alone schema m own) (alone_inside schema m own) unmarked)
  where
    unmarked : (n == m) ≡ false
    unmarked = elim (cases_Bool (n == m)) [ inl same ↦ absurd (away (eqb-true n m same)) | inr other ↦ other ]
