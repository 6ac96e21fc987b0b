-- The tables that are missing in an edition are made, one after another.
use Rattle.office_tables.proofs.Names.{◌≡◌, ◌⊎◌, inl, inr, ℕ, true, false, List, [], ◌∷◌, filter, map, sym, ap, subst, ◌∙◌, true≢false, arith, nat_lt, cases_Bool, ltb-true, lt-ltb, Has, has_kept, Database, MakesMissing, came_with, lacks_table, later_line, later_tables, IsIn, IsCreate, AreMade, Makes, onto, OfficeTable, table_of, all_tables}
use Rattle.sqlite.specs.State.{State}
use Rattle.office_tables.specs.Steps.{Goes}
use Rattle.office_tables.proofs.Each.{each, listed}
use Rattle.office_tables.proofs.MakingSteps.{makes_then}

-- ---- which they are

has_onto : (done ks : List OfficeTable) (k : OfficeTable) → Has done k ⊎ Has ks k → Has (onto done ks) k
has_onto done [] k (inl h) = h
has_onto done [] k (inr none) = absurd none
has_onto done (x ∷ ks) k (inl h) = has_onto (x ∷ done) ks k (inl (inr h))
has_onto done (x ∷ ks) k (inr (inl same)) = has_onto (x ∷ done) ks k (inl (inl same))
has_onto done (x ∷ ks) k (inr (inr h)) = has_onto (x ∷ done) ks k (inr h)

-- a table that is missing in an edition came after edition 0
pub is_later : (edition : ℕ) (k : OfficeTable) → lacks_table edition k ≡ true → Has later_tables k
is_later edition k lacks =
    let late : lacks_table 0 k ≡ true = lt-ltb 0 (came_with k) (omega (arith, ltb-true edition (came_with k) lacks)) in
    has_onto [] (filter (lacks_table 0) all_tables) k (inr (has_kept (lacks_table 0) all_tables k (listed k) late))

-- ---- they are made

makes_none : (a b : State) → Goes a b → b.now ≡ a.now → Makes a b []
makes_none a b goes same = record {
  goes = goes;
  others = λ t there. (subst (λ (d : Database). Has d.schema.tables t) (sym same) there, ap (λ (d : Database). d.trees t.tree) same);
  fresh = tt;
  added = λ t there. inl (subst (λ (d : Database). Has d.schema.tables t) same there);
  stays = λ k n was. (subst (λ (d : Database). IsIn d.schema (table_of k) n) (sym same) was, ap (λ (d : Database). d.trees n) same);
  made = λ done was. subst (AreMade done) (sym same) was;
}

abbrev pub LaterLine : Type 0
LaterLine = ℕ × List ℕ × List ℕ

-- some tables were made, the lines of others are left, and each missing table is in one of these lists
abbrev pub MadeLater : ℕ → State → State → List LaterLine → Type 0
MadeLater edition old now left =
    (done : List OfficeTable) × (rest : List OfficeTable) × (map later_line rest ≡ left) × ((k : OfficeTable) → lacks_table edition k ≡ true → Has done k ⊎ Has rest k) × Makes old now done

pub later_first : (edition : ℕ) (a b : State) (ks : List OfficeTable) (left : List LaterLine) → Goes a b → b.now ≡ a.now → map later_line ks ≡ left → ((k : OfficeTable) → lacks_table edition k ≡ true → Has ks k)
    → MadeLater edition a b left
later_first edition a b ks left goes same lines all = ([], ks, lines, (λ k h. inr (all k h)), makes_none a b goes same)

-- the line of a table that exists is skipped
pub later_more : (edition : ℕ) (a b c : State) (line : LaterLine) (left : List LaterLine) → (nat_lt edition line.0 ≡ true → (k : OfficeTable) → IsCreate line.2 (table_of k) → Makes b c (k ∷ []))
    → (nat_lt edition line.0 ≡ false → c ≡ b) → MadeLater edition a b (line ∷ left) → MadeLater edition a c left
later_more edition a b c line left one same (done, [], lines, all, made) = absurd (cc)
later_more edition a b c line left one same (done, k ∷ rest, lines, all, made) =
    let here : later_line k ≡ line = cc in
    let more : map later_line rest ≡ left = cc in
    elim (cases_Bool (nat_lt edition line.0)) [
      | inl lacks ↦ (k ∷ done, rest, more, (λ j h. taken j (all j h)), makes_then a b c done (k ∷ []) made (one lacks k (subst (λ (l : LaterLine). IsCreate l.2 (table_of k)) here (each k).created)))
      | inr there ↦ (done, rest, more, (λ j h. passed there here j h (all j h)), subst (λ (s : State). Makes a s done) (sym (same there)) made)
    ]
  where
    taken : (j : OfficeTable) → Has done j ⊎ ((j ≡ k) ⊎ Has rest j) → Has (k ∷ done) j ⊎ Has rest j
    taken j (inl h) = inl (inr h)
    taken j (inr (inl is)) = inl (inl is)
    taken j (inr (inr h)) = inr h

    passed : nat_lt edition line.0 ≡ false → later_line k ≡ line → (j : OfficeTable) → lacks_table edition j ≡ true → Has done j ⊎ ((j ≡ k) ⊎ Has rest j) → Has done j ⊎ Has rest j
    passed there here j lacks (inl h) = inl h
    passed there here j lacks (inr (inl is)) = absurd (true≢false (sym lacks ∙ ap (lacks_table edition) is ∙ ap (λ (l : LaterLine). nat_lt edition l.0) here ∙ there))
    passed there here j lacks (inr (inr h)) = inr h

pub later_all : (edition : ℕ) (a b : State) → MadeLater edition a b [] → MakesMissing edition a b
later_all edition a b (done, [], lines, all, made) = (done, (λ k h. elim (all k h) [ inl there ↦ there | inr none ↦ absurd none ]), made)
later_all edition a b (done, k ∷ rest, lines, all, made) = absurd (cc)
