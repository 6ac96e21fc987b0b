-- DELETE of the row of one key is `row_drop` of the table.
use Rattle.office_tables.proofs.Names.{◌≡◌, inl, inr, Bool, true, false, cond, List, [], ◌∷◌, ◌++◌, map, Some, None, refl, sym, ap, subst, ◌∙◌, Ordering, true≢false, cases_Bool, IsPermutation, IsPermutation-sym, IsTotalOrder, tied_itself, IsAntisymmetric, is_eq, eq_by_cmp, Value, Row, rowid, IsTable, Env, Has, id_in, without_all, ids_of, all_has, all_from, row_at_is, left_or_taken, mapped_has, row_drop, equal_keys, IsKeyed, in_order-drop, row_at-row_drop, key_of, entry, rows_kept, AreKept, Stand}
use Rattle.std.specs.FinMap.{find}
use Rattle.sqlite_sql.specs.Query.{Output}
use Rattle.sqlite_rules.specs.Edit as edit
use Rattle.office_tables.proofs.Sorted.{same_rows}
use Rattle.office_tables.proofs.KeptRows.{found}
use Rattle.office_tables.proofs.KeptRows.{finds, in_order-rows_kept}
use Rattle.office_tables.proofs.RowsPut.{left_from, unmapped, left_up, at_itself}
use Rattle.office_tables.proofs.Selected.{picked, permuted_has}

-- the rows that pass, each shown as its rowid
module _ (p : Row → Bool) (env : Row → Env) where
  pub has_picked : (rows : List Row) (r : Row) → Has rows r → p r ≡ true → Has (picked p env rows) (env r)
  has_picked [] r h is = absurd h
  has_picked (x ∷ rows) r (inl same) is = rw (ap p (sym same) ∙ is) (inl (ap env same))
  has_picked (x ∷ rows) r (inr more) is = elim (p x) as (λ b. Has (cond b (env x ∷ []) [] ++ picked p env rows) (env r)) [ true ↦ inr (has_picked rows r more is) | false ↦ has_picked rows r more is ]

  picked_has : (rows : List Row) (e : Env) → Has (picked p env rows) e → (r : Row) × Has rows r × (p r ≡ true) × (e ≡ env r)
  picked_has [] e h = absurd h
  picked_has (x ∷ rows) e h = by (p x) refl (picked_has rows e) h
    where
      From : List Row → Type 0
      From zs = (r : Row) × Has zs r × (p r ≡ true) × (e ≡ env r)

      by : (b : Bool) → p x ≡ b → (Has (picked p env rows) e → From rows) → Has (cond b (env x ∷ []) [] ++ picked p env rows) e → From (x ∷ rows)
      by true is rest (inl same) = (x, inl refl, is, same)
      by true is rest (inr more) = let r = rest more in (r.0, inr r.1, r.2, r.3)
      by false is rest more = let r = rest more in (r.0, inr r.1, r.2, r.3)

module _ {K X : Type 0} (R : K → K → Ordering) (total : IsTotalOrder R) (same : IsAntisymmetric R) (key : X → K) (form : Value → X → Row) (decode : Row → X) where
  -- the rows without those of one key
  record IsDrop (old new : List Row) (k : K) : Type 0 where
    from : (r : Row) → Has new r → Has old r × (key_of R key form decode r ≡ k → ⊥)
    left : (r : Row) → Has old r → (key_of R key form decode r ≡ k → ⊥) → Has new r

  abbrev Kept : List Row → Type 0
  Kept = AreKept R key form decode

  kept_drop : (old new : List Row) (k : K) → Kept old → IsTable new → IsDrop old new k → Kept new
  kept_drop old new k was up it = record {
    rising = up;
    each = all_from _ new (λ r h. all_has _ old r was.each (it.from r h).0);
    one = λ a b h i e. was.one a b (it.from a h).0 (it.from b i).0 e;
  }

  finds_drop : (old new : List Row) (k : K) → Kept old → IsDrop old new k → (q : K)
      → find R q (map (entry R key form decode) new) ≡ cond (eq_by_cmp R q k) None (find R q (map (entry R key form decode) old))
  finds_drop old new k was it q = elim (cases_Bool (eq_by_cmp R q k)) [
    | inl tie ↦ rw tie (elim (found R total same key form decode new q) [
      | inl f ↦ absurd ((it.from f.0 f.1).1 (f.2 ∙ equal_keys same q k tie))
      | inr none ↦ none.1
    ])
    | inr apart ↦ (
        let differs : q ≡ k → ⊥ = λ e. true≢false (sym (rw (← e) (ap is_eq (tied_itself total q))) ∙ apart) in
        rw apart (elim (found R total same key form decode new q) [
          | inl f ↦ elim (found R total same key form decode old q) [
            | inl g ↦ f.3 ∙ ap (λ r. Some (decode r)) (was.one f.0 g.0 (it.from f.0 f.1).0 g.1 (f.2 ∙ sym g.2)) ∙ sym g.3
            | inr none ↦ absurd (none.0 f.0 (it.from f.0 f.1).0 f.2)
          ]
          | inr none ↦ elim (found R total same key form decode old q) [
            | inl g ↦ absurd (none.0 g.0 (it.left g.0 g.1 (λ e. differs (sym g.2 ∙ e))) g.2)
            | inr empty ↦ none.1 ∙ sym empty.1
          ]
        ])
        )
  ]

  drop_is : (old new : List Row) (k : K) → Kept old → IsDrop old new k → rows_kept R key form decode new ≡ row_drop R key (rows_kept R key form decode old) k
  drop_is old new k was it =
      let t : IsKeyed R key = record { total = total; exact = same } in
      let up = in_order-rows_kept R total same key form decode old in
      same_rows t _ _ (in_order-rows_kept R total same key form decode new) (in_order-drop total key _ k up) (λ q.
      finds R total same key form decode new q ∙ finds_drop old new k was it q
      ∙ sym (row_at-row_drop t (rows_kept R key form decode old) k q up ∙ ap (cond (eq_by_cmp R q k) None) (finds R total same key form decode old q)))

  -- the rows whose rowids aren't in the answer
  module _ (rows : List Row) (was : Kept rows) (k : K) (p : Row → Bool) (passing : (r : Row) → Has rows r → p r ≡ eq_by_cmp R k (key_of R key form decode r)) (env : Row → Env) (out : Env → Output)
      (shown : (r : Row) → (out (env r)).1 ≡ rowid r ∷ []) (ordered : List Output) (same_rows_are : IsPermutation (map out (picked p env rows)) ordered) where
    abbrev answer : List Row
    answer = map (λ (o : Output). o.1) ordered

    abbrev left : List Row
    left = without_all rows (ids_of answer)

    -- each row that passes is in the answer, and no other row is
    listed : (r : Row) → Has rows r → p r ≡ true → Has answer (rowid r ∷ [])
    listed r h is =
        let o : Has ordered (out (env r)) = permuted_has ordered (map out (picked p env rows)) (out (env r)) (IsPermutation-sym (map out (picked p env rows)) ordered same_rows_are) (mapped_has out (picked p env rows) (env r) (has_picked p env rows r h is)) in
        subst (Has answer) (shown r) (mapped_has (λ (o : Output). o.1) ordered (out (env r)) o)

    passed : (x : Row) → Has answer x → (r : Row) × Has rows r × (p r ≡ true) × (x ≡ rowid r ∷ [])
    passed x h =
        let o = unmapped (λ (o : Output). o.1) ordered x h in
        let e = unmapped out (picked p env rows) o.0 (permuted_has (map out (picked p env rows)) ordered o.0 same_rows_are o.1) in
        let r = picked_has p env rows e.0 e.1 in
        (r.0, r.1, r.2, o.2 ∙ ap (λ (o : Output). o.1) (e.2 ∙ ap out r.3) ∙ shown r.0)

    dropped : IsDrop rows left k
    dropped = record {
      from = λ r h.
          let l = left_from (ids_of answer) rows r h in (
            l.0,
            λ e.
                let is : p r ≡ true = passing r l.0 ∙ ap (eq_by_cmp R k) e ∙ ap is_eq (tied_itself total k) in
                true≢false (sym (at_itself r (all_has _ rows r was.each l.0).0) ∙ l.1 (id_in (rowid r)) (mapped_has (λ y. id_in (rowid y)) answer (rowid r ∷ []) (listed r l.0 is))),
          );
      left = λ r h apart. elim (left_or_taken rows (ids_of answer) r was.rising h) [
        | inl kept ↦ kept
        | inr taken ↦ absurd (
            let at = unmapped (edit.row_at rows) (ids_of answer) r taken in
            let y = unmapped (λ z. id_in (rowid z)) answer at.0 at.1 in
            let s = passed y.0 y.1 in
            let id : at.0 ≡ id_in (rowid s.0) = y.2 ∙ ap (λ z. id_in (rowid z)) s.3 in
            let row : r ≡ s.0 = at.2 ∙ ap (edit.row_at rows) id ∙ row_at_is rows (id_in (rowid s.0)) s.0 was.rising s.1 (at_itself s.0 (all_has _ rows s.0 was.each s.1).0) in
            apart (ap (key_of R key form decode) row ∙ sym (equal_keys same k _ (sym (passing s.0 s.1) ∙ s.2))))
      ];
    }

    pub drops : (xs : List X) → rows_kept R key form decode rows ≡ xs → Stand R key form decode left (row_drop R key xs k)
    drops xs is = record {
      kept = kept_drop rows left k was (left_up (ids_of answer) rows was.rising) dropped;
      is = drop_is rows left k was dropped ∙ ap (λ (ys : List X). row_drop R key ys k) is;
    }
