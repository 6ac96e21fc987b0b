-- A new row that replaces the row with its key, if there is one, is `row_put` of the table.
use Rattle.office_tables.proofs.Names.{◌≡◌, inl, inr, ℤ, true, false, not, List, [], ◌∷◌, map, refl, sym, ap, ap₂, ◌∙◌, Ordering, true≢false, not-true, is_eq, IsTotalOrder, tied_itself, IsAntisymmetric, row_put, Value, Row, value_cmp, value_cmp_total, rowid, IsTable, has_rowid, put_row, without_rowid, is_int, ascending-filter, IsTable-put_row, Has, id_in, without_all, is_taken, are_fresh, all_has, has_filtered, int_is, put_all_has, put_all_keeps, put_all_adds, row_at_is, left_or_taken, key_of, rows_kept, AreKept, Stand}
use Rattle.sqlite_rules.specs.Edit.{row_at}
use Rattle.office_tables.proofs.KeptRows.{IsPut, kept_put, put_is}

pub left_from : (ids : List ℤ) (rows : List Row) (x : Row) → Has (without_all rows ids) x → Has rows x × ((id : ℤ) → Has ids id → has_rowid id x ≡ false)
left_from [] rows x h = (h, λ id none. absurd none)
left_from (id ∷ ids) rows x h =
    let r = left_from ids (without_rowid id rows) x h in
    let was = has_filtered (λ y. not (has_rowid id y)) rows x r.0 in
    (was.0, λ other k. elim k [ inl e ↦ rw e (not-true _ was.1) | inr more ↦ r.1 other more ])

pub unmapped : {A B : Type 0} (f : A → B) (xs : List A) (y : B) → Has (map f xs) y → (x : A) × Has xs x × (y ≡ f x)
unmapped f [] y h = absurd h
unmapped f (x ∷ xs) y (inl e) = (x, inl refl, e)
unmapped f (x ∷ xs) y (inr h) = let r = unmapped f xs y h in (r.0, inr r.1, r.2)

pub left_up : (ids : List ℤ) (rows : List Row) → IsTable rows → IsTable (without_all rows ids)
left_up [] rows up = up
left_up (id ∷ ids) rows up = left_up ids (without_rowid id rows) (ascending-filter _ (λ r. not (has_rowid id r)) rows up)

pub at_itself : (r : Row) → is_int (rowid r) ≡ true → has_rowid (id_in (rowid r)) r ≡ true
at_itself r h = ap (λ v. is_eq (value_cmp (rowid r) v)) (sym (int_is (rowid r) h)) ∙ ap is_eq (tied_itself value_cmp_total (rowid r))

module _ {K X : Type 0} (R : K → K → Ordering) (total : IsTotalOrder R) (same : IsAntisymmetric R) (key : X → K) (form : Value → X → Row) (decode : Row → X)
    (rows : List Row) (was : AreKept R key form decode rows) (x : X) (new : Row) (is : decode new ≡ x) (int : is_int (rowid new) ≡ true) (shaped : new ≡ form (rowid new) x)
    (ids : List ℤ) (free : is_taken (without_all rows ids) new ≡ false)
    (listed : (r : Row) → Has rows r → key_of R key form decode r ≡ key x → Has ids (id_in (rowid r)))
    (own : (id : ℤ) → Has ids id → (r : Row) × Has rows r × (key_of R key form decode r ≡ key x) × (id ≡ id_in (rowid r))) where
  abbrev after : List Row
  after = put_row new (without_all rows ids)

  int_of : (r : Row) → Has rows r → is_int (rowid r) ≡ true
  int_of r h = (all_has _ rows r was.each h).0

  put : IsPut R total same key form decode rows after new
  put =
      let fresh : are_fresh (without_all rows ids) (new ∷ []) ≡ true = rw free in
      record {
        there = put_all_adds (new ∷ []) (without_all rows ids) new fresh (inl refl);
        from = λ r h. elim (put_all_has (new ∷ []) (without_all rows ids) r h) [
          | inl added ↦ elim added [ inl e ↦ inl e | inr none ↦ absurd none ]
          | inr left ↦ (
              let l = left_from ids rows r left in
              inr (l.0, λ e. true≢false (sym (at_itself r (int_of r l.0)) ∙ l.1 (id_in (rowid r)) (listed r l.0 (e ∙ ap key is)))))
        ];
        kept = λ r h apart. elim (left_or_taken rows ids r was.rising h) [
          | inl left ↦ put_all_keeps (new ∷ []) (without_all rows ids) r fresh left
          | inr taken ↦ absurd (
              let at = unmapped (row_at rows) ids r taken in
              let s = own at.0 at.1 in
              let row : r ≡ s.0 = at.2 ∙ ap (row_at rows) s.3 ∙ row_at_is rows (id_in (rowid s.0)) s.0 was.rising s.1 (at_itself s.0 (int_of s.0 s.1)) in
              apart (ap (key_of R key form decode) row ∙ s.2 ∙ sym (ap key is)))
        ];
      }

  keeps : AreKept R key form decode after
  keeps = kept_put R total same key form decode rows after new was (IsTable-put_row new _ (left_up ids rows was.rising)) int (shaped ∙ ap (form (rowid new)) (sym is)) put

  -- the rows hold the table with the new record
  pub stands : (xs : List X) → rows_kept R key form decode rows ≡ xs → Stand R key form decode after (row_put R key xs x)
  stands xs e = record { kept = keeps; is = put_is R total same key form decode rows after new was keeps put ∙ ap₂ (λ (ys : List X) y. row_put R key ys y) e is }
