-- The rows of a table after one row is put.
use Rattle.office_tables.proofs.Names.{◌≡◌, ◌⊎◌, inl, inr, true, cond, List, [], ◌∷◌, map, Option, Some, None, refl, sym, ap, subst, ◌∙◌, Ordering, Less, Equal, Greater, true≢false, cases_Bool, eq_by_cmp, is_eq, IsTotalOrder, tied_itself, IsAntisymmetric, row_put, IsInOrder, row_at-row_put, in_order-put, Value, Row, rowid, IsTable, is_int, Has, all_has, all_from, key_of, entry, rows_kept, AreKept}
use Rattle.std.specs.FinMap.{find}
use Rattle.office_base.specs.Rows.{row_at}
use Rattle.office_tables.proofs.Sorted.{same_rows}

equal_is : (o : Ordering) → is_eq o ≡ true → o ≡ Equal
equal_is Less h = absurd (cc)
equal_is Equal h = refl
equal_is Greater h = absurd (cc)

module _ {K X : Type 0} (R : K → K → Ordering) (total : IsTotalOrder R) (same : IsAntisymmetric R) (key : X → K) (form : Value → X → Row) (decode : Row → X) where
  abbrev pub Found : List Row → K → Option X → Type 0
  Found rows q o =
      ((r : Row) × Has rows r × (key_of R key form decode r ≡ q) × (o ≡ Some (decode r)))
      ⊎ (((r : Row) → Has rows r → key_of R key form decode r ≡ q → ⊥) × (o ≡ None))

  pub found : (rows : List Row) (q : K) → Found rows q (find R q (map (entry R key form decode) rows))
  found [] q = inr (λ r none _. none, refl)
  found (r ∷ rows) q = elim (cases_Bool (eq_by_cmp R q (key (decode r)))) [
    | inl tie ↦ inl (r, inl refl, sym (same q (key (decode r)) (equal_is _ tie)), rw tie)
    | inr apart ↦ elim (found rows q) [
      | inl f ↦ inl (f.0, inr f.1, f.2, rw apart f.3)
      | inr none ↦ inr (
        λ x h e. elim h [
          | inl is ↦ (let t : eq_by_cmp R q (key (decode r)) ≡ true = rw (ap (λ y. key (decode y)) (sym is) ∙ e) (ap is_eq (tied_itself total q)) in true≢false (sym t ∙ apart))
          | inr later ↦ none.0 x later e
        ],
        rw apart none.1,
      )
    ]
  ]

  -- the rows after a put: the new row, and each old row with another key
  pub record IsPut (old new : List Row) (x : Row) : Type 0 where
    pub there : Has new x
    pub from : (r : Row) → Has new r → (r ≡ x) ⊎ (Has old r × (key_of R key form decode r ≡ key_of R key form decode x → ⊥))
    pub kept : (r : Row) → Has old r → (key_of R key form decode r ≡ key_of R key form decode x → ⊥) → Has new r

  pub kept_put : (old new : List Row) (x : Row) → AreKept R key form decode old → IsTable new → is_int (rowid x) ≡ true → x ≡ form (rowid x) (decode x) → IsPut old new x
      → AreKept R key form decode new
  kept_put old new x was up int shaped put = record {
    rising = up;
    each = all_from _ new (λ r h. elim (put.from r h) [
      | inl is ↦ subst (λ y. (is_int (rowid y) ≡ true) × (y ≡ form (rowid y) (decode y))) (sym is) (int, shaped)
      | inr old_row ↦ all_has _ old r was.each old_row.0
    ]);
    one = λ a b h k e. elim (put.from a h) [
      | inl is ↦ elim (put.from b k) [
        | inl also ↦ is ∙ sym also
        | inr other ↦ absurd (other.1 (sym e ∙ ap (key_of R key form decode) is))
      ]
      | inr first ↦ elim (put.from b k) [
        | inl also ↦ absurd (first.1 (e ∙ ap (key_of R key form decode) also))
        | inr second ↦ was.one a b first.0 second.0 e
      ]
    ];
  }

  finds_put : (old new : List Row) (x : Row) → AreKept R key form decode old → AreKept R key form decode new → IsPut old new x → (q : K)
      → find R q (map (entry R key form decode) new) ≡ cond (eq_by_cmp R q (key (decode x))) (Some (decode x)) (find R q (map (entry R key form decode) old))
  finds_put old new x was now put q = elim (cases_Bool (eq_by_cmp R q (key (decode x)))) [
    | inl tie ↦ rw tie (elim (found new q) [
      | inl f ↦ f.3 ∙ ap (λ r. Some (decode r)) (now.one f.0 x f.1 put.there (f.2 ∙ same q (key (decode x)) (equal_is _ tie)))
      | inr none ↦ absurd (none.0 x put.there (sym (same q (key (decode x)) (equal_is _ tie))))
    ])
    | inr apart ↦ (
        let differs : q ≡ key (decode x) → ⊥ = λ e. (let t : eq_by_cmp R q (key (decode x)) ≡ true = rw (← e) (ap is_eq (tied_itself total q)) in true≢false (sym t ∙ apart)) in
        rw apart (elim (found new q) [
          | inl f ↦ elim (put.from f.0 f.1) [
            | inl is ↦ absurd (differs (sym f.2 ∙ ap (λ r. key (decode r)) is))
            | inr was_there ↦ elim (found old q) [
              | inl g ↦ f.3 ∙ ap (λ r. Some (decode r)) (was.one f.0 g.0 was_there.0 g.1 (f.2 ∙ sym g.2)) ∙ sym g.3
              | inr none ↦ absurd (none.0 f.0 was_there.0 f.2)
            ]
          ]
          | inr none ↦ elim (found old q) [
            | inl g ↦ absurd (none.0 g.0 (put.kept g.0 g.1 (λ e. differs (sym g.2 ∙ e))) g.2)
            | inr empty ↦ none.1 ∙ sym empty.1
          ]
        ])
        )
  ]

  pub finds : (rows : List Row) (q : K) → row_at R key (rows_kept R key form decode rows) q ≡ find R q (map (entry R key form decode) rows)
  unfolding row_at
  finds [] q = refl
  finds (r ∷ rows) q = row_at-row_put total key (rows_kept R key form decode rows) (decode r) q ∙ ap (cond (eq_by_cmp R q (key (decode r))) (Some (decode r))) (finds rows q)

  pub in_order-rows_kept : (rows : List Row) → IsInOrder R key (rows_kept R key form decode rows)
  in_order-rows_kept [] = tt
  in_order-rows_kept (r ∷ rows) = in_order-put total key (rows_kept R key form decode rows) (decode r) (in_order-rows_kept rows)

  pub put_is : (old new : List Row) (x : Row) → AreKept R key form decode old → AreKept R key form decode new → IsPut old new x
      → rows_kept R key form decode new ≡ row_put R key (rows_kept R key form decode old) (decode x)
  put_is old new x was now put =
      same_rows (record { total = total; exact = same }) _ _ (in_order-rows_kept new) (in_order-put total key _ (decode x) (in_order-rows_kept old)) (λ q.
      finds new q ∙ finds_put old new x was now put q
      ∙ sym (row_at-row_put total key (rows_kept R key form decode old) (decode x) q ∙ ap (cond (eq_by_cmp R q (key (decode x))) (Some (decode x))) (finds old q)))
