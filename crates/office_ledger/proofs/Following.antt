-- A ledger that has taken rows takes one more.
use Rattle.office_ledger.proofs.Names.{◌≡◌, ◌+◌, ◌-◌, ◌<◌, ◌⊎◌, List, [], ◌∷◌, ◌++◌, length, Result, Ok, Err, OnOk, IfErr, Option, None, inl, inr, refl, sym, ap, subst, ◌∙◌, arith, IsFaultOf, LinesFit, JoinedSums, SumsAnswer, Tables, IsSorted, LedgerRow, ShelfFault, NoMemory, Store, joined, AreTooMuch, Summing, HasTaken, Added, nothing_added, closed, enter_line, take_row, added, JoinedRow}
use Rattle.office_ledger.proofs.Lines.{IsLedger, adds_up, none_fits}
use Rattle.office_ledger.proofs.Taken.{fold_rows-append}

pub length-snoc : {X : Type 0} (xs : List X) (x : X) → length (xs ++ x ∷ []) ≡ length xs + 1
length-snoc [] x = refl
length-snoc (y ∷ xs) x = omega (arith, length-snoc xs x)

module _ (rows : List JoinedRow) (row : JoinedRow) (old : Summing) where
  added_next : HasTaken rows old → take_row row old.added ≡ added (rows ++ row ∷ [])
  added_next h = ap (take_row row) h.sums ∙ sym (fold_rows-append take_row rows (row ∷ []) nothing_added)

  pub taken_next : {T : Type 0} (new : Summing) (result : Result T ShelfFault) → HasTaken rows old
      → OnOk result (new ≡ record { added = take_row row old.added; left = old.left - 1 }) → OnOk result (0 < old.left) → OnOk result (HasTaken (rows ++ row ∷ []) new)
  taken_next new (Ok v) h is more = record {
    sums = ap (λ (s : Summing). s.added) is ∙ added_next h;
    counted = omega (arith, ap (λ (s : Summing). s.left) is, more, h.counted, length-snoc rows row);
  }
  taken_next new (Err e) h is more = tt

  pub fault_next : JoinedSums → {T : Type 0} (result : Result T ShelfFault) → HasTaken rows old
      → IfErr result (IsFaultOf (((enter_line row old.added).rows ≡ None) ⊎ (old.left ≡ 0))) → IfErr result (IsFaultOf (AreTooMuch (rows ++ row ∷ [])))
  fault_next law (Ok v) h why = tt
  fault_next law (Err NoMemory) h why = tt
  fault_next law (Err Store) h (inl none) = inl (none_fits law (rows ++ row ∷ []) (ap (λ (s : Added). s.rows) (sym (added_next h)) ∙ none))
  fault_next law (Err Store) h (inr last) = inr (omega (arith, h.counted, last, length-snoc rows row))

-- if the whole join has no ledger, a sum of a line is out of its range
pub no_ledger : JoinedSums → (t : Tables) → IsSorted t → (T : Type 0) (right : Tables → T → Type 0) (fault : ShelfFault) (all : Option (List LedgerRow)) → closed (added (joined t)) ≡ all
    → IsFaultOf (all ≡ None) fault → SumsAnswer {T = T} ⊥ right LinesFit (Err fault) t
no_ledger law t sorted T right NoMemory all is why = tt
no_ledger law t sorted T right Store all is why = inr (subst (IsLedger t) (is ∙ why) (adds_up law t sorted))
