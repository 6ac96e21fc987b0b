-- The reason why an optional part of a row isn't read.
use Rattle.office_ledger.proofs.Names.{◌≡◌, Bool, false, Option, None, Some, Result, sym, ◌∙◌, true≢false, IfErr, IfSome, IsTrue, ◌↔◌, IsErrAnd, Row, ShelfFault, IsFaultOf, IsUnwritten, exit}

neither : {Y : Type 0} (cells : Option Y → Row) (fits : Y → Type 0) (row : Row) → (cells None ≡ row → ⊥) → IsUnwritten (λ y. cells (Some y)) fits row → (o : Option Y) → IfSome o fits → cells o ≡ row → ⊥
neither cells fits row none h None f e = none e
neither cells fits row none h (Some y) f e = h.none y f e

-- the part isn't absent, and no valid part has these columns
pub not_read : {T Y : Type 0} (cells : Option Y → Row) (fits : Y → Type 0) (row : Row) (absent : Bool) → (IsTrue absent ↔ (cells None ≡ row)) → absent ≡ false → (e : ShelfFault) (r : Result T ShelfFault)
    → IsErrAnd r (λ y. y ≡ e) → IsFaultOf (IsUnwritten (λ y. cells (Some y)) fits row) e → IfErr r (IsFaultOf (IsUnwritten cells (λ o. IfSome o fits) row))
not_read cells fits row absent tested there e r same h =
    exit e r (IsUnwritten (λ y. cells (Some y)) fits row) (IsUnwritten cells (λ o. IfSome o fits) row) same (λ h. record { none = neither cells fits row (λ is. true≢false (sym (tested.1 is) ∙ there)) h }) h
