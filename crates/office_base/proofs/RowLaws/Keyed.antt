-- Keys of tables: their order is total, and only equal keys compare as equal.
use Rattle.office_base.proofs.Names.{◌≡◌, true, List, [], ◌∷◌, Some, None, refl, sym, ap, ◌∙◌, IsTotalOrder, IsAntisymmetric, is_eq, eq_by_cmp, Ordering, Less, Equal, Greater, by_order, row_at}
use Rattle.office_base.proofs.Orders.{same_key}

-- the order of a table's keys is total, and only equal keys compare as equal
pub record IsKeyed {K X : Type 0} (R : K → K → Ordering) (key : X → K) : Type 0 where
  pub total : IsTotalOrder R
  pub exact : IsAntisymmetric R

-- a key compares as equal with itself
pub own_key : {K : Type 0} {R : K → K → Ordering} (o : IsTotalOrder R) (a : K) → eq_by_cmp R a a ≡ true
own_key o a = ap is_eq (same_key o a)

module _ {K X : Type 0} {R : K → K → Ordering} {key : X → K} (t : IsKeyed R key) where
  -- a found row has the key that was asked for
  pub found_key : (xs : List X) (k : K) (y : X) → row_at R key xs k ≡ Some y → key y ≡ k
  unfolding row_at
  found_key [] k y e = cc
  found_key (x ∷ xs) k y e =
      elim (R k (key x)) as (λ b. R k (key x) ≡ b → by_order b None (Some x) (row_at R key xs k) ≡ Some y → key y ≡ k) [
        | Less ↦ λ o h. cc
        | Equal ↦ λ o h. let same : x ≡ y = cc in ap key (sym same) ∙ sym (t.exact k (key x) o)
        | Greater ↦ λ o h. found_key xs k y h
      ] refl e
