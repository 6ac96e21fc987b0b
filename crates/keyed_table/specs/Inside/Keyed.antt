-- The shape of a tree that stores the rows of a table by their keys.
use Rattle.std.specs.Prelude.{◌≡◌, Bool, true, List}
use Rattle.std.specs.List.{list_all, AllByRecursion}
use Rattle.std.specs.List.Sorted.{IsStrictlySortedBy}
use Rattle.std.specs.Map.{keys_of, values_of}
use Rattle.std.specs.Ordering.{is_eq}
use Rattle.std.specs.declared.cmp.Ordering.{Ordering}

-- whether an entry's key is the key of its row
abbrev pub stands_at_its_key : {K X : Type 0} → (K → K → Ordering) → (X → K) → K × X → Bool
stands_at_its_key R key e = is_eq (R e.0 (key e.1))

-- the keys rise, each entry's key is the key of its row, and every key fulfils `IsKnown`
pub record IsKeyed {K X : Type 0} (R : K → K → Ordering) (key : X → K) (IsKnown : K → Type 0) (es : List (K × X)) : Type 0 where
  pub rising : IsStrictlySortedBy R (keys_of es)
  pub own : list_all (stands_at_its_key R key) es ≡ true
  pub known : AllByRecursion (λ x. IsKnown (key x)) (values_of es)
