-- Rows that are taken one after another, in several lists, and in groups that each have a head.
use Rattle.office_ledger.proofs.Names.{◌≡◌, List, [], ◌∷◌, ◌++◌, map, flat_map, Option, Some, None, refl, ap, ◌∙◌, or_none, fold_rows}

module _ {R S : Type 0} (take : R → S → S) where
  pub fold_rows-append : (xs ys : List R) (s : S) → fold_rows take (xs ++ ys) s ≡ fold_rows take ys (fold_rows take xs s)
  fold_rows-append [] ys s = refl
  fold_rows-append (x ∷ xs) ys s = fold_rows-append xs ys (take x s)

  pub fold_rows-flat_map : {X : Type 0} (rows : X → List R) (xs : List X) (s : S) → fold_rows take (flat_map rows xs) s ≡ fold_rows (λ x. fold_rows take (rows x)) xs s
  fold_rows-flat_map rows [] s = refl
  fold_rows-flat_map rows (x ∷ xs) s = fold_rows-append (rows x) (flat_map rows xs) s ∙ fold_rows-flat_map rows xs (fold_rows take (rows x) s)

-- a group: its first row enters it, and the other rows stay in it
module _ {R S X : Type 0} (take : R → S → S) (wrap : Option X → R) (enter : S → S) (inner : X → S → S) (IsIn : S → Type 0)
    (none : (s : S) → take (wrap None) s ≡ enter s)
    (some : (x : X) (s : S) → take (wrap (Some x)) s ≡ inner x (enter s))
    (entered : (s : S) → IsIn (enter s))
    (kept : (x : X) (s : S) → IsIn s → IsIn (inner x s))
    (stays : (s : S) → IsIn s → enter s ≡ s) where
  inside : (xs : List X) (s : S) → IsIn s → fold_rows take (map wrap (map Some xs)) s ≡ fold_rows inner xs s
  inside [] s i = refl
  inside (x ∷ xs) s i = ap (fold_rows take (map wrap (map Some xs))) (some x s ∙ ap (inner x) (stays s i)) ∙ inside xs (inner x s) (kept x s i)

  pub grouped : (xs : List X) (s : S) → fold_rows take (map wrap (or_none xs)) s ≡ fold_rows inner xs (enter s)
  grouped [] s = none s
  grouped (x ∷ xs) s = ap (fold_rows take (map wrap (map Some xs))) (some x s) ∙ inside xs (inner x (enter s)) (kept x (enter s) (entered s))
