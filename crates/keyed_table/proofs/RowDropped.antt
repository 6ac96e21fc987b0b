-- A row that is dropped from a table.
use Rattle.keyed_table.proofs.Names.{List, [], ◌∷◌, AllByRecursion, Ordering, Less, Equal, Greater, by_order, row_drop}

all_step : {X : Type 0} (P : X → Type 0) (x : X) (xs dropped : List X) → P x × AllByRecursion P xs → AllByRecursion P dropped → (c : Ordering) → AllByRecursion P (by_order c (x ∷ xs) xs (x ∷ dropped))
all_step P x xs dropped h ih Less = h
all_step P x xs dropped h ih Equal = h.1
all_step P x xs dropped h ih Greater = (h.0, ih)

-- if all rows have a property, so have those that are left after a drop
pub all-drop : {K X : Type 0} (R : K → K → Ordering) (key : X → K) (P : X → Type 0) (xs : List X) (k : K) → AllByRecursion P xs → AllByRecursion P (row_drop R key xs k)
unfolding row_drop
all-drop R key P [] k h = tt
all-drop R key P (x ∷ xs) k h = all_step P x xs (row_drop R key xs k) h (all-drop R key P xs k h.1) (R k (key x))
