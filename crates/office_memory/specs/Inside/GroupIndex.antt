-- An index that lists the keys of rows by group.
use Rattle.std.specs.Prelude.{◌≡◌, Bool, true, IsTrue, List, [], Option, Some, None}
use Rattle.std.specs.List.{AllByRecursion, list_any}
use Rattle.std.specs.BTreeMap.{BTreeMap, get, is_at}
use Rattle.std.specs.BTreeSet.{BTreeSet}
use Rattle.std.specs.declared.cmp.Ordering.{Ordering}

-- for each group, keys of rows
abbrev pub KeysOfGroups : Type 0 → Type 0 → Type 0
KeysOfGroups G K = BTreeMap G (BTreeSet K)

-- the keys in an optional set, in order
abbrev pub keys_in : {K : Type 0} → Option (BTreeSet K) → List K
keys_in None = []
keys_in (Some keys) = keys.keys

-- the keys that an index lists for a group, in order
abbrev pub keys_of : {G K : Type 0} → (G → G → Ordering) → G → KeysOfGroups G K → List K
keys_of S g index = keys_in (get S index g)

-- whether an index lists a key under a group
abbrev pub has_key : {G K : Type 0} → (G → G → Ordering) → (K → K → Ordering) → KeysOfGroups G K → G → K → Bool
has_key S R index g k = list_any (is_at (R k)) (keys_of S g index)

-- an index lists the key of every row under the row's group
abbrev pub HasRows : {G K X : Type 0} → (G → G → Ordering) → (K → K → Ordering) → (X → G) → (X → K) → List X → KeysOfGroups G K → Type 0
HasRows S R group key rows index = AllByRecursion (λ r. has_key S R index (group r) (key r) ≡ true) rows

-- an index that is marked as whole lists the key of every row under the row's group
abbrev pub IsIndexed : {G K X : Type 0} → (G → G → Ordering) → (K → K → Ordering) → (X → G) → (X → K) → List X → KeysOfGroups G K → Bool → Type 0
IsIndexed S R group key rows index is_whole = IsTrue is_whole → HasRows S R group key rows index
