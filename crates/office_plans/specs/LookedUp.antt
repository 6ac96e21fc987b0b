-- Rows that a command looked up by their keys and keeps in a table of its own.
use Rattle.std.specs.Prelude.{◌≡◌, ◌⊎◌, List, Option, Some, None}
use Rattle.std.specs.declared.cmp.Ordering.{Ordering}
use Rattle.office_base.specs.Rows.{row_at, row_put}

-- The rows after a look-up: with the found row, if there is one.
abbrev pub with_row : {K X : Type 0} → (K → K → Ordering) → (X → K) → List X → Option X → List X
with_row R key rows None = rows
with_row R key rows (Some x) = row_put R key rows x

-- At this key, these rows have the same as the whole table: the same row, or none.
abbrev pub IsAsIn : {K X : Type 0} → (K → K → Ordering) → (X → K) → List X → List X → K → Type 0
IsAsIn R key all rows k = row_at R key rows k ≡ row_at R key all k

-- Each of these rows is equal to the whole table's row of its key.
abbrev pub AreFrom : {K X : Type 0} → (K → K → Ordering) → (X → K) → List X → List X → Type 0
AreFrom {K} R key all rows = (q : K) → (row_at R key rows q ≡ None) ⊎ IsAsIn R key all rows q
