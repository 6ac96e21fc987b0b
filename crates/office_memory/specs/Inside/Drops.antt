-- Tables without the rows that are still to be dropped.
use Rattle.std.specs.Prelude.{ℕ, List, [], ◌∷◌}
use Rattle.std.specs.Ordering.{nat_cmp}
use Rattle.std.specs.declared.cmp.Ordering.{Ordering}
use Rattle.office_base.specs.Rows.{row_drop}
use Rattle.office_base.specs.Tables.{Tables, seal_key}

-- the rows without those that have one of these keys
abbrev pub rows_drop : {K X : Type 0} → (K → K → Ordering) → (X → K) → List X → List K → List X
rows_drop R key xs [] = xs
rows_drop R key xs (k ∷ ks) = rows_drop R key (row_drop R key xs k) ks

-- the tables without the sealed bytes of these receipts
abbrev pub without_seals : List ℕ → Tables → Tables
without_seals receipts t = record t { seals = rows_drop nat_cmp seal_key t.seals receipts }
