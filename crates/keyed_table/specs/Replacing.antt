-- The way in which a put row is taken back.
use Rattle.std.specs.Prelude.{List, Option, Some, None, IsSome}
use Rattle.std.specs.declared.cmp.Ordering.{Ordering}
use Rattle.office_base.specs.Rows.{row_at, row_put, row_drop}
use Rattle.keyed_table.specs.declared.table.Replaced.{Replaced}

-- the rows with the old row at a key again, or without the row at that key if there was none
abbrev pub with_old : {K X : Type 0} → (K → K → Ordering) → (X → K) → K → Option X → List X → List X
with_old R key k None rows = row_drop R key rows k
with_old R key k (Some row) rows = row_put R key rows row

-- the rows after a put was taken back
abbrev pub taken_back : {K X : Type 0} → (K → K → Ordering) → (X → K) → Replaced X K → List X → List X
taken_back R key replaced rows = with_old R key replaced.key replaced.old rows

-- a row with the old row's key exists, or there is no old row to restore; so restoring needs no memory
abbrev pub IsThere : {K X : Type 0} → (K → K → Ordering) → (X → K) → Option X → List X → Type 0
IsThere R key None rows = Unit {0}
IsThere R key (Some row) rows = IsSome (row_at R key rows (key row))

-- a put can be taken back without memory
abbrev pub CanTakeBack : {K X : Type 0} → (K → K → Ordering) → (X → K) → Replaced X K → List X → Type 0
CanTakeBack R key replaced rows = IsThere R key replaced.old rows
