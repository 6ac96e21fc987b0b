-- A package of stored releases is the package of the releases themselves.
use Rattle.office_desk.proofs.Names.{◌<◌, List, [], ◌∷◌, length, arith, Data, AreKept, ReleaseRow}

-- A property of every nonempty list of releases is a property of the releases that these rows store.
pub filled : (P : List Data → Type 0) (rows : List ReleaseRow) (ds : List Data) → AreKept rows ds → 0 < length rows
    → ((e : Data) (es : List Data) → AreKept rows (e ∷ es) → P (e ∷ es)) → P ds
filled P [] [] kept some each = absurd (omega arith)
filled P (r ∷ rows) [] kept some each = absurd kept
filled P rows (d ∷ ds) kept some each = each d ds kept
