-- The rows that a ledger has taken so far, and when it must give up.
use Rattle.std.specs.Prelude.{◌≡◌, ℕ, ◌+◌, ◌-◌, ◌≤◌, ◌^◌, ◌⊎◌, List, ◌++◌, length}
use Rattle.office_base.specs.Tables.{Tables, IsSorted}
use Rattle.office_base.specs.Joined.{LinesFit}
use Rattle.office_ledger.specs.Joins.{joined}
use Rattle.office_ledger.specs.Inside.Adding.{Added, added}
use Rattle.office_ledger.specs.declared.joined.JoinedRow.{JoinedRow}

-- no office with sums in their ranges has a join that begins with these rows
abbrev pub IsJoinOfNoOffice : List JoinedRow → Type 0
IsJoinOfNoOffice rows = (t : Tables) (rest : List JoinedRow) → IsSorted t → joined t ≡ rows ++ rest → ¬ (LinesFit t)

-- a sum of these rows is out of its range, or there are more rows than the ledger can count
abbrev pub AreTooMuch : List JoinedRow → Type 0
AreTooMuch rows = IsJoinOfNoOffice rows ⊎ (2 ^ 64 ≤ length rows)

-- a ledger that is being added up: the sums so far, and the number of rows that may still come
pub record Summing : Type 0 where
  pub added : Added
  pub left : ℕ

-- the ledger has taken exactly these rows, and counted them
pub record HasTaken (rows : List JoinedRow) (s : Summing) : Type 0 where
  pub sums : s.added ≡ added rows
  pub counted : length rows + s.left ≡ 2 ^ 64 - 1
