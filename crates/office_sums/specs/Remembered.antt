-- The sums of budget lines that a store remembers, and when they agree with its tables.
use Rattle.std.specs.Prelude.{◌≡◌, ℕ, false, List, Option, Some, None}
use Rattle.std.specs.BTreeMap.{is_at}
use Rattle.std.specs.List.{AllByRecursion}
use Rattle.std.specs.Map.{lookup}
use Rattle.office_values.specs.Ids.{id_cmp, same_id}
use Rattle.office_base.specs.Tables.{Tables, IsSorted, after_put}
use Rattle.office_base.specs.Joined.{reserved, contracted, paid, pots_of, LineFits}
use Rattle.office_base.specs.declared.ledger.LedgerRow.{LedgerRow}
use Rattle.office_base.specs.declared.ledger.Pots.{Pots}
use Rattle.office_base.specs.declared.records.LineRow.{LineRow}
use Rattle.office_base.specs.declared.puts.Put.{Put}
use Rattle.office_sums.specs.Touched.{touched, IsNoneOf}
use Rattle.office_sums.specs.declared.sums.SumsOfLine.{SumsOfLine}

-- the sums that are remembered of a line, if any
abbrev pub sums_at : List (List ℕ × SumsOfLine) → List ℕ → Option SumsOfLine
sums_at known line = lookup (is_at (id_cmp line)) known

-- these are the sums of a line, each within its bound
pub record AreSums (line : List ℕ) (sums : SumsOfLine) (t : Tables) : Type 0 where
  pub reserved_is : sums.reserved ≡ reserved line t
  pub contracted_is : sums.contracted ≡ contracted line t
  pub paid_is : sums.paid ≡ paid line t
  pub fit : LineFits line t

-- each line that is remembered has these sums in the tables
pub record Remembers (known : List (List ℕ × SumsOfLine)) (t : Tables) : Type 0 where
  pub each : (line : List ℕ) (sums : SumsOfLine) → sums_at known line ≡ Some sums → AreSums line sums t

-- the lines that are still remembered aren't this line, and have the sums that they had
pub record Forgets (line : List ℕ) (old new : List (List ℕ × SumsOfLine)) : Type 0 where
  pub each : (other : List ℕ) (sums : SumsOfLine) → sums_at new other ≡ Some sums → (sums_at old other ≡ Some sums) × (same_id line other ≡ false)

-- a change that doesn't touch a line leaves its sums
abbrev pub SumsStay : Type 0
SumsStay = (line : List ℕ) (sums : SumsOfLine) (p : Put) (t : Tables) → IsSorted t → IsNoneOf line (touched p t) → AreSums line sums t → AreSums line sums (after_put p t)

-- the balances of the line with this row and these sums
abbrev pub pots_by : LineRow → SumsOfLine → Pots
pots_by row sums = record { appropriation = row.appropriation; free = row.free; reserved = sums.reserved; contracted = sums.contracted; paid = sums.paid }

-- the sums in these balances
abbrev pub sums_in : Pots → SumsOfLine
sums_in pots = record { reserved = pots.reserved; contracted = pots.contracted; paid = pots.paid }

-- these rows of the ledger have the sums of their lines
abbrev pub AreBalances : List LedgerRow → Tables → Type 0
AreBalances rows t = AllByRecursion (λ (row : LedgerRow). AreSums row.line (sums_in row.pots) t) rows

-- the balances of the line with this row, if each sum is within its bound; otherwise none
abbrev pub IsSummed : LineRow → Tables → Option Pots → Type 0
IsSummed row t None = ¬ (LineFits row.line t)
IsSummed row t (Some pots) = (pots ≡ pots_of row t) × LineFits row.line t
