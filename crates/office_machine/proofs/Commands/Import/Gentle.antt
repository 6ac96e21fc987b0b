-- Over any tables, a budget import makes no missing parent of a row, and replaces no row of another owner.
use Rattle.office_machine.proofs.Names.{ℕ, false, ◌≡◌, List, [], ◌∷◌, map, refl, AllByRecursion, list_any, BudgetRow, standings, Tables, Put, imported_line_put, import_lacks, import_rows, after_rows, names_lost_line, Import}
use Rattle.office_machine.proofs.NoParents.Gentle.{IsGentle, gentle-append, gentle-map}
use Rattle.office_machine.proofs.Passed.{neither}
use Rattle.office_machine.proofs.NoParents.Gentle.{PutsGently}

lines_gently : (s : Tables) (make : BudgetRow → Put) (rows : List BudgetRow) → ((r : BudgetRow) → names_lost_line s r ≡ false → IsGentle s (make r)) → list_any (names_lost_line s) rows ≡ false → AllByRecursion (λ r. IsGentle s (make r)) rows
lines_gently s make [] h none = tt
lines_gently s make (r ∷ rows) h none = let each = neither _ _ none in (h r each.0, lines_gently s make rows h each.1)

pub import_gently : (batch : List ℕ) (rows : List BudgetRow) → PutsGently (Import batch rows)
import_gently batch rows readings s moment caller order allowed whole =
    let make : BudgetRow → Put = imported_line_put (after_rows (standings s) rows) in
    gentle-append s (map make rows) _ (gentle-map s make rows (lines_gently s make rows (λ r none. (none, tt)) (neither (import_lacks (import_rows s batch rows)) _ whole).1)) ((refl, tt), ((refl, tt), tt))
