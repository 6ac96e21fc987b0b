-- A ledger within its bounds has the sums of its lines.
use Rattle.office_sums.proofs.Names.{◌≡◌, List, [], ◌∷◌, map, refl, sym, subst, AllByRecursion, Tables, ledger_row, ledger_of, LineFits, LinesFit, LineRow, LedgerRow, AreBalances}

each_told : (t : Tables) (lines : List LineRow) → AllByRecursion (λ (row : LineRow). LineFits row.line t) lines → AreBalances (map (ledger_row t) lines) t
each_told t [] h = tt
each_told t (x ∷ xs) h = (record { reserved_is = refl; contracted_is = refl; paid_is = refl; fit = h.0 }, each_told t xs h.1)

pub ledger_told : (t : Tables) (rows : List LedgerRow) → rows ≡ ledger_of t → LinesFit t → AreBalances rows t
ledger_told t rows are fit = subst (λ rows. AreBalances rows t) (sym are) (each_told t t.lines fit)
