-- If the test of the balances succeeds, they add up.
use Rattle.office_desk.proofs.Names.{◌≡◌, Bool, true, List, [], ◌∷◌, map, AllByRecursion, list_all, sym, ap, ◌∙◌, and_parts, eqb-true, ledger_of, ledger_row, pots_of, Tables, LedgerRow, Pots, LineRow, LedgerAddsUp, PotsAddUp, RowAddsUp, pots_add_up, row_adds_up}

pots_even : (pots : Pots) → pots_add_up pots ≡ true → PotsAddUp pots
pots_even pots is = eqb-true _ _ is

-- If the balances in each row of the ledger add up, so do those of each line.
lines_even : (s : Tables) (lines : List LineRow) → list_all row_adds_up (map (ledger_row s) lines) ≡ true → AllByRecursion (RowAddsUp s) lines
lines_even s [] is = tt
lines_even s (row ∷ lines) is =
    let parts = and_parts (pots_add_up (pots_of row s)) (list_all row_adds_up (map (ledger_row s) lines)) is in
    (pots_even (pots_of row s) parts.0, lines_even s lines parts.1)

-- If the test of these rows succeeds, which are the ledger, the balances of each line add up.
pub ledger_even : (s : Tables) (rows tested : List LedgerRow) (result : Bool) → rows ≡ ledger_of s → tested ≡ rows → result ≡ list_all row_adds_up tested → result ≡ true
    → LedgerAddsUp s
ledger_even s rows tested result are same test found = lines_even s s.lines (ap (list_all row_adds_up) (sym (same ∙ are)) ∙ sym test ∙ found)
