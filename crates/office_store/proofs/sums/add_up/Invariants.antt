use Rattle.office_store.proofs.Names.{◌≡◌, List, [], state, HasCleanDisk, Tables, JoinedRow, HasTaken, KeepsOffice}
use Rattle.office_ledger.specs.Taking.{HasTaken as HasAdded}
use Rattle.office_store.proofs.sums.add_up.Given as goal

-- the rows that were taken are those that were added up
abbrev pub invariant-rows : goal.invariant-rows
invariant-rows g l =
    let old = l.fn.rows.conn.now in
    let now = l.rows.conn.now in
    (l.rows.conn.ghost_name ≡ l.fn.rows.conn.ghost_name) × KeepsOffice g.S.Store old now
    × ((taken : List JoinedRow) × HasAdded taken l.sums × (HasCleanDisk (state g.S.Store now) → (t : Tables) → HasTaken g.S.Store old t [] → HasTaken g.S.Store now t taken))
