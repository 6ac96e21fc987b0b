use Rattle.office_tables.proofs.Names.{◌≡◌, true, List, drop, map, take, IsTrue, Has, state, HasCleanDisk, Survives, lacks_table, later_line, OfficeTable, RunAll, Later}
use Rattle.office_tables.specs.Statements.{creates}
use Rattle.office_tables.proofs.LaterTables.{MadeLater}
use Rattle.office_tables.proofs.editions.make_among.Given as goal

abbrev pub invariant-tables : goal.invariant-tables
invariant-tables g l =
    let old = state g.S.Store l.fn.tx.conn.now in
    let now = state g.S.Store l.tx.conn.now in
    (l.tx.conn.ghost_name ≡ l.fn.tx.conn.ghost_name) × Survives old now (λ _. ⊥)
    × (HasCleanDisk now → IsTrue old.in_transaction → (ks : List OfficeTable) → map later_line ks ≡ map (λ (x : Later). (x.0, x.1.now, x.2.now)) l.tables
    → ((k : OfficeTable) → lacks_table l.edition k ≡ true → Has ks k) → MadeLater l.edition old now (map (λ (x : Later). (x.0, x.1.now, x.2.now)) (drop l.table-index l.tables)))
    × (HasCleanDisk now → IsTrue old.in_transaction → (ks : List OfficeTable) → map later_line ks ≡ map (λ (x : Later). (x.0, x.1.now, x.2.now)) l.tables
    → ((k : OfficeTable) → lacks_table l.edition k ≡ true → Has ks k)
    → RunAll g.S.Store (creates l.edition (map (λ (x : Later). (x.0, x.1.now, x.2.now)) (take l.table-index l.tables))) l.fn.tx.conn.now l.tx.conn.now)
