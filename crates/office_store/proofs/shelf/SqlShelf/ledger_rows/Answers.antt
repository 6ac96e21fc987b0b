use Rattle.office_store.proofs.Names.{ℕ, [], subst, Held, state, HasCleanDisk, Keeps, Tables, IsSorted, ShowsTables, HasTaken, sql_meaning}
use Rattle.office_store.proofs.Readying.{on_value}
use Rattle.office_store.proofs.shelf.SqlShelf.ledger_rows.Goals as goal

pub returns-clause-begun : goal.returns-clause-begun
returns-clause-begun g c =
    on_value c.begin.result
    (λ it h. subst (λ (s : Held g.row.S.Denot × ℕ). HasCleanDisk (state g.S.Store it.rows.conn.now) → (t : Tables) → IsSorted t → ShowsTables (state g.S.Store s.0) t → HasTaken g.S.Store it.rows.conn.now t []) c.self.view_is h)
    c.begin.ensures.begun

pub returns-clause-kept : goal.returns-clause-kept
returns-clause-kept g c =
    on_value c.begin.result (λ it h. subst (λ (s : Held g.row.S.Denot × ℕ). Keeps (sql_meaning g.S.Store) s (it.rows.conn.now, s.1)) c.self.view_is (h c.self.inside.faults)) c.begin.ensures.kept
