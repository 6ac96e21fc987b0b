use Rattle.office_tables.proofs.Names.{rules, ◌≡◌, [], ◌∷◌, ◌++◌, cond, true, sym, subst, IfErr, OnOk, nat_lt, OneFails, RunAll}
use Rattle.office_tables.specs.Statements.{Statement}
use Rattle.office_tables.proofs.Failing.{if_err_with}
use Rattle.office_tables.proofs.Statements.{fails_one, run_one}
use Rattle.office_tables.proofs.Stepping.{on_ok_with}
use Rattle.office_tables.proofs.editions.make_missing.Goals as goal

pub returns-then-edition-table-clause-ran : goal.returns-then-edition-table-clause-ran
returns-then-edition-table-clause-ran g c clean inside =
    let old = c.args.tx.now.conn.now in
    let new = c.make_table.new.tx.conn.now in
    let s : Statement = record { text = c.args.table.now.2.now; values = [] } in
    let later : nat_lt c.args.edition c.args.table.now.0 ≡ true = search rules in
    subst (λ b. OnOk c.make_table.result (RunAll g.S.Store (cond b (s ∷ []) [] ++ []) old new)) (sym later)
    (on_ok_with c.make_table.result _ _ (c.make_table.ensures.ran clean inside) (λ h. run_one g.S.Store s old new h.0 h.1))

pub returns-then-edition-table-clause-fails : goal.returns-then-edition-table-clause-fails
returns-then-edition-table-clause-fails g c clean inside =
    let old = c.args.tx.now.conn.now in
    let new = c.make_table.new.tx.conn.now in
    let s : Statement = record { text = c.args.table.now.2.now; values = [] } in
    let later : nat_lt c.args.edition c.args.table.now.0 ≡ true = search rules in
    subst (λ b. IfErr c.make_table.result (OneFails g.S.Store (cond b (s ∷ []) [] ++ []) old new)) (sym later)
    (if_err_with c.make_table.result _ _ (c.make_table.ensures.fails clean inside) (λ e h. fails_one g.S.Store s [] old new e h))
