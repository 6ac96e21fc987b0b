use Rattle.office_tables.proofs.Names.{rules, ◌≡◌, [], ◌∷◌, cond, true, false, refl, sym, subst, IfErr, OnOk, DropsFormer, drop_notices, had_former, OneFails}
use Rattle.office_tables.specs.Statements.{Statement}
use Rattle.office_tables.proofs.Failing.{if_err_with}
use Rattle.office_tables.proofs.Statements.{fails_one}
use Rattle.office_tables.proofs.earlier.drop_notices.Goals as goal

pub returns-then-had_former-clause-dropped : goal.returns-then-had_former-clause-dropped
returns-then-had_former-clause-dropped g c clean inside =
    let there : had_former c.args.edition ≡ true = search rules in
    subst (λ had. OnOk c.execute_one.result (DropsFormer g.S.Store had c.args.tx.now.conn.now c.execute_one.new.tx.conn.now)) (sym there) (c.execute_one.ensures.ran clean inside)

pub returns-else-had_former-clause-dropped : goal.returns-else-had_former-clause-dropped
returns-else-had_former-clause-dropped g c clean inside =
    let none : had_former c.args.edition ≡ false = search rules in
    subst (λ had. DropsFormer g.S.Store had c.args.tx.now.conn.now c.args.tx.now.conn.now) (sym none) refl

pub returns-then-had_former-clause-fails : goal.returns-then-had_former-clause-fails
returns-then-had_former-clause-fails g c clean inside =
    let old = c.args.tx.now.conn.now in
    let new = c.execute_one.new.tx.conn.now in
    let s : Statement = record { text = drop_notices; values = [] } in
    let there : had_former c.args.edition ≡ true = search rules in
    subst (λ had. IfErr c.execute_one.result (OneFails g.S.Store (cond had (s ∷ []) []) old new)) (sym there)
    (if_err_with c.execute_one.result _ _ (c.execute_one.ensures.failed clean inside) (λ e h. fails_one g.S.Store s [] old new e h))
