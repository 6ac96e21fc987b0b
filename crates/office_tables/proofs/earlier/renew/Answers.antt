use Rattle.office_tables.proofs.Names.{arith, [], ◌∷◌, state, HasCleanDisk, ClockRow, drop_version, had_former, drops, clock_values, upsert_office}
use Rattle.office_tables.specs.Statements.{Statement}
use Rattle.office_tables.proofs.Failing.{if_err_with, same_err}
use Rattle.office_tables.proofs.Held.{goes_on}
use Rattle.office_tables.proofs.EarlierEditions.{drops_inside, drops_refused}
use Rattle.office_tables.proofs.MakingSteps.{goes_refused}
use Rattle.office_tables.proofs.Statements.{fails_early, fails_later, fails_one, ran_drops, run_one}
use Rattle.office_tables.proofs.Stepping.{on_ok_with, on_err, on_err_with}
use Rattle.office_tables.proofs.earlier.renew.Goals as goal

abbrev free : Statement
free = record { text = drop_version; values = [] }

abbrev put : ClockRow → Statement
put clock = record { text = upsert_office; values = clock_values clock }

pub returns-clause-renewed : goal.returns-clause-renewed
returns-clause-renewed g c clean inside =
    let first = state g.S.Store c.drop_notices.new.tx.conn.now in
    let second = state g.S.Store c.drop_version.new.tx.conn.now in
    let clean_2 : HasCleanDisk second = omega (arith, clean, c.put_version.ensures.survives.clean) in
    let clean_1 : HasCleanDisk first = omega (arith, clean_2, c.drop_version.ensures.survives.clean) in
    let dropped = c.in_ok-drop_notices.ensures.dropped clean_1 inside in
    let freed = c.in_ok-drop_version.ensures.ran clean_2 (drops_inside g.S.Store (had_former c.args.edition) c.args.tx.now.conn.now c.drop_notices.new.tx.conn.now inside dropped) in
    on_ok_with c.put_version.result _ _ (c.put_version.ensures.ran clean (goes_on first second freed.1.1).mode) (λ h. record { first = c.drop_notices.new.tx.conn.now; second = c.drop_version.new.tx.conn.now; dropped = dropped; freed = freed; put = h })

pub returns-in_err-drop_version-clause-refused : goal.returns-in_err-drop_version-clause-refused
returns-in_err-drop_version-clause-refused g c clean inside =
    let first = state g.S.Store c.drop_notices.new.tx.conn.now in
    let second = state g.S.Store c.drop_version.new.tx.conn.now in
    let clean_1 : HasCleanDisk first = omega (arith, clean, c.drop_version.ensures.survives.clean) in
    let dropped = c.in_ok-drop_notices.ensures.dropped clean_1 inside in
    on_err _ _ (drops_refused g.S.Store (had_former c.args.edition) c.args.tx.now.conn.now c.drop_notices.new.tx.conn.now second dropped (c.in_err-drop_version.ensures.refused clean (drops_inside g.S.Store (had_former c.args.edition) c.args.tx.now.conn.now c.drop_notices.new.tx.conn.now inside dropped)))

pub returns-clause-refused : goal.returns-clause-refused
returns-clause-refused g c clean inside =
    let first = state g.S.Store c.drop_notices.new.tx.conn.now in
    let second = state g.S.Store c.drop_version.new.tx.conn.now in
    let new = state g.S.Store c.put_version.new.tx.conn.now in
    let clean_2 : HasCleanDisk second = omega (arith, clean, c.put_version.ensures.survives.clean) in
    let clean_1 : HasCleanDisk first = omega (arith, clean_2, c.drop_version.ensures.survives.clean) in
    let dropped = c.in_ok-drop_notices.ensures.dropped clean_1 inside in
    let two = goes_on first second (c.in_ok-drop_version.ensures.ran clean_2 (drops_inside g.S.Store (had_former c.args.edition) c.args.tx.now.conn.now c.drop_notices.new.tx.conn.now inside dropped)).1.1 in
    on_err_with c.put_version.result _ _ (c.put_version.ensures.refused clean two.mode) (λ h. drops_refused g.S.Store (had_former c.args.edition) c.args.tx.now.conn.now c.drop_notices.new.tx.conn.now new dropped (goes_refused first second new two h))

pub returns-in_err-drop_notices-clause-fails : goal.returns-in_err-drop_notices-clause-fails
returns-in_err-drop_notices-clause-fails g c clean inside =
    same_err c.from_residual.result _ _ c.from_residual.ensures.1
    (fails_early g.S.Store (drops c.args.edition) (free ∷ put c.args.clock.now ∷ []) c.args.tx.now.conn.now c.drop_notices.new.tx.conn.now _ (c.in_err-drop_notices.ensures.fails clean inside))

pub returns-in_err-drop_version-clause-fails : goal.returns-in_err-drop_version-clause-fails
returns-in_err-drop_version-clause-fails g c clean inside =
    let first = c.drop_notices.new.tx.conn.now in
    let second = c.drop_version.new.tx.conn.now in
    let clean_1 : HasCleanDisk (state g.S.Store first) = omega (arith, clean, c.drop_version.ensures.survives.clean) in
    let dropped = c.in_ok-drop_notices.ensures.dropped clean_1 inside in
    let mode = drops_inside g.S.Store (had_former c.args.edition) c.args.tx.now.conn.now first inside dropped in
    same_err c.from_residual-in_err-drop_version.result _ _ c.from_residual-in_err-drop_version.ensures.1
    (fails_later g.S.Store (drops c.args.edition) (free ∷ put c.args.clock.now ∷ []) c.args.tx.now.conn.now first second _ (ran_drops g.S.Store c.args.edition c.args.tx.now.conn.now first dropped)
    c.drop_notices.ensures.survives.counts (fails_one g.S.Store free (put c.args.clock.now ∷ []) first second _ (c.in_err-drop_version.ensures.fails clean mode)))

pub returns-clause-fails : goal.returns-clause-fails
returns-clause-fails g c clean inside =
    let old = c.args.tx.now.conn.now in
    let first = c.drop_notices.new.tx.conn.now in
    let second = c.drop_version.new.tx.conn.now in
    let new = c.put_version.new.tx.conn.now in
    let clean_2 : HasCleanDisk (state g.S.Store second) = omega (arith, clean, c.put_version.ensures.survives.clean) in
    let clean_1 : HasCleanDisk (state g.S.Store first) = omega (arith, clean_2, c.drop_version.ensures.survives.clean) in
    let dropped = c.in_ok-drop_notices.ensures.dropped clean_1 inside in
    let freed = c.in_ok-drop_version.ensures.ran clean_2 (drops_inside g.S.Store (had_former c.args.edition) old first inside dropped) in
    let last = put c.args.clock.now in
    if_err_with c.put_version.result _ _ (c.put_version.ensures.fails clean (goes_on (state g.S.Store first) (state g.S.Store second) freed.1.1).mode) (λ e h.
    fails_later g.S.Store (drops c.args.edition) (free ∷ last ∷ []) old first new e (ran_drops g.S.Store c.args.edition old first dropped) c.drop_notices.ensures.survives.counts
    (fails_later g.S.Store (free ∷ []) (last ∷ []) first second new e (run_one g.S.Store free first second freed.0 freed.1) c.drop_version.ensures.survives.counts (fails_one g.S.Store last [] second new e h)))
