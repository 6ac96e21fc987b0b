use Rattle.office_tables.proofs.Names.{rules, arith, ◌≡◌, ◌∙◌, List, [], ◌∷◌, ◌++◌, ◌+◌, get_or, drop, map, take, ap, sym, subst, drop_more, drop_all, map-append, take-append-drop, take_all, take_more, state, HasCleanDisk, survives_then, OneFails, RunAll, Later}
use Rattle.office_tables.specs.Statements.{Statement, creates}
use Rattle.office_tables.proofs.Failing.{same_err}
use Rattle.office_tables.proofs.LaterTables.{LaterLine, MadeLater, later_first, later_more, later_all}
use Rattle.office_tables.proofs.MakingSteps.{goes_refused}
use Rattle.office_tables.proofs.Statements.{creates_both, fails_early, fails_later, fails_unready, run_then}
use Rattle.office_tables.proofs.Stepping.{on_err}
use Rattle.office_tables.proofs.editions.make_among.Goals as goal

-- the program's line for a table
abbrev line_of : Later → LaterLine
line_of x = (x.0, x.1.now, x.2.now)

pub tables-init : goal.tables-init
tables-init g c =
    let old = state g.S.Store c.args.tx.now.conn.now in
    let now = state g.S.Store c.begin.new.tx.conn.now in (
      search rules,
      c.begin.ensures.survives,
      λ clean inside ks lines all.
          let still = c.in_ok-begin.ensures.still clean inside in
          later_first c.args.edition old now ks (map line_of c.args.tables.now) still.0 still.1 lines all,
      λ clean inside ks lines all. (c.in_ok-begin.ensures.still clean inside).1,
    )

pub tables-preserved : goal.tables-preserved
tables-preserved g c =
    let old = state g.S.Store c.args.tx.now.conn.now in
    let mid = state g.S.Store c.tables.tx.conn.now in
    let new = state g.S.Store c.make_missing.new.tx.conn.now in
    let more = c.args.tables.now in
    let i = c.tables.table-index in
    let item = get_or more i ((0, record { ref_ptr = (0, 0); now = [] }, record { ref_ptr = (0, 0); now = [] })) in
    let next : drop i more ≡ item ∷ drop (i + 1) more = drop_more more i _ (omega arith) in (
      search rules,
      survives_then old mid new (λ _. ⊥) (λ _. ⊥) (λ _. ⊥) (λ _ db none. none) (λ _ db none. none) c.tables.invariant.1 c.make_missing.ensures.survives,
      λ clean inside ks lines all.
          let early : HasCleanDisk mid = omega (arith, clean, c.make_missing.ensures.survives.clean) in
          let so_far = subst (λ l. MadeLater c.args.edition old mid (map line_of l)) next (c.tables.invariant.2 early inside ks lines all) in
          later_more c.args.edition old mid new (line_of item) (map line_of (drop (i + 1) more)) (λ lacks k it. c.in_ok-make_missing.ensures.made clean so_far.4.goes.mode lacks k it)
          (λ there. ap (state g.S.Store) (c.make_missing.ensures.there there)) so_far,
      λ clean inside ks lines all.
          let early : HasCleanDisk mid = omega (arith, clean, c.make_missing.ensures.survives.clean) in
          let mode = (c.tables.invariant.2 early inside ks lines all).4.goes.mode in
          let done = take i more in
          let longer : take (i + 1) more ≡ done ++ item ∷ [] = take_more more i _ (omega arith) in
          subst (λ (l : List Statement). RunAll g.S.Store l c.args.tx.now.conn.now c.make_missing.new.tx.conn.now)
          (sym (ap (λ (l : List Later). creates c.args.edition (map line_of l)) longer ∙ ap (creates c.args.edition) (map-append line_of done (item ∷ [])) ∙ creates_both c.args.edition (map line_of done) (line_of item ∷ [])))
          (run_then g.S.Store (creates c.args.edition (map line_of done)) (creates c.args.edition (line_of item ∷ [])) c.args.tx.now.conn.now c.tables.tx.conn.now c.make_missing.new.tx.conn.now
          (c.tables.invariant.3 early inside ks lines all) (c.in_ok-make_missing.ensures.ran clean mode)),
    )

pub returns-in_err-make_missing-clause-refused : goal.returns-in_err-make_missing-clause-refused
returns-in_err-make_missing-clause-refused g c clean inside ks lines all =
    let old = state g.S.Store c.args.tx.now.conn.now in
    let mid = state g.S.Store c.tables.tx.conn.now in
    let new = state g.S.Store c.make_missing.new.tx.conn.now in
    let late : HasCleanDisk new = search rules in
    let early : HasCleanDisk mid = omega (arith, late, c.make_missing.ensures.survives.clean) in
    let so_far = c.tables.invariant.2 early inside ks lines all in
    on_err _ _ (goes_refused old mid new so_far.4.goes (c.in_err-make_missing.ensures.refused late so_far.4.goes.mode))

pub returns-clause-made : goal.returns-clause-made
returns-clause-made g c clean inside ks lines all =
    let old = state g.S.Store c.args.tx.now.conn.now in
    let now = state g.S.Store c.tables.tx.conn.now in
    let none = drop_all c.tables.table-index c.args.tables.now (omega arith) in
    later_all c.args.edition old now (subst (λ l. MadeLater c.args.edition old now (map line_of l)) none (c.tables.invariant.2 clean inside ks lines all))

pub returns-in_err-begin-clause-fails : goal.returns-in_err-begin-clause-fails
returns-in_err-begin-clause-fails g c clean inside ks lines all =
    same_err c.from_residual.result _ _ c.from_residual.ensures.1
    (fails_unready g.S.Store (creates c.args.edition (map line_of c.args.tables.now)) c.args.tx.now.conn.now c.begin.new.tx.conn.now _ (c.in_err-begin.ensures.unready clean))

pub returns-in_err-make_missing-clause-fails : goal.returns-in_err-make_missing-clause-fails
returns-in_err-make_missing-clause-fails g c clean inside ks lines all =
    let mid = state g.S.Store c.tables.tx.conn.now in
    let early : HasCleanDisk mid = omega (arith, clean, c.make_missing.ensures.survives.clean) in
    let mode = (c.tables.invariant.2 early inside ks lines all).4.goes.mode in
    let edition = c.args.edition in
    let more = c.args.tables.now in
    let i = c.tables.table-index in
    let item = get_or more i ((0, record { ref_ptr = (0, 0); now = [] }, record { ref_ptr = (0, 0); now = [] })) in
    let done = take i more in
    let rest = drop (i + 1) more in
    let whole : more ≡ done ++ item ∷ rest = sym (take-append-drop i more) ∙ ap (λ (l : List Later). done ++ l) (drop_more more i _ (omega arith)) in
    let parts =
    ap (λ (l : List Later). creates edition (map line_of l)) whole ∙ ap (creates edition) (map-append line_of done (item ∷ rest)) ∙ creates_both edition (map line_of done) (line_of item ∷ map line_of rest)
    ∙ ap (λ (l : List Statement). creates edition (map line_of done) ++ l) (creates_both edition (line_of item ∷ []) (map line_of rest)) in
    same_err c.from_residual-in_err-make_missing.result _ _ c.from_residual-in_err-make_missing.ensures.1
    (subst (λ (l : List Statement). OneFails g.S.Store l c.args.tx.now.conn.now c.make_missing.new.tx.conn.now c.in_err-make_missing.field-0.0) (sym parts)
    (fails_later g.S.Store (creates edition (map line_of done)) (creates edition (line_of item ∷ []) ++ creates edition (map line_of rest)) c.args.tx.now.conn.now c.tables.tx.conn.now c.make_missing.new.tx.conn.now _
    (c.tables.invariant.3 early inside ks lines all) c.tables.invariant.1.counts
    (fails_early g.S.Store (creates edition (line_of item ∷ [])) (creates edition (map line_of rest)) c.tables.tx.conn.now c.make_missing.new.tx.conn.now _ (c.in_err-make_missing.ensures.fails clean mode))))

pub returns-clause-ran : goal.returns-clause-ran
returns-clause-ran g c clean inside ks lines all =
    subst (λ (l : List Later). RunAll g.S.Store (creates c.args.edition (map line_of l)) c.args.tx.now.conn.now c.tables.tx.conn.now)
    (take_all c.tables.table-index c.args.tables.now (omega arith)) (c.tables.invariant.3 clean inside ks lines all)
