use Rattle.office_changes.proofs.Names.{rules, arith, ◌≡◌, inl, inr, IfErr, OnOk, map, subst, IsTrue, state, HasCleanDisk, Survives, survives_then, survives_begin, FormerNotice, Refused, NoticeRow, LeavesCurrent, Migrates, MigrationFails}
use Rattle.office_changes.proofs.Failing.{if_err_with, same_err}
use Rattle.office_changes.proofs.Migrating.{migrates, migrate_leaves}
use Rattle.office_changes.proofs.Steps.{rolled, on_err, on_ok_with, begun_refused}
use Rattle.office_changes.proofs.migrate.migrate.Goals as goal

abbrev row_of : FormerNotice → NoticeRow
row_of r = r.row

pub returns-in_err-make_current-clause-refused : goal.returns-in_err-make_current-clause-refused
returns-in_err-make_current-clause-refused g c clean =
    let old = c.args.conn.now in
    let mid = c.make_current.new.tx.conn.now in
    let end = c.drop-tx.new.self.0 in
    let begun = c.transaction-tx.ensures.begun in
    let inside : IsTrue (state g.S.Store c.transaction-tx.result.conn.now).in_transaction = search rules in
    let same : end ≡ c.conn-1.given.0 = search rules in
    let late : HasCleanDisk (state g.S.Store end) = search rules in
    let early : HasCleanDisk (state g.S.Store mid) = omega (arith, c.drop-tx.ensures.survives.clean) in
    on_err _ _ (subst (λ h. Refused (state g.S.Store old) (state g.S.Store h)) same
    (rolled (state g.S.Store old) (state g.S.Store mid) (state g.S.Store end) (begun_refused _ _ (rw begun at (c.in_err-make_current.ensures.refused early inside))) (c.drop-tx.ensures.undone late)))

pub returns-clause-migrates : goal.returns-clause-migrates
returns-clause-migrates g c clean =
    let old = c.args.conn.now in
    let mid = c.make_current.new.tx.conn.now in
    let end = c.commit.new.self.0 in
    let begun = c.transaction-tx.ensures.begun in
    let inside : IsTrue (state g.S.Store c.transaction-tx.result.conn.now).in_transaction = search rules in
    let settled : IsTrue (state g.S.Store old).is_open → (state g.S.Store old).now ≡ (state g.S.Store old).committed = search rules in
    let same : end ≡ c.conn-2-1.given.0 = search rules in
    let late : HasCleanDisk (state g.S.Store end) = search rules in
    let early : HasCleanDisk (state g.S.Store mid) = omega (arith, c.commit.ensures.survives.clean) in
    let made = rw begun at (c.in_ok-make_current.ensures.becomes early inside) in
    subst (λ h. OnOk c.commit.result (Migrates c.args.edition c.args.clock.now (map (λ (r : FormerNotice). r.row) c.args.notices.now) (state g.S.Store old) (state g.S.Store h))) same
    (on_ok_with c.commit.result _ _ (c.commit.ensures.ok late) (λ ok.
    migrates c.args.edition c.args.clock.now c.args.notices.now (state g.S.Store old) (state g.S.Store mid) settled made (state g.S.Store end) ok.1 (λ open_now db leaves. g.met.S.Store.settled end.store db open_now leaves)))

pub returns-clause-survives : goal.returns-clause-survives
returns-clause-survives g c =
    let old = c.args.conn.now in
    let mid = c.make_current.new.tx.conn.now in
    let end = c.commit.new.self.0 in
    let begun = c.transaction-tx.ensures.begun in
    let inside : IsTrue (state g.S.Store c.transaction-tx.result.conn.now).in_transaction = search rules in
    let settled : IsTrue (state g.S.Store old).is_open → (state g.S.Store old).now ≡ (state g.S.Store old).committed = search rules in
    let P = LeavesCurrent c.args.edition c.args.clock.now (map (λ (r : FormerNotice). r.row) c.args.notices.now) (state g.S.Store old) in
    let early : HasCleanDisk (state g.S.Store end) → HasCleanDisk (state g.S.Store mid) = λ clean. omega (arith, clean, c.commit.ensures.survives.clean) in
    let whole = survives_then (state g.S.Store old) (state g.S.Store mid) (state g.S.Store end) _ _ P (λ _ db none. absurd none)
    (λ clean db is.
    migrate_leaves c.args.edition c.args.clock.now c.args.notices.now (state g.S.Store old) (state g.S.Store mid) settled (rw begun at (c.in_ok-make_current.ensures.becomes (early clean) inside)) db is)
    (survives_begin g.S.Store old (state g.S.Store mid) _ (rw begun at c.make_current.ensures.survives)) c.commit.ensures.survives in
    let same : end ≡ c.conn-2-1.given.0 = search rules in
    subst (λ h. Survives (state g.S.Store old) (state g.S.Store h) P) same whole

pub returns-in_err-make_current-clause-failed : goal.returns-in_err-make_current-clause-failed
returns-in_err-make_current-clause-failed g c clean =
    let old = c.args.conn.now in
    let mid = c.make_current.new.tx.conn.now in
    let end = c.drop-tx.new.self.0 in
    let begun = c.transaction-tx.ensures.begun in
    let inside : IsTrue (state g.S.Store c.transaction-tx.result.conn.now).in_transaction = search rules in
    let same : end ≡ c.conn-1.given.0 = search rules in
    let late : HasCleanDisk (state g.S.Store end) = search rules in
    let early : HasCleanDisk (state g.S.Store mid) = omega (arith, c.drop-tx.ensures.survives.clean) in
    let one = rw begun at (c.in_err-make_current.ensures.fails early inside) in
    same_err c.from_residual.result _ _ c.from_residual.ensures.1
    (subst (λ h. MigrationFails g.S.Store c.args.edition c.args.clock.now (map row_of c.args.notices.now) old h c.in_err-make_current.field-0.0) same
    (inr (mid, (survives_begin g.S.Store old (state g.S.Store mid) _ (rw begun at c.make_current.ensures.survives)).counts, c.drop-tx.ensures.survives.counts, inl one)))

pub returns-clause-failed : goal.returns-clause-failed
returns-clause-failed g c clean =
    let old = c.args.conn.now in
    let mid = c.make_current.new.tx.conn.now in
    let end = c.commit.new.self.0 in
    let begun = c.transaction-tx.ensures.begun in
    let inside : IsTrue (state g.S.Store c.transaction-tx.result.conn.now).in_transaction = search rules in
    let same : end ≡ c.conn-2-1.given.0 = search rules in
    let late : HasCleanDisk (state g.S.Store end) = search rules in
    let early : HasCleanDisk (state g.S.Store mid) = omega (arith, c.commit.ensures.survives.clean) in
    let ran = rw begun at (c.in_ok-make_current.ensures.ran early inside) in
    subst (λ h. IfErr c.commit.result (MigrationFails g.S.Store c.args.edition c.args.clock.now (map row_of c.args.notices.now) old h)) same
    (if_err_with c.commit.result _ _ (c.commit.ensures.err late) (λ e failed.
    inr (mid, (survives_begin g.S.Store old (state g.S.Store mid) _ (rw begun at c.make_current.ensures.survives)).counts, c.commit.ensures.survives.counts, inr (ran, failed))))
