use Rattle.office_changes.proofs.Names.{rules, arith, ◌≡◌, OnOk, IfErr, refl, subst, IsTrue, state, HasCleanDisk, Survives, survives_then, survives_begin, Applied, Refused, LeavesPuts, IsExcused, ChangeFails}
use Rattle.office_changes.proofs.Steps.{rolled, put_leaves, applies, on_err, on_ok_with, begun_refused}
use Rattle.office_changes.proofs.Failing.{if_err_with, same_err, undone_fails, commit_fails}
use Rattle.office_changes.proofs.apply.apply_all.Goals as goal

pub returns-in_err-put_all-clause-refused : goal.returns-in_err-put_all-clause-refused
returns-in_err-put_all-clause-refused g c clean =
    let old = c.args.conn.now in
    let mid = c.put_all.new.tx.conn.now in
    let end = c.drop-tx.new.self.0 in
    let begun = c.transaction-tx.ensures.begun in
    let same : end ≡ c.conn-1.given.0 = search rules in
    let late : HasCleanDisk (state g.S.Store end) = search rules in
    let early : HasCleanDisk (state g.S.Store mid) = omega (arith, c.drop-tx.ensures.survives.clean) in
    on_err _ _ (subst (λ h. Refused (state g.S.Store old) (state g.S.Store h)) same
    (rolled (state g.S.Store old) (state g.S.Store mid) (state g.S.Store end) (begun_refused _ _ (rw begun at (c.in_err-put_all.ensures.refused early))) (c.drop-tx.ensures.undone late)))

pub returns-clause-applied : goal.returns-clause-applied
returns-clause-applied g c clean =
    let old = c.args.conn.now in
    let mid = c.put_all.new.tx.conn.now in
    let end = c.commit.new.self.0 in
    let begun = c.transaction-tx.ensures.begun in
    let settled : IsTrue (state g.S.Store old).is_open → (state g.S.Store old).now ≡ (state g.S.Store old).committed = search rules in
    let same : end ≡ c.conn-2-1.given.0 = search rules in
    let late : HasCleanDisk (state g.S.Store end) = search rules in
    let early : HasCleanDisk (state g.S.Store mid) = omega (arith, c.commit.ensures.survives.clean) in
    let done = rw begun at (c.in_ok-put_all.ensures.puts early) in
    subst (λ h. OnOk c.commit.result (Applied (state g.S.Store old) (state g.S.Store h) c.args.puts.now)) same
    (on_ok_with c.commit.result _ _ (c.commit.ensures.ok late) (λ ok.
    applies (state g.S.Store old) (state g.S.Store mid) (state g.S.Store end) c.args.puts.now settled done ok.1 (λ open_now db leaves. g.met.S.Store.settled end.store db open_now leaves)))

pub returns-clause-survives : goal.returns-clause-survives
returns-clause-survives g c =
    let old = c.args.conn.now in
    let mid = c.put_all.new.tx.conn.now in
    let end = c.commit.new.self.0 in
    let begun = c.transaction-tx.ensures.begun in
    let settled : IsTrue (state g.S.Store old).is_open → (state g.S.Store old).now ≡ (state g.S.Store old).committed = search rules in
    let P = LeavesPuts (state g.S.Store old) c.args.puts.now in
    let whole = survives_then (state g.S.Store old) (state g.S.Store mid) (state g.S.Store end) _ _ P (λ _ db none. absurd none)
    (λ clean db is. put_leaves (state g.S.Store old) (state g.S.Store mid) c.args.puts.now settled (rw begun at (c.in_ok-put_all.ensures.puts (omega (arith, c.commit.ensures.survives.clean)))) db is)
    (survives_begin g.S.Store old (state g.S.Store mid) _ (rw begun at c.put_all.ensures.survives)) c.commit.ensures.survives in
    let same : end ≡ c.conn-2-1.given.0 = search rules in
    subst (λ h. Survives (state g.S.Store old) (state g.S.Store h) P) same whole

pub returns-in_err-put_all-clause-failed : goal.returns-in_err-put_all-clause-failed
returns-in_err-put_all-clause-failed g c clean t shows =
    let old = c.args.conn.now in
    let mid = c.put_all.new.tx.conn.now in
    let end = c.drop-tx.new.self.0 in
    let begun = c.transaction-tx.ensures.begun in
    let settled : IsTrue (state g.S.Store old).is_open → (state g.S.Store old).now ≡ (state g.S.Store old).committed = search rules in
    let same : end ≡ c.conn-1.given.0 = search rules in
    let late : HasCleanDisk (state g.S.Store end) = search rules in
    let early : HasCleanDisk (state g.S.Store mid) = omega (arith, c.drop-tx.ensures.survives.clean) in
    same_err c.from_residual.result _ _ c.from_residual.ensures.1
    (subst (λ h. IsExcused (ChangeFails (state g.S.Store old) (state g.S.Store h) c.args.puts.now) c.in_err-put_all.field-0.0) same
    (undone_fails (state g.S.Store old) (state g.S.Store mid) (state g.S.Store end) c.args.puts.now _ settled c.drop-tx.ensures.survives.counts t shows (λ held. (rw begun at c.in_err-put_all.ensures.failed) early refl t held)))

pub returns-clause-failed : goal.returns-clause-failed
returns-clause-failed g c clean t shows =
    let old = c.args.conn.now in
    let mid = c.put_all.new.tx.conn.now in
    let end = c.commit.new.self.0 in
    let begun = c.transaction-tx.ensures.begun in
    let same : end ≡ c.conn-2-1.given.0 = search rules in
    let late : HasCleanDisk (state g.S.Store end) = search rules in
    let early : HasCleanDisk (state g.S.Store mid) = omega (arith, c.commit.ensures.survives.clean) in
    let up = survives_begin g.S.Store old (state g.S.Store mid) _ (rw begun at c.put_all.ensures.survives) in
    subst (λ h. IfErr c.commit.result (IsExcused (ChangeFails (state g.S.Store old) (state g.S.Store h) c.args.puts.now))) same
    (if_err_with c.commit.result _ _ (c.commit.ensures.err late) (λ e failed.
    commit_fails (state g.S.Store old) (state g.S.Store mid) (state g.S.Store end) c.args.puts.now e (rw begun at (c.in_ok-put_all.ensures.puts early)) up.counts failed))
