use Rattle.office_store.proofs.Names.{rules, arith, ◌≡◌, OnOk, subst, IsTrue, state, HasCleanDisk, Survives, survives_then, survives_begin, Refused, Founded, LeavesNew, rolled, on_err, on_ok_with, begun_refused}
use Rattle.office_store.proofs.Founding.{founds, found_leaves}
use Rattle.office_store.proofs.found.found.Goals as goal

pub returns-in_err-make-clause-refused : goal.returns-in_err-make-clause-refused
returns-in_err-make-clause-refused g c clean =
    let old = c.args.conn.now in
    let mid = c.make.new.tx.conn.now in
    let end = c.drop-tx.new.self.0 in
    let begun = c.transaction-tx.ensures.begun in
    let inside : IsTrue (state g.S.Store c.transaction-tx.result.conn.now).in_transaction = search rules in
    let same : end ≡ c.conn-1.given.0 = search rules in
    let late : HasCleanDisk (state g.S.Store end) = search rules in
    let early : HasCleanDisk (state g.S.Store mid) = omega (arith, c.drop-tx.ensures.survives.clean) in
    on_err _ _ (subst (λ h. Refused (state g.S.Store old) (state g.S.Store h)) same
    (rolled (state g.S.Store old) (state g.S.Store mid) (state g.S.Store end) (begun_refused _ _ (rw begun at (c.in_err-make.ensures.refused early inside))) (c.drop-tx.ensures.undone late)))

pub returns-clause-founded : goal.returns-clause-founded
returns-clause-founded g c clean sound =
    let old = c.args.conn.now in
    let mid = c.make.new.tx.conn.now in
    let end = c.commit.new.self.0 in
    let begun = c.transaction-tx.ensures.begun in
    let inside : IsTrue (state g.S.Store c.transaction-tx.result.conn.now).in_transaction = search rules in
    let settled : IsTrue (state g.S.Store old).is_open → (state g.S.Store old).now ≡ (state g.S.Store old).committed = search rules in
    let same : end ≡ c.conn-2-1.given.0 = search rules in
    let late : HasCleanDisk (state g.S.Store end) = search rules in
    let early : HasCleanDisk (state g.S.Store mid) = omega (arith, c.commit.ensures.survives.clean) in
    let made = rw begun at (c.in_ok-make.ensures.founds early inside) in
    subst (λ h. OnOk c.commit.result (Founded (state g.S.Store old) (state g.S.Store h))) same
    (on_ok_with c.commit.result _ _ (c.commit.ensures.ok late) (λ ok.
    founds (state g.S.Store old) (state g.S.Store mid) settled made (state g.S.Store end) sound ok.1 (λ open_now db leaves. g.met.S.Store.settled end.store db open_now leaves)))

pub returns-clause-survives : goal.returns-clause-survives
returns-clause-survives g c =
    let old = c.args.conn.now in
    let mid = c.make.new.tx.conn.now in
    let end = c.commit.new.self.0 in
    let begun = c.transaction-tx.ensures.begun in
    let inside : IsTrue (state g.S.Store c.transaction-tx.result.conn.now).in_transaction = search rules in
    let settled : IsTrue (state g.S.Store old).is_open → (state g.S.Store old).now ≡ (state g.S.Store old).committed = search rules in
    let P = LeavesNew (state g.S.Store old) in
    let early : HasCleanDisk (state g.S.Store end) → HasCleanDisk (state g.S.Store mid) = λ clean. omega (arith, clean, c.commit.ensures.survives.clean) in
    let whole = survives_then (state g.S.Store old) (state g.S.Store mid) (state g.S.Store end) _ _ P (λ _ db none. absurd none)
    (λ clean db is. found_leaves (state g.S.Store old) (state g.S.Store mid) settled (rw begun at (c.in_ok-make.ensures.founds (early clean) inside)) db is)
    (survives_begin g.S.Store old (state g.S.Store mid) _ (rw begun at c.make.ensures.survives)) c.commit.ensures.survives in
    let same : end ≡ c.conn-2-1.given.0 = search rules in
    subst (λ h. Survives (state g.S.Store old) (state g.S.Store h) P) same whole
