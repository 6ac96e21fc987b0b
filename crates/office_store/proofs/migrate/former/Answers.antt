use Rattle.office_store.proofs.Names.{arith, state, HasCleanDisk, survives_then}
use Rattle.office_store.proofs.Founding.{refused_on}
use Rattle.office_store.proofs.Migrating.{earlier_on}
use Rattle.office_store.proofs.migrate.former.Goals as goal

pub returns-clause-got : goal.returns-clause-got
returns-clause-got g c clean edition t shows =
    let old = state g.S.Store c.args.conn.now in
    let mid = state g.S.Store c.former_clock.new.conn in
    let early : HasCleanDisk mid = omega (arith, clean, c.former_notices.ensures.survives.clean) in
    (c.in_ok-clock.ensures.got early edition t shows, c.in_ok-notices.ensures.got clean edition t (earlier_on edition old mid t (c.former_clock.ensures.kept early) shows))

pub returns-clause-kept : goal.returns-clause-kept
returns-clause-kept g c clean =
    let mid = state g.S.Store c.former_clock.new.conn in
    let early : HasCleanDisk mid = omega (arith, clean, c.former_notices.ensures.survives.clean) in
    refused_on (state g.S.Store c.args.conn.now) mid (state g.S.Store c.former_notices.new.conn) (c.former_clock.ensures.kept early) (c.former_notices.ensures.kept clean)

pub returns-clause-survives : goal.returns-clause-survives
returns-clause-survives g c =
    survives_then (state g.S.Store c.args.conn.now) (state g.S.Store c.former_clock.new.conn) (state g.S.Store c.former_notices.new.conn) (λ _. ⊥) (λ _. ⊥) (λ _. ⊥) (λ _ db none. none) (λ _ db none. none)
    c.former_clock.ensures.survives c.former_notices.ensures.survives

pub returns-in_err-notices-clause-kept : goal.returns-in_err-notices-clause-kept
returns-in_err-notices-clause-kept g c clean =
    let mid = state g.S.Store c.former_clock.new.conn in
    let early : HasCleanDisk mid = omega (arith, clean, c.former_notices.ensures.survives.clean) in
    refused_on (state g.S.Store c.args.conn.now) mid (state g.S.Store c.former_notices.new.conn) (c.former_clock.ensures.kept early) (c.former_notices.ensures.kept clean)

pub returns-in_err-notices-clause-survives : goal.returns-in_err-notices-clause-survives
returns-in_err-notices-clause-survives g c =
    survives_then (state g.S.Store c.args.conn.now) (state g.S.Store c.former_clock.new.conn) (state g.S.Store c.former_notices.new.conn) (λ _. ⊥) (λ _. ⊥) (λ _. ⊥) (λ _ db none. none) (λ _ db none. none)
    c.former_clock.ensures.survives c.former_notices.ensures.survives
