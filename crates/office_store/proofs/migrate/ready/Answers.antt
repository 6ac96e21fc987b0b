use Rattle.office_store.proofs.Names.{◌≡◌, true, false, sym, subst, nat_lt, lt-ltb, le-ltb, state, survives_weaker, this_version, LeavesReadied, IsMadeCurrent}
use Rattle.office_store.proofs.migrate.ready.Goals as goal

pub returns-in-Ok-clause-readied : goal.returns-in-Ok-clause-readied
returns-in-Ok-clause-readied g c clean =
    let old = state g.S.Store c.args.conn.now in
    let new = state g.S.Store c.migrated.new.conn in
    let early : nat_lt c.args.edition this_version ≡ true = lt-ltb c.args.edition this_version c.if-edition-lt-VERSION.true in
    let made = c.in-Ok.ensures.migrated clean in
    subst (λ b. IsMadeCurrent b c.args.edition old new) (sym early) (c.in_ok-check_forms.ensures.forms made.was_open, made)

pub returns-in-Ok-clause-is_open : goal.returns-in-Ok-clause-is_open
returns-in-Ok-clause-is_open g c clean = (c.in-Ok.ensures.migrated clean).is_open

pub returns-in-Ok-clause-survives : goal.returns-in-Ok-clause-survives
returns-in-Ok-clause-survives g c =
    let early : nat_lt c.args.edition this_version ≡ true = lt-ltb c.args.edition this_version c.if-edition-lt-VERSION.true in
    survives_weaker (state g.S.Store c.args.conn.now) (state g.S.Store c.migrated.new.conn) _ (LeavesReadied c.args.edition (state g.S.Store c.args.conn.now)) (λ clean db made. (early, made)) c.migrated.ensures.survives

pub returns-in-Err-clause-survives : goal.returns-in-Err-clause-survives
returns-in-Err-clause-survives g c =
    let early : nat_lt c.args.edition this_version ≡ true = lt-ltb c.args.edition this_version c.if-edition-lt-VERSION.true in
    survives_weaker (state g.S.Store c.args.conn.now) (state g.S.Store c.migrated.new.conn) _ (LeavesReadied c.args.edition (state g.S.Store c.args.conn.now)) (λ clean db made. (early, made)) c.migrated.ensures.survives

pub returns-in-Ok-still_open-clause-readied : goal.returns-in-Ok-still_open-clause-readied
returns-in-Ok-still_open-clause-readied g c clean =
    let old = state g.S.Store c.args.conn.now in
    let new = state g.S.Store c.still_open.new.conn in
    let later : nat_lt c.args.edition this_version ≡ false = le-ltb c.args.edition this_version c.if-edition-lt-VERSION.false in
    let kept = c.still_open.ensures.kept clean in
    subst (λ b. IsMadeCurrent b c.args.edition old new) (sym later) (λ open_now. c.in_ok-check_forms.ensures.forms (kept.was_open open_now), kept)
