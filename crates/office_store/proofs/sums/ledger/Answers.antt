use Rattle.office_store.proofs.Names.{◌≡◌, ◌∙◌, rules, sym, subst, state, HasCleanDisk, KeepsOffice}
use Rattle.office_store.proofs.Adding.{keeps_then}
use Rattle.office_store.proofs.Readying.{begun_keeps, begun_takes, refused_keeps}
use Rattle.office_store.proofs.sums.ledger.Goals as goal

pub returns-in-Ok-clause-got : goal.returns-in-Ok-clause-got
returns-in-Ok-clause-got g c clean t sorted shows =
    let same : c.drop-rows.new.self.0 ≡ c.conn-1.given.0 = search rules in
    let late : HasCleanDisk (state g.S.Store c.add_up.new.rows.conn.now) = subst (λ h. HasCleanDisk (state g.S.Store h)) (sym same ∙ c.drop-rows.ensures) clean in
    let early : HasCleanDisk (state g.S.Store c.in-Ok.rows.conn.now) = (c.add_up.ensures.kept 0).before late in
    c.add_up.ensures.got late t sorted
    (begun_takes g.S.Store c.args.conn.now c.ready.new.conn c.in-Ok.rows.conn.now c.join_is_plain.ensures c.join_is_no_write.ensures c.stored_rows_show.ensures c.in_ok-ready.ensures.unchanged c.in_ok-ready.ensures.settled c.in_ok-ready.ensures.survives
    (rw c.list_joined.ensures at c.in-Ok.ensures.survives) (rw c.list_joined.ensures at c.in-Ok.ensures.begun) early t sorted shows)

pub returns-in-Ok-clause-kept : goal.returns-in-Ok-clause-kept
returns-in-Ok-clause-kept g c =
    let same : c.drop-rows.new.self.0 ≡ c.conn-1.given.0 = search rules in
    let begun = begun_keeps g.S.Store c.args.conn.now c.ready.new.conn c.in-Ok.rows.conn.now c.join_is_plain.ensures c.join_is_no_write.ensures c.stored_rows_show.ensures c.in_ok-ready.ensures.unchanged c.in_ok-ready.ensures.settled c.in_ok-ready.ensures.survives
    (rw c.list_joined.ensures at c.in-Ok.ensures.survives) (rw c.list_joined.ensures at c.in-Ok.ensures.begun) in
    subst (KeepsOffice g.S.Store c.args.conn.now) (sym c.drop-rows.ensures ∙ same)
    (keeps_then g.S.Store c.args.conn.now c.in-Ok.rows.conn.now c.add_up.new.rows.conn.now begun c.add_up.ensures.kept)

pub returns-in-Err-clause-kept : goal.returns-in-Err-clause-kept
returns-in-Err-clause-kept g c =
    let h = rw c.in-Err.is at c.query.follows.holds-at-none in
    refused_keeps g.S.Store c.args.conn.now c.ready.new.conn c.query.follows.lender-at-none c.join_is_plain.ensures c.join_is_no_write.ensures c.stored_rows_show.ensures c.in_ok-ready.ensures.unchanged c.in_ok-ready.ensures.settled c.in_ok-ready.ensures.survives
    (rw c.list_joined.ensures at h.survives) c.in-Err.error (λ clean. rw c.list_joined.ensures at (h.err clean))
