use Rattle.office_store.proofs.Names.{◌≡◌, ◌∙◌, [], ◌∷◌, ◌++◌, subst, state, HasCleanDisk, ledger_of, LinesFit, joined}
use Rattle.office_ledger.specs.Taking.{HasTaken as HasAdded}
use Rattle.office_store.proofs.Adding.{keeps_then, sums_right}
use Rattle.office_store.proofs.sums.add_up.Goals as goal

pub returns-in_err-row-clause-kept : goal.returns-in_err-row-clause-kept
returns-in_err-row-clause-kept g c = keeps_then g.S.Store c.args.rows.now.conn.now c.rows.rows.conn.now c.take_row.new.rows.conn.now c.rows.invariant.1 c.take_row.ensures.kept

pub returns-in_err-take-in-Some-clause-kept : goal.returns-in_err-take-in-Some-clause-kept
returns-in_err-take-in-Some-clause-kept g c = keeps_then g.S.Store c.args.rows.now.conn.now c.rows.rows.conn.now c.take_row.new.rows.conn.now c.rows.invariant.1 c.take_row.ensures.kept

pub returns-in-None-clause-kept : goal.returns-in-None-clause-kept
returns-in-None-clause-kept g c = keeps_then g.S.Store c.args.rows.now.conn.now c.rows.rows.conn.now c.take_row.new.rows.conn.now c.rows.invariant.1 c.take_row.ensures.kept

pub returns-in-None-clause-got : goal.returns-in-None-clause-got
returns-in-None-clause-got g c clean t sorted begun =
    let early : HasCleanDisk (state g.S.Store c.rows.rows.conn.now) = (c.take_row.ensures.kept 0).before clean in
    let taken = c.rows.invariant.2.0 in
    let whole : taken ≡ joined t = rw c.in-None.is at (c.in_ok-row.ensures.rows clean t taken (c.rows.invariant.2.2 early t begun)) in
    sums_right (λ t rows. rows.items ≡ ledger_of t) LinesFit c.finish.result t (c.finish.ensures t sorted (subst (λ rows. HasAdded rows c.rows.sums) whole c.rows.invariant.2.1))

pub rows-preserved : goal.rows-preserved
rows-preserved g c =
    let taken = c.rows.invariant.2.0 in (
      c.take_row.ensures.same_reference ∙ c.rows.invariant.0,
      keeps_then g.S.Store c.args.rows.now.conn.now c.rows.rows.conn.now c.take_row.new.rows.conn.now c.rows.invariant.1 c.take_row.ensures.kept,
      (
        taken ++ c.in-Some.row ∷ [],
        c.in_ok-take-in-Some.ensures.taken taken c.rows.invariant.2.1,
        λ clean t begun.
            let early : HasCleanDisk (state g.S.Store c.rows.rows.conn.now) = (c.take_row.ensures.kept 0).before clean in
            rw c.in-Some.is at (c.in_ok-row.ensures.rows clean t taken (c.rows.invariant.2.2 early t begun)),
      ),
    )
