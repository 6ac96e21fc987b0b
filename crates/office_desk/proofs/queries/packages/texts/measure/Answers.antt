use Rattle.office_desk.proofs.Names.{◌≡◌, ◌+◌, ◌∷◌, drop, sym, ap, ◌∙◌, subst, arith, drop_all, drop_more, ReleaseRow}
use Rattle.office_desk.proofs.Placed.{Measures, measures_next, measured, all_written}
use Rattle.office_desk.proofs.queries.packages.texts.measure.Goals as goal

pub loop-row-preserved : goal.loop-row-preserved
loop-row-preserved c =
    let rows = c.args.rows.now in
    let at = c.loop-row.row-index in
    let row = c.row-item.result in
    let with_it = c.in_ok-extent.ensures in
    let is : drop at rows ≡ row ∷ drop (at + 1) rows =
    drop_more rows at row c.loop-row-test.true ∙ ap (λ (r : ReleaseRow). r ∷ drop (at + 1) rows) (sym c.row-item.is) in
    subst (λ (last : _). Measures c.args.ocid.now last (drop (at + 1) rows) rows) (sym with_it.last)
    (measures_next c.args.ocid.now c.loop-row.extent.last (drop at rows) (drop (at + 1) rows) rows row is with_it.range with_it.written c.loop-row.invariant)

pub returns-clause-is : goal.returns-clause-is
returns-clause-is c =
    let rows = c.args.rows.now in
    let at = c.loop-row.row-index in
    measured c.args.ocid.now c.loop-row.extent rows (drop at rows) (drop_all at rows (omega (arith, c.loop-row-test.false))) c.loop-row.invariant

pub returns-clause-written : goal.returns-clause-written
returns-clause-written c =
    let rows = c.args.rows.now in
    let at = c.loop-row.row-index in
    all_written c.args.ocid.now c.loop-row.extent rows (drop at rows) (drop_all at rows (omega (arith, c.loop-row-test.false))) c.loop-row.invariant
