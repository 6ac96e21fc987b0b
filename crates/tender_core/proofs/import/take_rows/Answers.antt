use Rattle.tender_core.proofs.Names.{◌≡◌, suc, add-one, ◌+◌, ◌*◌, ◌^◌, ◌∷◌, drop, subst, sym, ap, ◌∙◌, List, arith, drop-cons, cuts_nothing, cuts_too_much, passes_limit, cuts_below_zero, Standing, AreNamed, AreAtMost}
use Rattle.tender_core.proofs.Walked.{named_after, after_row-bound, small_columns, next_row, next_found, all_weaker}
use Rattle.tender_core.proofs.import.take_rows.Goals as goal

pub findings_at-here-requires : goal.findings_at-here-requires
findings_at-here-requires c =
    rw c.columns_at.ensures (small_columns c.loop-row.row-index _ c.loop-row.lines c.row-item.result.line c.loop-row-test.true (omega arith) c.loop-row.invariant.1)

pub take_row-requires-clause-fits : goal.take_row-requires-clause-fits
take_row-requires-clause-fits c =
    small_columns c.loop-row.row-index _ c.loop-row.lines c.row-item.result.line c.loop-row-test.true (omega arith) c.loop-row.invariant.1

pub loop-row-preserved : goal.loop-row-preserved
loop-row-preserved c =
    let split : drop c.loop-row.row-index c.args.rows.now ≡ c.row-item.result ∷ drop (c.loop-row.row-index + 1) c.args.rows.now =
    rw add-one (drop-cons c.args.rows.now c.loop-row.row-index c.row-item.result c.loop-row-test.true ∙ ap (λ r. r ∷ drop (suc c.loop-row.row-index) c.args.rows.now) (sym c.row-item.is)) in
    let named : List Standing → Type 0 = λ m. AreNamed m c.args.rows.now in
    let small : List Standing → Type 0 = λ m. AreAtMost ((c.loop-row.row-index + 1 + 1) * 10 ^ 15) m in (
      subst named (sym c.take_row.ensures) (named_after c.rows_are_kept.ensures c.loop-row.lines c.row-item.result c.args.rows.now c.loop-row.invariant.0),
      subst small (sym c.take_row.ensures)
          (all_weaker ((c.loop-row.row-index + 1) * 10 ^ 15 + 10 ^ 15) ((c.loop-row.row-index + 1 + 1) * 10 ^ 15) _ (omega arith)
          (after_row-bound ((c.loop-row.row-index + 1) * 10 ^ 15) c.loop-row.lines c.row-item.result c.findings_at-here.ensures.small c.loop-row.invariant.1)),
      next_row _ _ c.row-item.result c.loop-row.lines c.take_row.new.lines _ split c.take_row.ensures c.loop-row.invariant.2,
      next_found cuts_nothing _ _ c.row-item.result c.loop-row.lines c.take_row.new.lines c.columns_at.result c.loop-row.all.unknown c.findings_at-here.result.unknown _ _
          split c.take_row.ensures c.columns_at.ensures c.findings_at-here.ensures.unknown c.joined-all.ensures.unknown c.loop-row.invariant.3,
      next_found cuts_too_much _ _ c.row-item.result c.loop-row.lines c.take_row.new.lines c.columns_at.result c.loop-row.all.short c.findings_at-here.result.short _ _
          split c.take_row.ensures c.columns_at.ensures c.findings_at-here.ensures.short c.joined-all.ensures.short c.loop-row.invariant.4,
      next_found passes_limit _ _ c.row-item.result c.loop-row.lines c.take_row.new.lines c.columns_at.result c.loop-row.all.past c.findings_at-here.result.past _ _
          split c.take_row.ensures c.columns_at.ensures c.findings_at-here.ensures.past c.joined-all.ensures.past c.loop-row.invariant.5,
      next_found cuts_below_zero _ _ c.row-item.result c.loop-row.lines c.take_row.new.lines c.columns_at.result c.loop-row.all.lacking c.findings_at-here.result.lacking _ _
          split c.take_row.ensures c.columns_at.ensures c.findings_at-here.ensures.lacking c.joined-all.ensures.lacking c.loop-row.invariant.6,
    )
