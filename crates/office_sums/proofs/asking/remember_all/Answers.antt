use Rattle.office_sums.proofs.Names.{sym, subst, drop_more, LedgerRow, sums_in, AreSums, AreBalances, Remembers}
use Rattle.office_sums.proofs.asking.remember_all.Goals as goal

pub loop-row-init : goal.loop-row-init
loop-row-init c t told = (told, subst (λ known. Remembers known t) (sym c.forget_all.ensures) (c.nothing_remembered.ensures t))

pub loop-row-preserved : goal.loop-row-preserved
loop-row-preserved c t told =
    let now = c.loop-row.invariant t told in
    let left = subst (λ rows. AreBalances rows t) (drop_more c.args.rows.now c.loop-row.row-index c.row-item.result c.loop-row-test.true) now.0 in
    (left.1, c.remember.ensures.kept t (subst (λ (row : LedgerRow). AreSums row.line (sums_in row.pots) t) (sym c.row-item.is) left.0) now.1)

pub returns : goal.returns
returns c = record { kept = λ t told. (c.loop-row.invariant t told).1 }
