use Rattle.office_tables.proofs.Names.{sym}
use Rattle.office_tables.proofs.ItemReading.{cut_at, uncut}
use Rattle.office_tables.proofs.items.cut.Goals as goal

pub returns-in_err-at-clause-none : goal.returns-in_err-at-clause-none
returns-in_err-at-clause-none c = rw c.from_residual.ensures (uncut c.args.stop c.args.text.now (sym c.in_err-at.ensures.place))

pub returns-clause-before : goal.returns-clause-before
returns-clause-before c = (cut_at c.args.stop c.args.text.now c.in_ok-at.at (sym c.in_ok-at.ensures.place)).front

pub returns-clause-behind : goal.returns-clause-behind
returns-clause-behind c = (cut_at c.args.stop c.args.text.now c.in_ok-at.at (sym c.in_ok-at.ensures.place)).rest

pub returns-clause-exact : goal.returns-clause-exact
returns-clause-exact c = (cut_at c.args.stop c.args.text.now c.in_ok-at.at (sym c.in_ok-at.ensures.place)).whole
