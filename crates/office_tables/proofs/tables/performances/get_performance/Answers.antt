use Rattle.office_tables.proofs.Names.{state}
use Rattle.office_tables.proofs.ByTable.Performances.{select_get_performance}
use Rattle.office_tables.proofs.tables.performances.get_performance.Goals as goal

pub returns : goal.returns
returns g c = c.ask_first.ensures.told _ (rw c.number_value.ensures (λ before after rows t holds. select_get_performance (state g.S.Store before) (state g.S.Store after) rows t holds c.args.contract))
