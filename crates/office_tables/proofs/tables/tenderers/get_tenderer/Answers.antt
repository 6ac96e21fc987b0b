use Rattle.office_tables.proofs.Names.{state}
use Rattle.office_tables.proofs.ByTable.Tenderers.{select_get_tenderer}
use Rattle.office_tables.proofs.tables.tenderers.get_tenderer.Goals as goal

pub returns : goal.returns
returns g c = c.ask_first.ensures.told _ (rw c.id_value.ensures (λ before after rows t holds. select_get_tenderer (state g.S.Store before) (state g.S.Store after) rows t holds c.args.tenderer.now))
