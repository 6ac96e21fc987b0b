use Rattle.office_tables.proofs.Names.{state}
use Rattle.office_tables.proofs.ByTable.Lots.{select_get_lot}
use Rattle.office_tables.proofs.tables.lots.get_lot.Goals as goal

pub returns : goal.returns
returns g c = c.ask_first.ensures.told _ (rw (c.id_value.ensures, c.id_value-2.ensures) (λ before after rows t holds. select_get_lot (state g.S.Store before) (state g.S.Store after) rows t holds c.args.notice.now c.args.lot.now))
