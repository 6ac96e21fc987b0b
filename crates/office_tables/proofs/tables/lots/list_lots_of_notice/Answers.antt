use Rattle.office_tables.proofs.Names.{state}
use Rattle.office_tables.proofs.ByTable.Lots.{select_list_lots_of_notice}
use Rattle.office_tables.proofs.tables.lots.list_lots_of_notice.Goals as goal

pub returns : goal.returns
returns g c = c.ask_all.ensures.told _ (rw c.id_value.ensures (λ before after rows t holds. select_list_lots_of_notice (state g.S.Store before) (state g.S.Store after) rows t holds c.args.notice.now))
