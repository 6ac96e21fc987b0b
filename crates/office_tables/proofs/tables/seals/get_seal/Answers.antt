use Rattle.office_tables.proofs.Names.{state}
use Rattle.office_tables.proofs.ByTable.Seals.{select_get_seal}
use Rattle.office_tables.proofs.tables.seals.get_seal.Goals as goal

pub returns : goal.returns
returns g c = c.ask_first.ensures.told _ (rw c.number_value.ensures (λ before after rows t holds. select_get_seal (state g.S.Store before) (state g.S.Store after) rows t holds c.args.receipt))
