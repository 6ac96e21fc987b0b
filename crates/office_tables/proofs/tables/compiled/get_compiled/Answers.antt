use Rattle.office_tables.proofs.Names.{state}
use Rattle.office_tables.proofs.ByTable.Compiled.{select_get_compiled}
use Rattle.office_tables.proofs.tables.compiled.get_compiled.Goals as goal

pub returns : goal.returns
returns g c = c.ask_first.ensures.told _ (rw c.id_value.ensures (λ before after rows t holds. select_get_compiled (state g.S.Store before) (state g.S.Store after) rows t holds c.args.notice.now))
