use Rattle.office_tables.proofs.Names.{state}
use Rattle.office_tables.proofs.ByTable.Lines.{select_get_line}
use Rattle.office_tables.proofs.tables.lines.get_line.Goals as goal

pub returns : goal.returns
returns g c = c.ask_first.ensures.told _ (rw c.id_value.ensures (λ before after rows t holds. select_get_line (state g.S.Store before) (state g.S.Store after) rows t holds c.args.line.now))
