use Rattle.office_tables.proofs.Names.{state}
use Rattle.office_tables.proofs.ByTable.Lines.{select_list_lines}
use Rattle.office_tables.proofs.tables.lines.list_lines.Goals as goal

pub returns : goal.returns
returns g c = c.ask_all.ensures.told _ (λ before after rows t holds. select_list_lines (state g.S.Store before) (state g.S.Store after) rows t holds)
