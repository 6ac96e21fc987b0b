use Rattle.office_tables.proofs.Names.{state}
use Rattle.office_tables.proofs.ByTable.Entries.{select_get_entry}
use Rattle.office_tables.proofs.tables.entries.get_entry.Goals as goal

pub returns : goal.returns
returns g c = c.ask_first.ensures.told _ (rw (c.number_value.ensures, c.id_value.ensures) (λ before after rows t holds. select_get_entry (state g.S.Store before) (state g.S.Store after) rows t holds c.args.contract c.args.entry.now))
