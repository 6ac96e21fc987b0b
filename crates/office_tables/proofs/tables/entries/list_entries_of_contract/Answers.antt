use Rattle.office_tables.proofs.Names.{state}
use Rattle.office_tables.proofs.ByTable.Entries.{select_list_entries_of_contract}
use Rattle.office_tables.proofs.tables.entries.list_entries_of_contract.Goals as goal

pub returns : goal.returns
returns g c = c.ask_all.ensures.told _ (rw c.number_value.ensures (λ before after rows t holds. select_list_entries_of_contract (state g.S.Store before) (state g.S.Store after) rows t holds c.args.contract))
