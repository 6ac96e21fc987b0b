use Rattle.office_tables.proofs.Names.{state}
use Rattle.office_tables.proofs.ByTable.Releases.{select_list_release_numbers}
use Rattle.office_tables.proofs.tables.releases.list_release_numbers.Goals as goal

pub returns : goal.returns
returns g c = c.ask_all.ensures.told _ (rw c.id_value.ensures (λ before after rows t holds. select_list_release_numbers (state g.S.Store before) (state g.S.Store after) rows t holds c.args.notice.now))
