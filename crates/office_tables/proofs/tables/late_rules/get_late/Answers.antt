use Rattle.office_tables.proofs.Names.{state}
use Rattle.office_tables.proofs.ByTable.LateRules.{select_get_late}
use Rattle.office_tables.proofs.tables.late_rules.get_late.Goals as goal

pub returns : goal.returns
returns g c = c.ask_first.ensures.told _ (rw c.id_value.ensures (λ before after rows t holds. select_get_late (state g.S.Store before) (state g.S.Store after) rows t holds c.args.notice.now))
