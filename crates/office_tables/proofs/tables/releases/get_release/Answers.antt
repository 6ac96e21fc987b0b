use Rattle.office_tables.proofs.Names.{state}
use Rattle.office_tables.proofs.ByTable.Releases.{select_get_release}
use Rattle.office_tables.proofs.tables.releases.get_release.Goals as goal

pub returns : goal.returns
returns g c = c.ask_first.ensures.told _ (rw (c.id_value.ensures, c.sequence_value.ensures) (λ before after rows t holds. select_get_release (state g.S.Store before) (state g.S.Store after) rows t holds c.args.notice.now c.args.seq))
