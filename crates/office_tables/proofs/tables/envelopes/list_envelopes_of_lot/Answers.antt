use Rattle.office_tables.proofs.Names.{state}
use Rattle.office_tables.proofs.ByTable.Envelopes.{select_list_envelopes_of_lot}
use Rattle.office_tables.proofs.tables.envelopes.list_envelopes_of_lot.Goals as goal

pub returns : goal.returns
returns g c = c.ask_all.ensures.told _ (rw (c.id_value.ensures, c.id_value-2.ensures) (λ before after rows t holds. select_list_envelopes_of_lot (state g.S.Store before) (state g.S.Store after) rows t holds c.args.notice.now c.args.lot.now))
