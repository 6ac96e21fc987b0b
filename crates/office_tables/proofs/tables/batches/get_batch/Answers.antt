use Rattle.office_tables.proofs.Names.{state}
use Rattle.office_tables.proofs.ByTable.Batches.{select_get_batch}
use Rattle.office_tables.proofs.tables.batches.get_batch.Goals as goal

pub returns : goal.returns
returns g c = c.ask_first.ensures.told _ (rw c.id_value.ensures (λ before after rows t holds. select_get_batch (state g.S.Store before) (state g.S.Store after) rows t holds c.args.batch.now))
