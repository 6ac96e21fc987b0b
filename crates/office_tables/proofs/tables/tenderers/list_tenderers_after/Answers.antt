use Rattle.office_tables.proofs.Names.{state, ◌∙◌, ap, sym, tenderers_after}
use Rattle.office_tables.proofs.ByTable.Tenderers.{select_list_tenderers_above, select_list_first_tenderers}
use Rattle.office_tables.proofs.tables.tenderers.list_tenderers_after.Goals as goal

pub returns-in-Some : goal.returns-in-Some
returns-in-Some g c = c.ask_all.ensures.told _ (rw (c.id_value.ensures, c.count_value.ensures) (λ before after rows t holds shown. select_list_tenderers_above (state g.S.Store before) (state g.S.Store after) rows t holds c.in-Some.tenderer c.args.most shown ∙ ap (λ key. tenderers_after key c.args.most t) (sym c.in-Some.is)))

pub returns-in-None : goal.returns-in-None
returns-in-None g c = c.ask_all-in-None.ensures.told _ (rw c.count_value-in-None.ensures (λ before after rows t holds shown. select_list_first_tenderers (state g.S.Store before) (state g.S.Store after) rows t holds c.args.most shown ∙ ap (λ key. tenderers_after key c.args.most t) (sym c.in-None.is)))
