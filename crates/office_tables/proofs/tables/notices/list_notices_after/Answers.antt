use Rattle.office_tables.proofs.Names.{state, ◌∙◌, ap, sym, notices_after}
use Rattle.office_tables.proofs.ByTable.Notices.{select_list_notices_above, select_list_first_notices}
use Rattle.office_tables.proofs.tables.notices.list_notices_after.Goals as goal

pub returns-in-Some : goal.returns-in-Some
returns-in-Some g c = c.ask_all.ensures.told _ (rw (c.id_value.ensures, c.count_value.ensures) (λ before after rows t holds shown. select_list_notices_above (state g.S.Store before) (state g.S.Store after) rows t holds c.in-Some.notice c.args.most shown ∙ ap (λ key. notices_after key c.args.most t) (sym c.in-Some.is)))

pub returns-in-None : goal.returns-in-None
returns-in-None g c = c.ask_all-in-None.ensures.told _ (rw c.count_value-in-None.ensures (λ before after rows t holds shown. select_list_first_notices (state g.S.Store before) (state g.S.Store after) rows t holds c.args.most shown ∙ ap (λ key. notices_after key c.args.most t) (sym c.in-None.is)))
