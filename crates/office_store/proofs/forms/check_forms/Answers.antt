use Rattle.office_store.proofs.Names.{rules, ◌≡◌, IsTrue, false, sym, subst, ap, ◌∙◌, true≢false, Database, state, Schema, OfficeTable, table_of, HasForms, ListsForms, StandsOrLacks}
use Rattle.office_store.proofs.FormsStand.{forms_stand}
use Rattle.office_store.proofs.FormsFound.{forms_found}
use Rattle.office_store.proofs.forms.check_forms.Goals as goal

pub returns-then-all_stand-clause-forms : goal.returns-then-all_stand-clause-forms
returns-then-all_stand-clause-forms g c open_now =
    let it = state g.S.Store c.args.conn.now in
    let alone : IsTrue c.is_autocommit.result = search rules in
    let settled = c.is_autocommit.ensures.settled alone open_now in
    let lists : ListsForms c.schema-2.result.now = subst ListsForms (sym c.schema-2.ensures.value) c.in-Ok.ensures.forms in
    subst (λ (d : Database). HasForms c.args.edition d.schema) settled
    (forms_stand c.args.edition it.now (c.schema.ensures.live open_now).0 (λ k.
    subst (λ s. StandsOrLacks c.args.edition s (table_of k)) c.schema.ensures.value (c.all_stand.ensures.right c.if-all_stand.true lists k)))

pub returns-clause-lacks : goal.returns-clause-lacks
returns-clause-lacks g c store open_now alone has =
    let it = state g.S.Store c.args.conn.now in
    let settled = c.is_autocommit.ensures.settled (search rules) open_now in
    let lists : ListsForms c.schema-2.result.now = subst ListsForms (sym c.schema-2.ensures.value) c.in-Ok.ensures.forms in
    let here : HasForms c.args.edition it.now.schema = subst (λ (d : Database). HasForms c.args.edition d.schema) (sym settled) has in
    let found = forms_found c.args.edition it.now (c.schema.ensures.live open_now).0 here in
    true≢false (sym (c.all_stand.ensures.found lists (λ k. subst (λ s. StandsOrLacks c.args.edition s (table_of k)) (sym c.schema.ensures.value) (found k))) ∙ c.if-all_stand.false)
