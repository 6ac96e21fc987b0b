use Rattle.office_store.proofs.Names.{sym, subst, Database, memory_is_clean, HasForm}
use Rattle.office_store.proofs.forms.blank.Goals as goal

pub returns-then-is_autocommit-clause-forms : goal.returns-then-is_autocommit-clause-forms
returns-then-is_autocommit-clause-forms c =
    let founded = c.in_default-found.ensures.founded (memory_is_clean c.found.new.conn) (λ open_now. (c.is_live.ensures open_now).1) in
    let settled = c.is_autocommit.ensures.settled c.if-is_autocommit.true founded.is_open in
    λ k. subst (λ (d : Database). HasForm d.schema k) (sym settled) (founded.tables.places k, founded.tables.tables k)
