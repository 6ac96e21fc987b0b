use Rattle.office_store.proofs.Names.{List, ℕ, map, sym, subst, Has, OfficeTable, table_of, all_tables, listed}
use Rattle.office_store.proofs.FormsFound.{has_mapped, plain, was_mapped}
use Rattle.office_store.proofs.forms.all_stand.Goals as goal

abbrev name_of : OfficeTable → List ℕ
name_of k = (table_of k).name

pub returns-clause-right : goal.returns-clause-right
returns-clause-right c stands lists k =
    c.named_stand.ensures.right stands (table_of k) (lists k).0
    (subst (λ l. Has l (name_of k)) (sym c.table_names-names.ensures) (has_mapped name_of all_tables k (listed k))) (lists k).1

pub returns-clause-found : goal.returns-clause-found
returns-clause-found c lists each =
    c.named_stand.ensures.found (λ name h.
    let (k, _, is) = was_mapped name_of all_tables name (subst (λ l. Has l name) c.table_names-names.ensures h) in
    (table_of k, (lists k).0, is, (lists k).1, plain k, each k))
