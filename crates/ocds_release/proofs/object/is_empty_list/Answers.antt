use Rattle.ocds_release.proofs.Names.{◌∙◌, ap, sym, view, view-Array, is_empty_list}
use Rattle.ocds_release.proofs.EmptyLists.{is_empty_vec}
use Rattle.ocds_release.proofs.object.is_empty_list.Goals as goal

pub returns-in-Array : goal.returns-in-Array
returns-in-Array c = c.is_empty.ensures ∙ is_empty_vec c.in-Array.list ∙ sym (ap (λ d. is_empty_list d) (ap view c.in-Array.is ∙ view-Array c.in-Array.list))
