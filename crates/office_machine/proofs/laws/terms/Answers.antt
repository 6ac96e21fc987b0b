use Rattle.office_machine.proofs.Terms.TermsKept.{entries_kept, tenderers_kept, terms_kept}
use Rattle.office_machine.proofs.laws.terms.Goals as goal

pub returns-clause-notices : goal.returns-clause-notices
returns-clause-notices c = terms_kept

pub returns-clause-entries : goal.returns-clause-entries
returns-clause-entries c = entries_kept

pub returns-clause-tenderers : goal.returns-clause-tenderers
returns-clause-tenderers c = tenderers_kept
