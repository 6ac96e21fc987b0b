use Rattle.office_machine.proofs.NoParents.{no_owner_is_replaced, no_parent_is_made}
use Rattle.office_machine.proofs.NoParents.Named.{no_kind_is_forgotten}
use Rattle.office_machine.proofs.laws.no_parents.Goals as goal

pub returns-clause-made : goal.returns-clause-made
returns-clause-made c = no_parent_is_made

pub returns-clause-replaced : goal.returns-clause-replaced
returns-clause-replaced c = no_owner_is_replaced

pub returns-clause-kinds : goal.returns-clause-kinds
returns-clause-kinds c = no_kind_is_forgotten
