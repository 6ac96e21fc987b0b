use Rattle.office_machine.proofs.Terms.ImportsKept.{imports_kept}
use Rattle.office_machine.proofs.laws.imports.Goals as goal

pub returns : goal.returns
returns c = imports_kept
