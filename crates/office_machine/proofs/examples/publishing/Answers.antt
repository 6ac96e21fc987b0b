use Rattle.office_machine.proofs.Worked.Publishing.{publishing_worked}
use Rattle.office_machine.proofs.examples.publishing.Goals as goal

pub returns : goal.returns
returns c = publishing_worked
