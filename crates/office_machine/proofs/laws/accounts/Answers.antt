use Rattle.office_machine.proofs.Accounts.AccountsKept.{lines_balanced}
use Rattle.office_machine.proofs.Accounts.AllFit.{sums_fit}
use Rattle.office_machine.proofs.Rows.SortedTables.{sorted}
use Rattle.office_machine.proofs.laws.accounts.Goals as goal

pub returns : goal.returns
returns c = λ means xs t reached. record {
  balanced = lines_balanced means xs t reached;
  within = λ number r found. ((sums_fit means xs t reached).contracts number r found).within;
  in_order = sorted means xs t reached;
}
