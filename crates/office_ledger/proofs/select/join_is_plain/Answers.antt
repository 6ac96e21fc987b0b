use Rattle.office_ledger.proofs.Joining.{joined_means}
use Rattle.office_ledger.proofs.select.join_is_plain.Goals as goal

pub returns : goal.returns
returns c schema at four = (joined_means schema at four).plain
