-- The table of commands and queries. A row has the right, the pattern of the path, the parameters in the path, and the other parts of the request that are
-- read.
use Rattle.std.specs.Prelude.{ℕ, List, [], ◌∷◌, codes}
use Rattle.office_commands.specs.declared.command.CommandKind.{CommandKind}
use Rattle.office_commands.specs.declared.command.CommandKind.TheVariants as commands
use Rattle.office_commands.specs.declared.command.QueryKind.{QueryKind}
use Rattle.office_commands.specs.declared.command.QueryKind.TheVariants as queries
use Rattle.office_commands.specs.declared.table.Right.{Right}
use Rattle.office_commands.specs.declared.table.Right.TheVariants.{Anybody, Clerk, Tenderers, ClerkAndTenderers}
use Rattle.office_commands.specs.declared.table.Shape.{Shape}
use Rattle.office_commands.specs.declared.table.Shape.TheVariants.{Plain, OneId, TwoIds, Number}

-- the parts of a request that the office reads beside the path
pub data Reads : Type 0 where
  Nothing : Reads
  Query : Reads
  Body : Reads
  QueryAndBody : Reads

-- a row of the table: the right to send the request, the pattern of its path, the parameters in the path, and the other parts that are read
pub record TableRow : Type 0 where
  pub right : Right
  pub pattern : List ℕ
  pub shape : Shape
  pub reads : Reads

abbrev row : Right → List ℕ → Shape → Reads → TableRow
row right pattern shape reads = record { right = right; pattern = pattern; shape = shape; reads = reads }

-- the row of a command: the clerk keeps the budget, the notices and the contracts, and tenderers submit, modify and withdraw tenders
abbrev pub command_row : CommandKind → TableRow
command_row commands.Import = row Clerk (codes "/budget/{batch}") OneId Body
command_row commands.Register = row Clerk (codes "/tenderers/{id}") OneId Body
command_row commands.Publish = row Clerk (codes "/notices/{n}") OneId Body
command_row commands.AmendNotice = row Clerk (codes "/notices/{n}/amend") OneId Body
command_row commands.Cancel = row Clerk (codes "/notices/{n}/cancel") OneId Body
command_row commands.Open = row Clerk (codes "/notices/{n}/open") OneId Nothing
command_row commands.Present = row Tenderers (codes "/notices/{n}/lots/{l}/tenders") TwoIds QueryAndBody
command_row commands.Modify = row Tenderers (codes "/tenders/{r}/modify") Number Body
command_row commands.Withdraw = row Tenderers (codes "/tenders/{r}/withdraw") Number Nothing
command_row commands.Examine = row Clerk (codes "/tenders/{r}/examine") Number Body
command_row commands.Award = row Clerk (codes "/notices/{n}/lots/{l}/award") TwoIds Nothing
command_row commands.Fail = row Clerk (codes "/awards/{a}/fail") Number Nothing
command_row commands.Sign = row Clerk (codes "/awards/{a}/sign") Number Body
command_row commands.AmendContract = row Clerk (codes "/contracts/{c}/amend") Number Body
command_row commands.Pay = row Clerk (codes "/contracts/{c}/pay") Number Body
command_row commands.End = row Clerk (codes "/contracts/{c}/end") Number Body

-- the row of a query. Anybody may ask for the books, the notices and the evaluation. Tenderers ask for their tenders. The clerk asks for the register of
-- tenders, the securities of a notice and the tenderers. Both ask for a single security or contract.
abbrev pub query_row : QueryKind → TableRow
query_row queries.Line = row Anybody (codes "/lines/{b}") OneId Nothing
query_row queries.Ledger = row Anybody (codes "/ledger") Plain Nothing
query_row queries.Minutes = row Anybody (codes "/notices/{n}/minutes") OneId Nothing
query_row queries.Register = row Clerk (codes "/notices/{n}/register") OneId Nothing
query_row queries.Releases = row Anybody (codes "/notices/{n}/releases") OneId Nothing
query_row queries.Record = row Anybody (codes "/notices/{n}/record") OneId Nothing
query_row queries.Tender = row Tenderers (codes "/tenders/{r}") Number Nothing
query_row queries.Security = row ClerkAndTenderers (codes "/securities/{s}") Number Nothing
query_row queries.Performance = row ClerkAndTenderers (codes "/contracts/{c}/security") Number Nothing
query_row queries.Notices = row Anybody (codes "/notices") Plain Query
query_row queries.Terms = row Anybody (codes "/notices/{n}/terms") OneId Nothing
query_row queries.OwnTenders = row Tenderers (codes "/notices/{n}/tenders") OneId Nothing
query_row queries.Evaluation = row Anybody (codes "/notices/{n}/evaluation") OneId Nothing
query_row queries.Securities = row Clerk (codes "/notices/{n}/securities") OneId Nothing
query_row queries.Tenderers = row Clerk (codes "/tenderers") Plain Query
query_row queries.Contract = row ClerkAndTenderers (codes "/contracts/{c}") Number Nothing

-- all kinds of commands, in the order of their routes
abbrev pub all_commands : List CommandKind
all_commands =
    commands.Import ∷ commands.Register ∷ commands.Publish ∷ commands.AmendNotice ∷ commands.Cancel ∷ commands.Open ∷ commands.Present ∷ commands.Modify
    ∷ commands.Withdraw ∷ commands.Examine ∷ commands.Award ∷ commands.Fail ∷ commands.Sign ∷ commands.AmendContract ∷ commands.Pay ∷ commands.End ∷ []

-- all kinds of queries, in the order of their routes
abbrev pub all_queries : List QueryKind
all_queries =
    queries.Line ∷ queries.Ledger ∷ queries.Minutes ∷ queries.Register ∷ queries.Releases ∷ queries.Record ∷ queries.Tender ∷ queries.Security
    ∷ queries.Performance ∷ queries.Notices ∷ queries.Terms ∷ queries.OwnTenders ∷ queries.Evaluation ∷ queries.Securities ∷ queries.Tenderers ∷ queries.Contract ∷ []
