-- The kind of each query.
use Rattle.office_commands.specs.declared.queries.Query.{Query}
use Rattle.office_commands.specs.declared.queries.Query.TheVariants as queries
use Rattle.office_commands.specs.declared.command.QueryKind.{QueryKind}
use Rattle.office_commands.specs.declared.command.QueryKind.TheVariants as kinds

-- the kind of a query, which is its route without parameters
abbrev pub query_kind_of : Query → QueryKind
query_kind_of (queries.Line line) = kinds.Line
query_kind_of queries.Ledger = kinds.Ledger
query_kind_of (queries.Minutes notice) = kinds.Minutes
query_kind_of (queries.Register notice) = kinds.Register
query_kind_of (queries.Releases notice) = kinds.Releases
query_kind_of (queries.Record notice) = kinds.Record
query_kind_of (queries.Tender receipt) = kinds.Tender
query_kind_of (queries.Security security) = kinds.Security
query_kind_of (queries.Performance contract) = kinds.Performance
query_kind_of (queries.Notices after) = kinds.Notices
query_kind_of (queries.Terms notice) = kinds.Terms
query_kind_of (queries.OwnTenders notice) = kinds.OwnTenders
query_kind_of (queries.Evaluation notice) = kinds.Evaluation
query_kind_of (queries.Securities notice) = kinds.Securities
query_kind_of (queries.Tenderers after) = kinds.Tenderers
query_kind_of (queries.Contract contract) = kinds.Contract
