pub mod Names
pub mod Orders
pub mod RowLaws
pub mod SortedTables
pub mod Looked
pub mod PotsFound
pub mod WithinTests
pub mod JoinedSums
pub mod SumsOver
pub mod EntrySums
pub mod ExactKeys
mod AllPages
