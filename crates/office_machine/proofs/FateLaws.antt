-- The fates of tenders and securities.
pub mod Added
pub mod Decisions
pub mod FatesChanged
pub mod FatesHold
pub mod FatesKept
pub mod LateRulesKept
pub mod LotClosed
pub mod Matched
pub mod NextReceipt
pub mod PerformancesKept
pub mod QuietFates
pub mod RowsFolded
pub mod Seen
pub mod States
pub mod Steps
pub mod Views
