pub mod SqlMeaning
pub mod Forms
pub mod Others
pub mod Founding
pub mod Logs
pub mod Reopening
pub mod LedgerRows
pub mod Shutting
