-- Definitions for private clauses. No public clause uses them.
pub mod Step
pub mod Places
pub mod Scan
pub mod Pending
pub mod Splice
pub mod Readable
