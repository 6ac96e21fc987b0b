-- Definitions that only private clauses use.
pub mod Reading
pub mod TenderParts
