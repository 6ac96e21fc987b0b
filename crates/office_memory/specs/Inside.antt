-- Definitions that only private clauses and the clauses of indexes use.
pub mod Drops
pub mod IdBounds
pub mod GroupIndex
pub mod Adding
