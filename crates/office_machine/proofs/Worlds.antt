-- Two worlds that differ only in the bytes that one tenderer seals.
pub mod RepliesAlike
pub mod SealsKept
pub mod TendersShown
pub mod WholeRuns
pub mod WorldsKept
pub mod WorldsPut
pub mod WorldsRows
pub mod WorldsSealed
pub mod WorldsStep
