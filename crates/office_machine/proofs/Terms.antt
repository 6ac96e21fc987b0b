-- The terms of notices and lots, the entries of contracts, tenderers, imports, and which tenders are in time.
pub mod ContractsKept
pub mod ImportsKept
pub mod InTime
pub mod PagesAlong
pub mod Said
pub mod TermsKept
