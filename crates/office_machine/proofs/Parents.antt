-- The rows that other rows refer to.
pub mod NoOrphans
pub mod ParentsPut
pub mod ParentsThere
pub mod PerformancesAsked
pub mod RowsHave
pub mod SpokenOf
pub mod Whole
