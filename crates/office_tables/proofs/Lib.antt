pub mod Names
pub mod Exactly
pub mod ItemLemmas
pub mod ItemReading
pub mod RowsBack
mod Sorted
mod KeptRows
pub mod Childless
mod Upserted
mod RowsPut
mod Selected
mod RowsDropped
pub mod Meanings
mod Made
pub mod Whole
pub mod LoweredTests
mod LoweredColumns
pub mod OneTable
pub mod Simple
pub mod Selecting
mod Asking
mod Deletes
mod Drops
mod Asked
mod Reading
pub mod Cells
mod Keyed
mod Upserts
mod Renewed
mod Writes
mod Held
mod TableTools
mod ByTable
pub mod Each
pub mod PutsApart
mod Stepping
mod CreateTexts
mod Grown
mod Makes
mod Founds
mod MakingSteps
mod Emptied
mod LaterTables
pub mod EarlierEditions
mod Told
mod Versions
mod Failing
pub mod Statements
