-- The rows of a table: finding, putting, changing, dropping and counting them.
pub mod Counting
pub mod Keyed
pub mod Mapped
pub mod Numbered
pub mod RowsChanged
pub mod RowsPut
pub mod SortedTables
