pub mod Replacing
pub mod RowRanges
pub mod Inside
