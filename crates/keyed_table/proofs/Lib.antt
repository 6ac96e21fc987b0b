pub mod Names
pub mod RowDropped
pub mod KeyedTrees
pub mod RowRanges
pub mod Undone
