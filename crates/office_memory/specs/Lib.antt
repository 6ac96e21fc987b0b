pub mod MemoryTables
pub mod MemoryMeaning
pub mod Inside
