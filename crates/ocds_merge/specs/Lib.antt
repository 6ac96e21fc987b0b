pub mod Identified
pub mod Merge
pub mod Compile
pub mod Stored
pub mod Laws
pub mod Examples
pub mod Inside
