pub mod Rules
pub mod Walks
pub mod Agreeing
