pub mod Rules
pub mod Best
