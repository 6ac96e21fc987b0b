pub mod Names
pub mod Forms
pub mod Lines
pub mod Documents
pub mod CommandLine
pub mod Numbers
