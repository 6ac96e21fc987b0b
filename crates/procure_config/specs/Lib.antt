pub mod Configuration
pub mod Faults
pub mod Jobs
pub mod WorkedSettings
