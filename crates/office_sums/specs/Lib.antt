pub mod Touched
pub mod Remembered
pub mod Numbered
pub mod Carried
pub mod Found
pub mod RememberingMeaning
