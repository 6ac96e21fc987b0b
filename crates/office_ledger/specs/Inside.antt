pub mod Adding
pub mod Listing
