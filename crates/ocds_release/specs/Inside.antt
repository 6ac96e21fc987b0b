pub mod Words
pub mod Parts
pub mod Built
pub mod Earlier
pub mod Splicing
pub mod Notices
