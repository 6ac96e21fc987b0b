pub mod Names
pub mod ImportsAgree
mod LinesAgree
mod ReadingsPut
mod Walked
