-- Notices, the clock and releases after each accepted command.
pub mod ClockSet
pub mod MergesApart
pub mod NextIs
pub mod ReleasesCounted
pub mod ReleasesInTime
pub mod ReleasesMade
pub mod ReleasesNumbered
