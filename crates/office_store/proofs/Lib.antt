pub mod Names
mod Kept
mod Once
mod Shelves
mod FormsStand
mod FormsFound
pub mod Causes
mod RestKept
pub mod Founding
mod Migrating
mod Reopening
mod LogCauses
mod ReadLogs
mod Paths
mod Joined
mod Taking
mod Readying
mod Shutting
pub mod Adding
