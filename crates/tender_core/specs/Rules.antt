-- The rules of commands: for each, the rows that it reads, the conditions of its refusals, and its changes.
pub mod Import
pub mod Register
pub mod Publish
pub mod AmendNotice
pub mod Present
pub mod Modify
pub mod Withdraw
pub mod Open
pub mod Cancel
