-- The rules of commands: for each, the rows that it reads, the conditions of its refusals, and its changes.
pub mod Examine
pub mod Award
pub mod Fail
pub mod Sign
pub mod AmendContract
pub mod Pay
pub mod End
