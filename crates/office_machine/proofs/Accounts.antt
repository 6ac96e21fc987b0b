-- The accounts: moves, balances and the facts that commands keep.
pub mod AccountsKept
pub mod AllFit
pub mod Aside
pub mod Balance
pub mod Entered
pub mod Idle
pub mod Joins
pub mod Kept
pub mod LotChanged
pub mod Outstanding
