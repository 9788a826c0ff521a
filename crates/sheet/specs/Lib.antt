pub mod Asking
pub mod Calls
pub mod Memory
pub mod Opening
pub mod Rehearsing
pub mod Tally
pub mod Weighing
