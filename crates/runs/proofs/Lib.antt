pub mod Histories
pub mod Everywhere
pub mod Replays
