pub mod Passing
pub mod Placing
pub mod Reading
pub mod Scanning
pub mod Summing
pub mod Levers
pub mod Verdicts
pub mod Keeping
