pub mod Added
pub mod Judged
pub mod Lines
