pub mod Faults
pub mod Forms
pub mod Records
pub mod Reading
pub mod Writing
