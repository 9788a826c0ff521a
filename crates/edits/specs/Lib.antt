pub mod Carrying
pub mod Edits
pub mod Faults
