pub mod Asking
pub mod Folding
pub mod Ints
pub mod Parts
pub mod Rows
