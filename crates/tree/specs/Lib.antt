pub mod Calls
pub mod Trees
pub mod Under
pub mod Widths
