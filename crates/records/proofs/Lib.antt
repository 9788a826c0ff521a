pub mod Overs
pub mod Puts
pub mod Bytes
pub mod Exacts
