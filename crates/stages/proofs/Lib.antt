pub mod Masses
pub mod Judgings
pub mod Following
pub mod Running
pub mod Restoring
pub mod Asking
pub mod Encodings
pub mod Meanings
