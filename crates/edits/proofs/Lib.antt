pub mod Putting
pub mod Carries
