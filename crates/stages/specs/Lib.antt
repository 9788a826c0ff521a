pub mod Staging
pub mod Plans
pub mod Steps
pub mod Meaning
pub mod Staged
