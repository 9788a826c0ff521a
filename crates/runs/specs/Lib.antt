pub mod Drafts
pub mod Law
