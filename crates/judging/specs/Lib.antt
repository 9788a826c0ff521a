pub mod Bending
pub mod Breaches
pub mod Decks
pub mod Judgement
pub mod Judges
pub mod Kept
pub mod Spots
pub mod Steps
