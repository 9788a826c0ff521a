pub mod Openings
pub mod Stepping
pub mod Verdicts
pub mod Corrections
pub mod Changes
pub mod Rehearsals
