pub mod Envelopes
pub mod Faults
pub mod Fields
pub mod Polygons
pub mod Refusals
pub mod Spans
pub mod Sums
