pub mod NetScale
pub mod Openings
