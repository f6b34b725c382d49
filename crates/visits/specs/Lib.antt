pub mod Smallest
pub mod Visits
