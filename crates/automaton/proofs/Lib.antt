pub mod Trees
pub mod Locations
pub mod Answers
