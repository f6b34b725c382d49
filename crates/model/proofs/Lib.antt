pub mod Trees
pub mod Scales
pub mod Lawful
pub mod Words
pub mod Phases
pub mod Known
pub mod Answers
