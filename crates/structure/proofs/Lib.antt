pub mod Searching
pub mod Counts
pub mod Marking
pub mod Stages
pub mod Soundness
pub mod Filling
pub mod Told
pub mod Rewriting
