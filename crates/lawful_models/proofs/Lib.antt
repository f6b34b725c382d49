pub mod Reading
pub mod Goals
pub mod Limits
pub mod Scales
pub mod Windows
pub mod Phases
pub mod Counting
pub mod Accepted
