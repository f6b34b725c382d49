pub mod Search
pub mod Faults
pub mod Structure
pub mod Tables
pub mod Sound
pub mod Heads
pub mod Examples
pub mod Rewritten
