pub mod Counting
pub mod Chains
pub mod Members
pub mod Meeting
pub mod Closure
pub mod Listed
