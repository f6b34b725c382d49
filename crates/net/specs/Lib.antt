pub mod Invariant
pub mod Nets
