pub mod Kept
pub mod Everywhere
pub mod ByChains
