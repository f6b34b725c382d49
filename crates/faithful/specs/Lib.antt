pub mod Theorems
pub mod Mixed
