pub mod Some
pub mod Paths
pub mod EdgeRules
