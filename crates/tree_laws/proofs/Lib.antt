pub mod Tests
pub mod Records
pub mod Chains
pub mod Apart
pub mod Paths
pub mod Stages
