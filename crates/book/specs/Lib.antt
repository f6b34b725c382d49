pub mod Refusals
pub mod Terms
pub mod Events
pub mod Bytes
pub mod Chains
pub mod Ends
