pub mod Fields
pub mod Walks
pub mod Naming
pub mod Reached
pub mod Queues
pub mod Reaches
