pub mod Given
pub mod Learned
pub mod Telling
