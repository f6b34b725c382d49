pub mod Known
pub mod Telling
