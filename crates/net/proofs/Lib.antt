pub mod Advance
pub mod Tables
pub mod Asked
pub mod Makings
