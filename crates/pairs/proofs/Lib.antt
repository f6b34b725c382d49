pub mod Meeting
pub mod Tables
