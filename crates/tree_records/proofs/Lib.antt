pub mod Once
pub mod Naming
pub mod Segments
pub mod TreeRecords
