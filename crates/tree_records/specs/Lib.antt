pub mod TreeRecords
