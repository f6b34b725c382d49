pub mod ReadsBack
pub mod Renumbered
