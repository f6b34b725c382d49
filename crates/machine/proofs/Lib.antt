pub mod Arrays
pub mod Asked
pub mod Lowest
