pub mod Stances
