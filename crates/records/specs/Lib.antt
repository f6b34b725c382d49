pub mod Fields
pub mod Model
pub mod Automaton
pub mod Books
pub mod Fits
pub mod Returns
pub mod Heads
