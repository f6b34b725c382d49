pub mod Filling
pub mod Stations
pub mod Reading
pub mod Standing
pub mod Firsts
pub mod Asking
