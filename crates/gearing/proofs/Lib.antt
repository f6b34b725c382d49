pub mod Gearing
