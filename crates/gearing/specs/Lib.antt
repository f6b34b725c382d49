pub mod Gearing
pub mod Laws
