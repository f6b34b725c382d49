pub mod Limited
pub mod Divisors
pub mod Examples
