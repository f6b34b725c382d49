pub mod Options
pub mod Membership
pub mod Lcm
pub mod Sound
pub mod OneTime
pub mod Lowest
pub mod Devs
pub mod Simulation
