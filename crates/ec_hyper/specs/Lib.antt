pub mod Lcm
pub mod Travel
