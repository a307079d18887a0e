pub mod Memory
pub mod Refusals
