pub mod Lowest
pub mod Counted
pub mod Hands
