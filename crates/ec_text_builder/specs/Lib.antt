pub mod Amount
pub mod IsAdded
