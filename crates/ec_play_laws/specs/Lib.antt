pub mod IsReply
pub mod Counters
pub mod Started
pub mod IsReady
pub mod Arrivals
pub mod Examples
