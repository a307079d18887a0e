pub mod IsLine
pub mod Replies
pub mod Maps
pub mod Stamps
pub mod Examples
