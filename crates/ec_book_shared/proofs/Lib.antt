pub mod Holding
pub mod Books
pub mod Sending
pub mod Journaled
