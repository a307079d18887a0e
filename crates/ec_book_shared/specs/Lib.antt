pub mod Receipts
pub mod Seats
pub mod Closing
