pub mod Order
pub mod Seats
pub mod Next
pub mod Layout
pub mod Records
pub mod Mappings
pub mod Addresses
pub mod Examples
