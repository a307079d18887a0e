pub mod Bytes
pub mod Load
pub mod Names
pub mod Together
pub mod Views
