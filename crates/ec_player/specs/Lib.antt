pub mod Sent
pub mod Boxes
pub mod Trips
pub mod Faults
pub mod Images
pub mod Lines
pub mod Rows
pub mod Plays
