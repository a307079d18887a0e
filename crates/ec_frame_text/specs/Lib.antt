pub mod Hex
pub mod Lines
pub mod Captures
