pub mod Lines
pub mod Plays
