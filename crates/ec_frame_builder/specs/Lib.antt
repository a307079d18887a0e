pub mod Frames
pub mod Within
pub mod Start
pub mod Examples
