pub mod Turns
pub mod IsCrewed
pub mod IsOpening
