pub mod Framed
pub mod Lines
pub mod Outcomes
pub mod Output
pub mod Plans
