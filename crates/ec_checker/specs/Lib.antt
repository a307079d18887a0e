pub mod Certified
pub mod Examples
pub mod Judged
pub mod Laws
pub mod Levels
