pub mod Captures
pub mod Merged
pub mod Planned
pub mod RightTexts
pub mod Told
