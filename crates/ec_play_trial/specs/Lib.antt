pub mod Members
pub mod Shorts
pub mod Rounds
pub mod Trials
pub mod Texts
pub mod Captures
