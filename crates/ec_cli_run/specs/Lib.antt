pub mod Merging
pub mod Older
pub mod Runs
pub mod Sound
