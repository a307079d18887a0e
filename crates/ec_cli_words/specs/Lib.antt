pub mod Merges
pub mod Names
pub mod Numbers
pub mod Parts
pub mod Paths
pub mod Trials
