pub mod Leaving
pub mod Rows
pub mod TieLemmas
