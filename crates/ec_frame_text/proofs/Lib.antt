pub mod LineLemmas
pub mod OnceLemmas
