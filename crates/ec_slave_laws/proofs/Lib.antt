pub mod PutLemmas
pub mod StepLemmas
pub mod WholeLemmas
pub mod ReadLemmas
pub mod LineLemmas
