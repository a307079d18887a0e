pub mod CheckedLemmas
pub mod FramedLemmas
pub mod PlanLemmas
pub mod ResumeLemmas
pub mod ToldLemmas
