pub mod AnswerLemmas
pub mod GrowLemmas
pub mod KeptLemmas
pub mod LevelLemmas
pub mod RangeLemmas
pub mod ResumeLemmas
pub mod RiseLemmas
pub mod ShowLemmas
