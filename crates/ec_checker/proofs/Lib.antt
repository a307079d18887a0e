pub mod CheckLemmas
pub mod FoundLemmas
pub mod HeadLemmas
pub mod LevelLemmas
pub mod WalkLemmas
pub mod BelowLemmas
