pub mod GoingLemmas
pub mod FrameLemmas
pub mod WithinLemmas
pub mod StartLemmas
