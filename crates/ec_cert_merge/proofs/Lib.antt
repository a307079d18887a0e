pub mod BothLemmas
pub mod CertLemmas
pub mod LoopLemmas
pub mod OutcomeLemmas
pub mod PartLemmas
pub mod TreeLemmas
