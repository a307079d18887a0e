pub mod WireLemmas
pub mod StampLemmas
pub mod PlayLemmas
pub mod ReplyLemmas
pub mod MapLemmas
