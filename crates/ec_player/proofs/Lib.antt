pub mod CopyLemmas
pub mod FrameReading
pub mod ReplyLemmas
pub mod TripLemmas
pub mod LineLemmas
pub mod TickLemmas
pub mod ImageLemmas
