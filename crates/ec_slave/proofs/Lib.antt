pub mod RangeLemmas
pub mod MapLemmas
pub mod StretchLemmas
pub mod WriteLemmas
pub mod StepLemmas
pub mod IdleLemmas
pub mod JourneyLemmas
