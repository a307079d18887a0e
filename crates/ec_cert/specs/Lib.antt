pub mod IsBestPlan
pub mod LeafKinds
pub mod Parts
pub mod Shapes
pub mod Versions
pub mod WellFormed
