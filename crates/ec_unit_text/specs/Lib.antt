pub mod AtKey
pub mod FaultText
pub mod Fits
pub mod Rank
pub mod Reading
pub mod Said
pub mod UnitText
