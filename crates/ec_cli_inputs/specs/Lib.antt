pub mod Input
pub mod Use
