pub mod Fronts
pub mod NodeWords
pub mod Reading
pub mod Text
pub mod Views
pub mod Gathers
