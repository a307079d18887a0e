pub mod Table
pub mod Written
pub mod Reading
pub mod Parsing
pub mod EntryViews
pub mod IsReadBack
pub mod FaultTexts
