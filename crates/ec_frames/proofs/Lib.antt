pub mod ViewSteps
pub mod WrittenSteps
pub mod BuildFaults
pub mod ParsingSteps
pub mod ReadingLaws
pub mod ReadingLists
pub mod ReadingFrames
pub mod WrittenReads
