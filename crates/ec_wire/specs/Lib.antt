pub mod Stream
pub mod Wire
