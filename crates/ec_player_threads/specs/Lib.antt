pub mod Frames
pub mod Threads
pub mod Rounds
pub mod IsAhead
pub mod Plays
