pub mod AreAscii
pub mod IsPlain
pub mod IsShown
