pub mod Falling
pub mod Firsts
pub mod Knowing
pub mod Rows
pub mod Counting
pub mod Taking
