pub mod Datagrams
pub mod Examples
