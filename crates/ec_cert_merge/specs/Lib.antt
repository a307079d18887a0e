pub mod Certs
pub mod Laws
pub mod Merged
