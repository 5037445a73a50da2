pub mod Either
pub mod Addresses
